use Rattle.std.proofs.Common.{List, Vec, Global, ◌++◌, ◌∷◌, [], ◌∙◌, ap}
use Rattle.jsonptr_patch_journal.specs.declared.journal.Entry.{Entry}
use Rattle.jsonptr_patch_journal.proofs.ChainLemmas.{next_page}
use Rattle.jsonptr_patch_journal.proofs.journal.Journal.turn_to.Goals as goal

pub returns-clause-undone : goal.returns-clause-undone
returns-clause-undone c = next_page c.args.self.now _
    (c.push_reserved.ensures.items
    ∙ ap (λ (ps : List (Vec Entry Global)). ps ++ c.replace-filled.result ∷ []) c.in_ok-reserve.ensures.items
    ∙ ap (λ (p : Vec Entry Global). c.args.self.now.full.items ++ p ∷ []) c.replace-filled.ensures.value)
    (ap (λ (p : Vec Entry Global). p.items) c.replace-filled.ensures.after ∙ c.requires.empty)
