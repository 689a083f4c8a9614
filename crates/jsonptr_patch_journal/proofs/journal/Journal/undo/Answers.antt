use Rattle.std.proofs.Common.{sym, subst}
use Rattle.jsonptr.specs.Content.{Content}
use Rattle.jsonptr_patch_journal.specs.Journal.{Pages}
use Rattle.jsonptr_patch_journal.proofs.journal.Journal.undo.Goals as goal

pub undo_entries-requires : goal.undo_entries-requires
undo_entries-requires g c = (c.requires.1.between, c.requires.1.page)

pub undo_pages-requires : goal.undo_pages-requires
undo_pages-requires g c =
    let u = c.requires.1 in
    (c.requires.0, subst (λ (x : Content). Pages c.args.self.full.items c.requires.0 x) (sym (c.undo_entries.ensures u.between u.page)) u.pages)

pub returns : goal.returns
returns g c = λ f u. c.undo_pages.ensures f (subst (λ (x : Content). Pages c.args.self.full.items f x) (sym (c.undo_entries.ensures u.between u.page)) u.pages)
