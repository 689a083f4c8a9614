use Rattle.std.proofs.Common.{List, subst, sym}
use Rattle.jsonptr_patch_journal.specs.Journal.{Chain}
use Rattle.jsonptr_patch_journal.specs.declared.journal.Entry.{Entry}
use Rattle.jsonptr_patch_journal.proofs.ChainLemmas.{chain_more}
use Rattle.jsonptr_patch_journal.proofs.journal.Journal.push.Goals as goal

pub returns : goal.returns
returns c = λ was b d undone undoes. record {
  between = undone.between;
  pages = undone.pages;
  page = subst (λ (es : List Entry). Chain es undone.between d) (sym c.push_reserved.ensures.items) (chain_more c.args.self.now.entries.items c.args.entry undone.between b d undone.page undoes);
}
