use Rattle.jsonptr_patch_journal.proofs.ChainLemmas.{none_undone}
use Rattle.jsonptr_patch_journal.proofs.journal.Journal.new.Goals as goal

pub returns : goal.returns
returns c = none_undone _ c.new.ensures.items c.new-2.ensures.items
