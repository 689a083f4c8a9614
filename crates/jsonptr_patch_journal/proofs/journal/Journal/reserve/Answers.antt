use Rattle.std.proofs.Common.{refl}
use Rattle.jsonptr_patch_journal.proofs.ChainLemmas.{same_undone}
use Rattle.jsonptr_patch_journal.proofs.journal.Journal.reserve.Goals as goal

pub returns-then-is_empty-clause-undone : goal.returns-then-is_empty-clause-undone
returns-then-is_empty-clause-undone c = same_undone c.args.self.now _ refl c.reserve_exact.ensures.items
