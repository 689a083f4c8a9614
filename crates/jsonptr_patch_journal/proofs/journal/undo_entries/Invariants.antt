use Rattle.std.proofs.Common.{length}
use Rattle.jsonptr.specs.Content.{Content}
use Rattle.jsonptr_patch_journal.specs.Journal.{Chain}
use Rattle.jsonptr_patch_journal.proofs.journal.undo_entries.Given as goal

abbrev pub invariant-loop-entry : goal.invariant-loop-entry
invariant-loop-entry g l = (c : Content) → Chain l.fn.entries.items c (g.D.NodeMut.contents l.fn.document) → Chain l.entries.items c (g.D.NodeMut.contents l.document)

abbrev pub decreases-loop-entry : goal.decreases-loop-entry
decreases-loop-entry g l = length l.entries.items
