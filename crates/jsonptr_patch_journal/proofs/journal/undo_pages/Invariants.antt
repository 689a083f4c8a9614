use Rattle.std.proofs.Common.{length}
use Rattle.jsonptr.specs.Content.{Content}
use Rattle.jsonptr_patch_journal.specs.Journal.{Pages}
use Rattle.jsonptr_patch_journal.proofs.journal.undo_pages.Given as goal

abbrev pub invariant-loop-page : goal.invariant-loop-page
invariant-loop-page g l = (c : Content) → Pages l.fn.pages.items c (g.D.NodeMut.contents l.fn.document) → Pages l.pages.items c (g.D.NodeMut.contents l.document)

abbrev pub decreases-loop-page : goal.decreases-loop-page
decreases-loop-page g l = length l.pages.items
