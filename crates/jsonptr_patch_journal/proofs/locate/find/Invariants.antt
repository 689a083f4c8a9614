use Rattle.std.proofs.Common.{length}
use Rattle.serde_json.specs.View.{view}
use Rattle.jsonptr.specs.Pointer.{tokens}
use Rattle.jsonptr_patch_journal.proofs.LocatingLemmas.{Reaches}
use Rattle.jsonptr_patch_journal.proofs.locate.find.Given as goal

abbrev pub invariant-loop-token : goal.invariant-loop-token
invariant-loop-token l = Reaches (view l.document) (tokens l.fn.pointer) (tokens l.rest) l.steps.items (view l.node)

abbrev pub decreases-loop-token : goal.decreases-loop-token
decreases-loop-token l = length (tokens l.rest)
