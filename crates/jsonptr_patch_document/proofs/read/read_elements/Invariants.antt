use Rattle.std.proofs.Common.{take}
use Rattle.serde_json.specs.View.{items_view}
use Rattle.jsonptr_patch_document.specs.Document.{AreOperations}
use Rattle.jsonptr_patch_document.proofs.read.read_elements.Given as goal

abbrev pub invariant-loop-operation : goal.invariant-loop-operation
invariant-loop-operation l = AreOperations (items_view (take l.operation l.entry-items)) l.patch.items
