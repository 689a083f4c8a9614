use Rattle.std.proofs.Common.{List, take}
use Rattle.serde_json.specs.View.{items_view}
use Rattle.jsonptr_patch.specs.declared.operation.Operation.{Operation}
use Rattle.jsonptr_patch_document.specs.Document.{AreOperations}
use Rattle.jsonptr_patch_document.proofs.read.first_error.Given as goal

abbrev pub invariant-loop-operation : goal.invariant-loop-operation
invariant-loop-operation l = (os : List Operation) × AreOperations (items_view (take l.operation l.entry-items)) os
