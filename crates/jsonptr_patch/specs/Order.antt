-- The order of keys in the values that a patch adds to a document.
use Rattle.std.specs.Prelude.{⊤}
use Rattle.serde_json.specs.View.{view}
use Rattle.jsonptr.specs.Json.{HasSortedKeys}
use Rattle.jsonptr_patch.specs.declared.operation.Operation.{Operation}
use Rattle.jsonptr_patch.specs.declared.operation.Operation.TheVariants.{Add, Remove, Replace, Move, Copy, Test}

-- `OperationHasSortedKeys o`: the keys of each object in the value that `o` adds to the document are in ascending
-- order. The value of a test is only compared
abbrev pub OperationHasSortedKeys : Operation → Type 0
OperationHasSortedKeys (Add path value) = HasSortedKeys (view value)
OperationHasSortedKeys (Remove path) = ⊤
OperationHasSortedKeys (Replace path value) = HasSortedKeys (view value)
OperationHasSortedKeys (Move from path) = ⊤
OperationHasSortedKeys (Copy from path) = ⊤
OperationHasSortedKeys (Test path value) = ⊤
