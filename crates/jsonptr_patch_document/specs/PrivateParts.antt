-- Words of private clauses alone: an operation that is borrowed from its document.
use Rattle.jsonptr.specs.Pointer.{tokens}
use Rattle.jsonptr_patch.specs.declared.operation.Operation.{Operation}
use Rattle.jsonptr_patch.specs.declared.operation.Operation.TheVariants.{Add, Remove, Replace, Move, Copy, Test}
use Rattle.jsonptr_patch_document.specs.declared.parts.Parts.{Parts}
use Rattle.jsonptr_patch_document.specs.declared.parts.Parts.TheVariants as parts

-- `operation_of p`: the operation that the parts `p` are of
abbrev pub operation_of : Parts → Operation
operation_of (parts.Add path value) = Add (tokens path) value.now
operation_of (parts.Remove path) = Remove (tokens path)
operation_of (parts.Replace path value) = Replace (tokens path) value.now
operation_of (parts.Move from path) = Move (tokens from) (tokens path)
operation_of (parts.Copy from path) = Copy (tokens from) (tokens path)
operation_of (parts.Test path value) = Test (tokens path) value.now
