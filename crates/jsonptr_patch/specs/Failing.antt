-- An operation that fails: its error, and which of its pointers is at fault.
use Rattle.std.specs.Prelude.{⊤, ℕ, List, Option, Some, None}
use Rattle.jsonptr.specs.Text.{Text}
use Rattle.jsonptr.specs.Types.Fault.{Fault}
use Rattle.jsonptr.specs.Types.Fault.TheVariants.{Refused, Memory}
use Rattle.jsonptr.specs.declared.resolve.Error.{Error as ResolveError}
use Rattle.jsonptr.specs.declared.assign.Error.{Error as AssignError}
use Rattle.jsonptr_patch.specs.declared.failed_operation.FailedOperation.{FailedOperation}
use Rattle.jsonptr_patch.specs.declared.failed_operation.PatchPointer.{PatchPointer}
use Rattle.jsonptr_patch.specs.declared.failed_operation.PatchPointer.TheVariants as pointer
use Rattle.jsonptr_patch.specs.declared.operation.Operation.{Operation}
use Rattle.jsonptr_patch.specs.declared.operation.Operation.TheVariants.{Add, Remove, Replace, Move, Copy, Test}
use Rattle.jsonptr_patch.specs.declared.operation.PatchError.{PatchError}
use Rattle.jsonptr_patch.specs.declared.operation.PatchError.TheVariants.{NoTarget, BadPlace, MoveIntoSelf, TestFloat, TestFailed}

-- `failed e at`: an operation fails with `e`, and `at` is its pointer at fault, if one is
abbrev pub failed : PatchError → Option PatchPointer → FailedOperation
failed e at = record { error = e; pointer = at }

-- `no_target k at cause`: the pointer `at` of operation number `k` does not resolve
abbrev pub no_target : ℕ → PatchPointer → ResolveError → FailedOperation
no_target k at cause = failed (NoTarget k cause) (Some at)

-- `bad_place k cause`: the last token of the `path` of operation number `k` is not an index at which a value can be added
abbrev pub bad_place : ℕ → AssignError → FailedOperation
bad_place k cause = failed (BadPlace k cause) (Some pointer.Path)

-- `move_into_self k`: operation number `k` moves a value below itself
abbrev pub move_into_self : ℕ → FailedOperation
move_into_self k = failed (MoveIntoSelf k) None

-- `test_float k`, `test_failed k`: operation number `k` tests a float, or two values that differ
abbrev pub test_float : ℕ → FailedOperation
test_float k = failed (TestFloat k) None

abbrev pub test_failed : ℕ → FailedOperation
test_failed k = failed (TestFailed k) None

-- `fault_at k at fault`: a fault of evaluating the pointer `at`, as that of operation number `k`
abbrev pub fault_at : ℕ → PatchPointer → Fault ResolveError → Fault FailedOperation
fault_at k at (Refused e) = Refused (no_target k at e)
fault_at k at (Memory e) = Memory e

-- `without_pointer fault`: the fault with the error alone
abbrev pub without_pointer : Fault FailedOperation → Fault PatchError
without_pointer (Refused f) = Refused f.error
without_pointer (Memory e) = Memory e

-- `HasCause e`: the error `e` is about a pointer, and has a cause
abbrev pub HasCause : PatchError → Type 0
HasCause (NoTarget k cause) = ⊤
HasCause (BadPlace k cause) = ⊤
HasCause (MoveIntoSelf k) = ⊥
HasCause (TestFloat k) = ⊥
HasCause (TestFailed k) = ⊥

-- `source_of o`: the pointer `from` of the operation `o`, if it has one
abbrev pub source_of : Operation → Option (List Text)
source_of (Add path value) = None
source_of (Remove path) = None
source_of (Replace path value) = None
source_of (Move from path) = Some from
source_of (Copy from path) = Some from
source_of (Test path value) = None
