-- A move and a copy of a value, and the error of one operation.
use Rattle.std.specs.Prelude.{◌≡◌, ◌⊎◌, ℕ, List, [], ◌∷◌, ◌++◌, Option, Some, None, ⊤}
use Rattle.serde_json.specs.Data.{Data}
use Rattle.jsonptr.specs.Text.{Text}
use Rattle.jsonptr_patch.specs.Failing.{HasCause}
use Rattle.jsonptr_patch.specs.declared.operation.PatchError.TheVariants.{NoTarget, BadPlace}
use Rattle.jsonptr_patch.specs.Operating.{IsProperPrefix}
use Rattle.jsonptr_patch.specs.declared.failed_operation.FailedOperation.{FailedOperation}
use Rattle.jsonptr_patch.specs.declared.failed_operation.PatchPointer.{PatchPointer}
use Rattle.jsonptr_patch.specs.declared.failed_operation.PatchPointer.TheVariants as pointer
use Rattle.jsonptr_text_resolve.specs.InText.{FindsInText}
use Rattle.jsonptr_value.specs.NodeTypes.{type_of, length_of}
use Rattle.jsonptr_value.specs.declared.types.NodeType.TheVariants as variant
use Rattle.jptr_tasks.specs.declared.operation.MoveError.{MoveError}
use Rattle.jptr_tasks.specs.declared.operation.MoveError.TheVariants.{IntoSelf, Memory}
use Rattle.jptr_tasks.specs.declared.task_error.TaskError.{TaskError}
use Rattle.jptr_tasks.specs.declared.task_error.TaskError.TheVariants.{Resolve, Assign, PatchFailed}

-- `IsMoveError fs ps e`: `e` is why no patch moves the value at `fs` to `ps`, unless an allocation failed
abbrev pub IsMoveError : List Text → List Text → MoveError → Type 0
IsMoveError fs ps IntoSelf = IsProperPrefix fs ps
IsMoveError fs ps (Memory e) = ⊤

-- `AreSiblings fs ps front y`: the tokens `fs` and `ps` are `front` and one more. The last of `ps` is `y`
abbrev pub AreSiblings : List Text → List Text → List Text → Text → Type 0
AreSiblings fs ps front y = ((x : Text) × (fs ≡ front ++ x ∷ [])) × (ps ≡ front ++ y ∷ [])

-- `IsFound text ts`: the tokens `ts` identify a value in the document of `text`
abbrev pub IsFound : Text → List Text → Type 0
IsFound text ts = (v : Data) × FindsInText text ts v

-- `HoldsOne d y`: `d` is an array or an object with one child, for which the token `y` is a place: a key of the object, or `-`
abbrev pub HoldsOne : Data → Text → Type 0
HoldsOne d y = (length_of d ≡ Some 1) × ((type_of d ≡ variant.Object) ⊎ ((type_of d ≡ variant.Array) × (y ≡ 45 ∷ [])))

-- `MovesOnlyChild text fs ps`: the tokens `fs` identify the only child of an array or an object in the document of `text`, and `ps`
-- are another place for it there: a key of the object, or the end of the array
abbrev pub MovesOnlyChild : Text → List Text → List Text → Type 0
MovesOnlyChild text fs ps =
    (front : List Text) × (y : Text) × (d : Data)
    × AreSiblings fs ps front y × IsFound text fs × FindsInText text front d × HoldsOne d y

-- `IsOwnError f e`: `e` is the error of the operation that fails with `f`, without its number: that of the pointer which is at
-- fault, if one is
abbrev pub IsOwnError : FailedOperation → TaskError → Type 0
IsOwnError f (Resolve cause) = (k : ℕ) × (f.error ≡ NoTarget k cause)
IsOwnError f (Assign cause) = (k : ℕ) × (f.error ≡ BadPlace k cause)
IsOwnError f (PatchFailed g) = (g ≡ f) × (HasCause f.error → ⊥)
IsOwnError f e = ⊥

-- `at_pointer at fs ps`: the tokens `fs` if `at` is `from`, and otherwise the tokens `ps`
abbrev pub at_pointer : Option PatchPointer → List Text → List Text → List Text
at_pointer (Some pointer.From) fs ps = fs
at_pointer (Some pointer.Path) fs ps = ps
at_pointer None fs ps = ps

-- `tokens_at_fault f fs ps`: the tokens of the pointer that the failed operation `f` is about, of `fs`, its `from`, and `ps`, its
-- `path`
abbrev pub tokens_at_fault : FailedOperation → List Text → List Text → List Text
tokens_at_fault f fs ps = at_pointer f.pointer fs ps
