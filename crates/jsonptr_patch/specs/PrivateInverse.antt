-- Operations that take back the changes of a document. Used only by private contracts; no public contract depends on
-- this file.
use Rattle.std.specs.Prelude.{◌≡◌, ℕ, List, [], ◌∷◌, ◌++◌, reverse, All}
use Rattle.serde_json.specs.Data.{Data}
use Rattle.jsonptr.specs.Json.{HasSortedKeys}
use Rattle.jsonptr.specs.Node.{NodeMap}
use Rattle.jsonptr_patch.specs.Inverse.{TakesBack}
use Rattle.jsonptr_patch.specs.Operating.{RefusesTarget, RefusesAdd, RefusesMove, RefusesCopy}
use Rattle.jsonptr_patch.specs.Order.{OperationHasSortedKeys}
use Rattle.jsonptr_patch.specs.declared.failed_operation.FailedOperation.{FailedOperation}
use Rattle.jsonptr_patch.specs.declared.failed_operation.PatchPointer.TheVariants as pointer
use Rattle.jsonptr_patch.specs.declared.operation.Operation.{Operation}
use Rattle.jsonptr_patch.specs.declared.operation.Operation.TheVariants.{Add, Remove, Replace, Move, Copy, Test}

-- `AppendsBack os back ps`: `ps` are `os` and then the operations `back`, the last one first
abbrev pub AppendsBack : List Operation → List Operation → List Operation → Type 0
AppendsBack os back ps = ps ≡ os ++ reverse back

-- `AppendsBackOf n o os ps`: `ps` are `os` and then the operations that take back operation `o` on `n`, the last one first
abbrev pub AppendsBackOf : NodeMap → Operation → List Operation → List Operation → Type 0
AppendsBackOf n o os ps = (back : List Operation) × TakesBack n o back × AppendsBack os back ps

-- `IsPlaceBack o back`: the operations `back` remove a value that operation `o` adds where there was none. A value that is
-- moved is moved back
abbrev pub IsPlaceBack : Operation → List Operation → Type 0
IsPlaceBack (Add path value) back = back ≡ Remove path ∷ []
IsPlaceBack (Remove path) back = ⊥
IsPlaceBack (Replace path value) back = ⊥
IsPlaceBack (Move from path) back = back ≡ Move path from ∷ []
IsPlaceBack (Copy from path) back = back ≡ Remove path ∷ []
IsPlaceBack (Test path value) back = ⊥

-- `StaySorted d os ps`: if the keys of `d` are sorted, and those of the values in the operations `os`, so are those of the
-- values in the operations `ps`
abbrev pub StaySorted : Data → List Operation → List Operation → Type 0
StaySorted d os ps = HasSortedKeys d → All OperationHasSortedKeys os → All OperationHasSortedKeys ps

-- `RefusesChange n k o e`: operation `o`, with number `k`, fails on `n` with `e`, and is no test
abbrev pub RefusesChange : NodeMap → ℕ → Operation → FailedOperation → Type 0
RefusesChange n k (Add path value) e = RefusesAdd n k path e
RefusesChange n k (Remove path) e = RefusesTarget n k pointer.Path path e
RefusesChange n k (Replace path value) e = RefusesTarget n k pointer.Path path e
RefusesChange n k (Move from path) e = RefusesMove n k from path e
RefusesChange n k (Copy from path) e = RefusesCopy n k from path e
RefusesChange n k (Test path value) e = ⊥
