-- What a list of operations makes of a document, and how it fails (RFC 6902, section 5).
use Rattle.std.specs.Prelude.{Option, ◌≡◌, List, [], ◌∷◌, ◌++◌, length}
use Rattle.jsonptr.specs.Node.{NodeMap}
use Rattle.jsonptr_patch.specs.Failing.{failed}
use Rattle.jsonptr_patch.specs.Operating.{AppliesBy, RefusesOperationBy}
use Rattle.jsonptr_patch.specs.declared.comparison.Comparison.{Comparison}
use Rattle.jsonptr_patch.specs.declared.comparison.Comparison.TheVariants.{Strict}
use Rattle.jsonptr_patch.specs.declared.failed_operation.FailedOperation.{FailedOperation}
use Rattle.jsonptr_patch.specs.declared.failed_operation.PatchPointer.{PatchPointer}
use Rattle.jsonptr_patch.specs.declared.operation.Operation.{Operation}
use Rattle.jsonptr_patch.specs.declared.operation.PatchError.{PatchError}

-- `PatchesBy c n os m`: the operations `os` turn `n` into `m`, each on the map that the previous one left. Tests compare
-- as `c`
abbrev pub PatchesBy : Comparison → NodeMap → List Operation → NodeMap → Type 0
PatchesBy c n [] m = m ≡ n
PatchesBy c n (o ∷ os) m = (next : NodeMap) × AppliesBy c n o next × PatchesBy c next os m

-- `Patches n os m`: the operations `os` turn `n` into `m`, where tests are strict
abbrev pub Patches : NodeMap → List Operation → NodeMap → Type 0
Patches n os m = PatchesBy Strict n os m

-- `FailsBy c n os f`: some operations of `os` can be applied, and the next one fails with `f` on the map that they leave:
-- with its error, and the pointer at fault. Its number counts from 0. Tests compare as `c`
pub record FailsBy (c : Comparison) (n : NodeMap) (os : List Operation) (f : FailedOperation) : Type 0 where
  pub done : List Operation
  pub fails : Operation
  pub rest : List Operation
  pub left : NodeMap
  pub split : os ≡ done ++ fails ∷ rest
  pub applied : PatchesBy c n done left
  pub refused : RefusesOperationBy c left (length done) fails f

-- `RefusesPatchBy c n os e`: the operations `os` fail on `n` with the error `e`, where tests compare as `c`
abbrev pub RefusesPatchBy : Comparison → NodeMap → List Operation → PatchError → Type 0
RefusesPatchBy c n os e = (at : Option PatchPointer) × FailsBy c n os (failed e at)

-- `RefusesPatch n os e`: the operations `os` fail so with `e`, where tests are strict
abbrev pub RefusesPatch : NodeMap → List Operation → PatchError → Type 0
RefusesPatch n os e = RefusesPatchBy Strict n os e
