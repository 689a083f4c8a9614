-- Which operations are the same, however their values are kept.
use Rattle.std.specs.Prelude.{◌≡◌, List, [], ◌∷◌, ⊤}
use Rattle.serde_json.specs.View.{view}
use Rattle.jsonptr_patch.specs.declared.operation.Operation.{Operation}
use Rattle.jsonptr_patch.specs.declared.operation.Operation.TheVariants.{Add, Remove, Replace, Move, Copy, Test}

-- `IsSameOperation o p`: both do the same, at the same pointers, with the same value
abbrev pub IsSameOperation : Operation → Operation → Type 0
IsSameOperation (Add path v) (Add other w) = (path ≡ other) × (view v ≡ view w)
IsSameOperation (Remove path) (Remove other) = path ≡ other
IsSameOperation (Replace path v) (Replace other w) = (path ≡ other) × (view v ≡ view w)
IsSameOperation (Move from path) (Move source other) = (from ≡ source) × (path ≡ other)
IsSameOperation (Copy from path) (Copy source other) = (from ≡ source) × (path ≡ other)
IsSameOperation (Test path v) (Test other w) = (path ≡ other) × (view v ≡ view w)
IsSameOperation o p = ⊥

-- `AreSameOperations os ps`: the lists are the same, operation by operation
abbrev pub AreSameOperations : List Operation → List Operation → Type 0
AreSameOperations [] [] = ⊤
AreSameOperations [] (p ∷ ps) = ⊥
AreSameOperations (o ∷ os) [] = ⊥
AreSameOperations (o ∷ os) (p ∷ ps) = IsSameOperation o p × AreSameOperations os ps
