-- When a patch needs no allocation.
use Rattle.std.specs.Prelude.{◌≡◌, List, [], ◌∷◌, ◌++◌, All}
use Rattle.jsonptr.specs.Text.{HasNoTilde, text}
use Rattle.jsonptr_patch.specs.declared.operation.Operation.{Operation}
use Rattle.jsonptr_patch.specs.declared.operation.Operation.TheVariants.{Add, Remove, Replace, Move, Copy, Test}

-- `TestNeedsNoMemory o`: operation `o` is a test, and its pointer contains no `~`
abbrev pub TestNeedsNoMemory : Operation → Type 0
TestNeedsNoMemory (Add path value) = ⊥
TestNeedsNoMemory (Remove path) = ⊥
TestNeedsNoMemory (Replace path value) = ⊥
TestNeedsNoMemory (Move from path) = ⊥
TestNeedsNoMemory (Copy from path) = ⊥
TestNeedsNoMemory (Test path value) = HasNoTilde (text path)

-- `LastNeedsNoMemory o`: operation `o` removes, replaces or tests a value, and its pointer contains no `~`. As the last
-- operation of a patch it needs no memory
abbrev pub LastNeedsNoMemory : Operation → Type 0
LastNeedsNoMemory (Add path value) = ⊥
LastNeedsNoMemory (Remove path) = HasNoTilde (text path)
LastNeedsNoMemory (Replace path value) = HasNoTilde (text path)
LastNeedsNoMemory (Move from path) = ⊥
LastNeedsNoMemory (Copy from path) = ⊥
LastNeedsNoMemory (Test path value) = HasNoTilde (text path)

-- `PatchNeedsNoMemory os`: the operations `os` need no memory. All except the last one are tests
abbrev pub PatchNeedsNoMemory : List Operation → Type 0
PatchNeedsNoMemory os =
    (front : List Operation) (last : Operation) → os ≡ front ++ last ∷ []
    → All TestNeedsNoMemory front × LastNeedsNoMemory last
