-- Operations of a patch that are apart: they change different members of the same objects.
use Rattle.std.specs.Prelude.{◌≡◌, ◌≢◌, List, [], ◌∷◌, ◌++◌, Some, Contains}
use Rattle.jsonptr.specs.Text.{Text}
use Rattle.jsonptr.specs.Node.{Path, an_object, NodeMap, Names}
use Rattle.jsonptr_patch.specs.declared.operation.Operation.{Operation}
use Rattle.jsonptr_patch.specs.declared.operation.Operation.TheVariants.{Add, Remove, Replace, Move, Copy, Test}

-- `Diverges n xs ys`: the tokens `xs` and `ys` begin with the same tokens, `front`, which name an object of `n`, and
-- go on with the keys of two different members of it. The members need not exist
pub record Diverges (n : NodeMap) (xs ys : List Text) : Type 0 where
  pub front : List Text
  pub path : Path
  pub here : Text
  pub more : List Text
  pub there : Text
  pub others : List Text
  pub first : xs ≡ front ++ here ∷ more
  pub second : ys ≡ front ++ there ∷ others
  pub differ : here ≢ there
  pub named : Names n front path
  pub object : n path ≡ Some an_object

-- `AllDiverge n xss yss`: each of the lists `xss` diverges from each of the lists `yss` at an object of `n`
abbrev pub AllDiverge : NodeMap → List (List Text) → List (List Text) → Type 0
AllDiverge n xss yss = (xs ys : List Text) → Contains xss xs → Contains yss ys → Diverges n xs ys

-- `pointers o`: the pointers of operation `o`
abbrev pub pointers : Operation → List (List Text)
pointers (Add path value) = path ∷ []
pointers (Remove path) = path ∷ []
pointers (Replace path value) = path ∷ []
pointers (Move from path) = from ∷ path ∷ []
pointers (Copy from path) = from ∷ path ∷ []
pointers (Test path value) = path ∷ []

-- `all_pointers os`: the pointers of the operations `os`
abbrev pub all_pointers : List Operation → List (List Text)
all_pointers [] = []
all_pointers (o ∷ os) = pointers o ++ all_pointers os

-- `AreApart n o p`: each pointer of operation `o` diverges from each pointer of operation `p` at an object of `n`
abbrev pub AreApart : NodeMap → Operation → Operation → Type 0
AreApart n o p = AllDiverge n (pointers o) (pointers p)

-- `PatchesAreApart n os ps`: so does each pointer of the operations `os` from each pointer of the operations `ps`
abbrev pub PatchesAreApart : NodeMap → List Operation → List Operation → Type 0
PatchesAreApart n os ps = AllDiverge n (all_pointers os) (all_pointers ps)
