-- The operation `add`: adding a value at a list of tokens, and why that fails (RFC 6902, section 4.1).
use Rattle.std.specs.Prelude.{◌≡◌, ℕ, ◌≤◌, ◌⊎◌, List, [], ◌∷◌, ◌++◌, Option, Some, None, codes}
use Rattle.jsonptr.specs.Text.{Text, dec}
use Rattle.jsonptr.specs.Node.{key, Path, Scalar, Label, an_object, an_array, a_leaf, NodeMap, sub, Names}
use Rattle.jsonptr.specs.Put.{put}
use Rattle.jsonptr.specs.Resolve.{Refuses}
use Rattle.jsonptr.specs.Assign.{RefusesAssign}
use Rattle.jsonptr.specs.declared.resolve.Error.{Error as ResolveError}
use Rattle.jsonptr.specs.declared.assign.Error.{Error as AssignError}
use Rattle.jsonptr_patch.specs.Inserting.{with_place}

-- `MeansPlace len x i`: token `x` refers to index `i` of an array of length `len`, or to the index after its last
-- element. It is the decimal text of `i`, or `-` for the index `len`
abbrev pub MeansPlace : ℕ → Text → ℕ → Type 0
MeansPlace len x i = (i ≤ len) × ((x ≡ dec i) ⊎ ((x ≡ codes "-") × (i ≡ len)))

-- `AddsUnder n w l x v m`: adding `v` as the child `x` of the node at path `w`, whose label is `l`, turns `n` into
-- `m`. An object gets `v` as its member `x`. An array gets `v` inserted at the index that `x` refers to
abbrev pub AddsUnder : NodeMap → Path → Option Label → Text → NodeMap → NodeMap → Type 0
AddsUnder n w None x v m = ⊥
AddsUnder n w (Some an_object) x v m = m ≡ put n (w ++ key x ∷ []) v
AddsUnder n w (Some (an_array len)) x v m =
    (i : ℕ) × MeansPlace len x i × (m ≡ put n w (with_place i v (sub n w)))
AddsUnder n w (Some (a_leaf a)) x v m = ⊥

-- `AddsBelow n tokens v m`: adding `v` at `tokens` turns `n` into `m`. The tokens before the last one evaluate to the
-- node at `path`
pub record AddsBelow (n : NodeMap) (tokens : List Text) (v m : NodeMap) : Type 0 where
  pub front : List Text
  pub last : Text
  pub path : Path
  pub split : tokens ≡ front ++ last ∷ []
  pub named : Names n front path
  pub made : AddsUnder n path (n path) last v m

-- `Adds n tokens v m`: adding `v` at `tokens` turns `n` into `m`. Without tokens, `v` replaces the whole document
abbrev pub Adds : NodeMap → List Text → NodeMap → NodeMap → Type 0
Adds n tokens v m = ((tokens ≡ []) × (m ≡ v)) ⊎ AddsBelow n tokens v m

-- `LacksParent n tokens`: nothing can be added at `tokens`, since the tokens before the last one evaluate to a scalar
-- or to nothing
pub record LacksParent (n : NodeMap) (tokens : List Text) : Type 0 where
  pub front : List Text
  pub last : Text
  pub split : tokens ≡ front ++ last ∷ []
  pub scalar : (w : Path) → Names n front w → (a : Scalar) × (n w ≡ Some (a_leaf a))

-- `HasArray n tokens`: the tokens before the last one evaluate to an array
pub record HasArray (n : NodeMap) (tokens : List Text) : Type 0 where
  pub front : List Text
  pub last : Text
  pub path : Path
  pub len : ℕ
  pub split : tokens ≡ front ++ last ∷ []
  pub named : Names n front path
  pub array : n path ≡ Some (an_array len)

-- `LacksTarget n tokens e`: nothing can be added at `tokens`, since there is no parent. `e` reports where evaluation
-- stops
abbrev pub LacksTarget : NodeMap → List Text → ResolveError → Type 0
LacksTarget n tokens e = LacksParent n tokens × Refuses n tokens e

-- `LacksPlace n tokens e`: nothing can be added at `tokens`, since the last one does not refer to an index of the
-- array. `e` reports why
abbrev pub LacksPlace : NodeMap → List Text → AssignError → Type 0
LacksPlace n tokens e = HasArray n tokens × RefusesAssign n tokens e
