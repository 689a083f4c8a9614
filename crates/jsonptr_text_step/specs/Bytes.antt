-- Which bytes of a text an edit changes.
use Rattle.std.specs.Prelude.{◌≡◌, ◌⊎◌, ℕ, List, [], ◌∷◌, ◌++◌, Option, Some, None, ⊤, string_bytes}
use mathlib.Core.Logic.{inl, inr}
use Rattle.serde_json.specs.Data.{Data, null, array, object, Items, Members}
use Rattle.serde_json.specs.Find.{get_member, get_item}
use Rattle.jsonptr.specs.Text.{Text, dec}
use Rattle.jsonptr.specs.Node.{Scalar, a_leaf}
use Rattle.jsonptr.specs.Content.{label_of}
use Rattle.jsonptr.specs.Expansion.{expanded}
use Rattle.jsonptr.specs.Json.{content, nodes}
use Rattle.jsonptr_text_search.specs.Search.{items_count}
use Rattle.jsonptr_text_resolve.specs.InText.{FindsInText}
use Rattle.jsonptr_patch.specs.Adding.{MeansPlace}
use Rattle.jsonptr_text_piece.specs.Spacing.{IsBlank, Splices}
use Rattle.jsonptr_text_check.specs.Child.{IsValueText, IsOneChild, value_part}
use Rattle.jsonptr_text_step.specs.Placing.{IsAt}
use Rattle.jsonptr_text_step.specs.declared.stepped.Stepped.{Stepped}
use Rattle.jsonptr_text_step.specs.declared.stepped.Stepped.TheVariants.{InPlace, Rewritten}

-- `IsScalar d`: `d` is neither an array nor an object
abbrev pub IsScalar : Data → Type 0
IsScalar d = (a : Scalar) × (label_of (content d) ≡ a_leaf a)

-- `ReplacesBytes old new tokens e`: `new` is the text `old` with the text of the value that all of `tokens` identify replaced
-- by a text of the value `e`, which they identify in `new`. Neither has white space around it
pub record ReplacesBytes (old new : Text) (tokens : List Text) (e : Data) : Type 0 where
  pub middle : Text
  pub piece : Text
  pub value : Data
  pub splices : Splices old new middle piece
  pub found : FindsInText old tokens value
  pub whole : IsValueText value middle
  pub made : IsValueText e piece
  pub was_at : IsAt old tokens middle splices.after
  pub is_at : IsAt new tokens piece splices.after

-- `ExpandsBytes old new front more v`: `tokens` lead no further than `front`, to a scalar, and its text is replaced by a text of
-- `v` expanded by `more`
pub record ExpandsBytes (old new : Text) (front more : List Text) (v : Data) : Type 0 where
  pub whole : Data
  pub whole_is : nodes whole ≡ expanded more (nodes v)
  pub replaces : ReplacesBytes old new front whole
  pub scalar : IsScalar replaces.value

-- `AddsPiece old new tokens key e`: `new` is the text `old` with the text of one child more, a member with the key or an element
-- if there is none, with at most one comma, and white space. In `new`, `tokens` identify its value, `e`. Except for white
-- space, no byte of `old` is replaced
pub record AddsPiece (old new : Text) (tokens : List Text) (key : Option Text) (e : Data) : Type 0 where
  pub middle : Text
  pub piece : Text
  pub splices : Splices old new middle piece
  pub blank : IsBlank middle
  pub child : IsOneChild key e piece
  pub is_at : IsAt new tokens (value_part key e piece child) (child.trail ++ splices.after)

-- `LacksMember old front x`: `front` leads to an object that has no member with the key `x`
abbrev pub LacksMember : Text → List Text → Text → Type 0
LacksMember old front x = (ms : Members) × FindsInText old front (object ms) × (get_member x ms ≡ None)

-- `HasPlace old front x`: `front` leads to an array, and `x` refers to an index of it, or to the one after its last element
pub record HasPlace (old : Text) (front : List Text) (x : Text) : Type 0 where
  pub ds : Items
  pub found : FindsInText old front (array ds)
  pub i : ℕ
  pub means : MeansPlace (items_count ds) x i

-- `AddsBytes old new front x e`: the text of one child is added to the value that `front` leads to: of a member with the key
-- `x`, which was missing, or of an element
abbrev pub AddsBytes : Text → Text → List Text → Text → Data → Type 0
AddsBytes old new front x e =
    (LacksMember old front x × AddsPiece old new (front ++ x ∷ []) (Some x) e)
    ⊎ ((place : HasPlace old front x) × AddsPiece old new (front ++ dec place.i ∷ []) None e)

-- `child_text old new front x e b`: the text of the value of the child
abbrev pub child_text : (old new : Text) (front : List Text) (x : Text) (e : Data) → AddsBytes old new front x e → Text
child_text old new front x e (inl b) = value_part (Some x) e b.1.piece b.1.child
child_text old new front x e (inr b) = value_part None e b.1.piece b.1.child

-- `AddsExpandedBytes old new front x rest v`: the same as `AddsBytes` with `v` expanded by the tokens after `x`
abbrev pub AddsExpandedBytes : Text → Text → List Text → Text → List Text → Data → Type 0
AddsExpandedBytes old new front x rest v = (e : Data) × (nodes e ≡ expanded rest (nodes v)) × AddsBytes old new front x e

-- `CutsBytes old new tokens key v`: `new` is the text `old` without the text of one child, a member with the key or an element
-- if there is none, at most one comma, and white space. In `old`, `tokens` identify its value, `v`
pub record CutsBytes (old new : Text) (tokens : List Text) (key : Option Text) (v : Data) : Type 0 where
  pub middle : Text
  pub splices : Splices old new middle []
  pub child : IsOneChild key v middle
  pub was_at : IsAt old tokens (value_part key v middle child) (child.trail ++ splices.after)

-- `CutsInTurn front x old mids new`: `new` comes from `old` by cutting out, for each of the texts `mids`, the last member with
-- the key `x` of the object to which `front` leads. They are the texts before each cut, the last one first
abbrev pub CutsInTurn : List Text → Text → Text → List Text → Text → Type 0
CutsInTurn front x old [] new = new ≡ old
CutsInTurn front x old (mid ∷ mids) new =
    CutsInTurn front x old mids mid × ((v : Data) × CutsBytes mid new (front ++ x ∷ []) (Some x) v)

-- `CutsMembers old new front x`: `front` leads to an object, and its member with the key `x` is cut out, and then each one
-- before it with the same key
pub record CutsMembers (old new : Text) (front : List Text) (x : Text) : Type 0 where
  pub ms : Members
  pub v : Data
  pub first : Text
  pub mids : List Text
  pub found : FindsInText old front (object ms)
  pub was : get_member x ms ≡ Some v
  pub cuts : CutsBytes old first (front ++ x ∷ []) (Some x) v
  pub again : CutsInTurn front x first mids new

-- `CutsElement old new front x`: `front` leads to an array, and its element at the index `x` is cut out
pub record CutsElement (old new : Text) (front : List Text) (x : Text) : Type 0 where
  pub ds : Items
  pub i : ℕ
  pub v : Data
  pub found : FindsInText old front (array ds)
  pub refers : x ≡ dec i
  pub was : get_item i ds ≡ Some v
  pub cuts : CutsBytes old new (front ++ x ∷ []) None v

-- `CutsChild old new front x`: one of the two
abbrev pub CutsChild : Text → Text → List Text → Text → Type 0
CutsChild old new front x = CutsMembers old new front x ⊎ CutsElement old new front x

-- `AssignsBytes old tokens v new`: the text of the value to which all tokens lead is replaced by a text of `v`; or `tokens` stop
-- at a scalar, which is replaced by `v` expanded; or they stop at an object or an array, to which one child is added
abbrev pub AssignsBytes : Text → List Text → Data → Text → Type 0
AssignsBytes old tokens v new =
    ReplacesBytes old new tokens v
    ⊎ ((front : List Text) × (x : Text) × (rest : List Text) × (tokens ≡ front ++ x ∷ rest)
    × (ExpandsBytes old new front (x ∷ rest) v ⊎ AddsExpandedBytes old new front x rest v))

-- `DeletesBytes old tokens new`: the text of the root is replaced by one of null, or the text of each child that the last
-- token selects is cut out: of several members with the same key, all
abbrev pub DeletesBytes : Text → List Text → Text → Type 0
DeletesBytes old tokens new =
    ((tokens ≡ []) × ReplacesBytes old new [] null)
    ⊎ ((front : List Text) × (x : Text) × (tokens ≡ front ++ x ∷ []) × CutsChild old new front x)

-- `KeepsBytes P e`: if `e` was edited in place, its text meets `P`
abbrev pub KeepsBytes : (Text → Type 0) → Stepped → Type 0
KeepsBytes P (InPlace s) = P (string_bytes s)
KeepsBytes P (Rewritten s) = ⊤
