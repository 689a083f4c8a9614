-- Steps along the tokens of a pointer, one at a time.
--
-- Used only by contracts inside the library; no contract of a user's call depends on this file.
use Rattle.std.specs.Prelude.{◌≡◌, ℕ, ◌<◌, ◌≤◌, ◌^◌, List, [], ◌∷◌, ◌++◌, length, Some, Bool, true, false, Result, IfOk, OnErr}
use Rattle.std.specs.Borrow.{MutBor, RattleType, Fml, name_if_ok, follows_so}
use Rattle.serde_json.specs.declared.value.Value.{Value}
use Rattle.jsonptr.specs.Text.{Text, HasNoTilde, text}
use Rattle.jsonptr.specs.Node.{Step, NamesStep, an_array}
use Rattle.jsonptr.specs.Content.{Content, child, map_of}
use Rattle.jsonptr.specs.Following.{LacksStep}
use Rattle.jsonptr_document.specs.ChildRef.{IsIndexIn}
use Rattle.jsonptr_walk.specs.PrivateDescend.{Begins}
use Rattle.jsonptr_walk.specs.declared.descend.StepResult.{StepResult}
use Rattle.jsonptr_patch_journal.specs.Location.{contents_of}
use Rattle.jsonptr_patch_journal.specs.Writing.{write_step}

-- `IsTokenAt tokens offset x next`: the text of the tokens before `x` has `offset` bytes, and with `x` it has `next`
pub record IsTokenAt (tokens : List Text) (offset : ℕ) (x : Text) (next : ℕ) : Type 0 where
  pub front : List Text
  pub rest : List Text
  pub begins : Begins tokens offset front (x ∷ rest)
  pub next_is : next ≡ length (text (front ++ x ∷ []))
  pub farther : offset < next
  pub within : next ≤ length (text tokens)
  pub fits : next < 2 ^ 64

-- `IsElementIn c x i`: the content `c` is that of an array with an element at the index `i`, whose decimal text is `x`
abbrev pub IsElementIn : Content → Text → ℕ → Type 0
IsElementIn c x i = (len : ℕ) × (map_of c [] ≡ Some (an_array len)) × IsIndexIn len x i

-- `Enters front left next d e`: the first of the tokens `left` names the child `e` of `d`. The text of `front` and that
-- token has `next` bytes
pub record Enters (front left : List Text) (next : ℕ) (d e : Content) : Type 0 where
  pub token : Text
  pub rest : List Text
  pub step : Step
  pub split : left ≡ token ∷ rest
  pub next_is : next ≡ length (text (front ++ token ∷ []))
  pub named : NamesStep (map_of d []) token step
  pub there : child step d ≡ Some e

module _ (tokens : List Text) (offset : ℕ) where
  -- `MovesByToken down d next e`: if `down`, then `e` is the child of `d` that the token at `offset` names, and `next` is the
  -- offset after that token. Otherwise no token is there, and `e` is `d`
  abbrev pub MovesByToken : Bool → Value → ℕ → Value → Type 0
  MovesByToken true d next e =
      (next < 2 ^ 64) × (offset < next) × (next ≤ length (text tokens))
      × (HasNoTilde (text tokens) → (front left : List Text) → Begins tokens offset front left
      → Enters front left next (contents_of d) (contents_of e))
  MovesByToken false d next e =
      (next < 2 ^ 64)
      × ((front left : List Text) → Begins tokens offset front left → left ≡ [])
      × (e ≡ d)

  -- `MovesBackByToken down d w m`: `d` becomes `m` when what is borrowed from it becomes `w`
  abbrev pub MovesBackByToken : Bool → Value → Value → Value → Type 0
  MovesBackByToken true d w m =
      HasNoTilde (text tokens) → (front : List Text) (x : Text) (rest : List Text) (s : Step)
      → Begins tokens offset front (x ∷ rest) → NamesStep (map_of (contents_of d) []) x s
      → contents_of m ≡ write_step s (contents_of w) (contents_of d)
  MovesBackByToken false d w m = m ≡ w

  -- `IsLostAtToken d`: the token at `offset` names no child of `d`
  abbrev pub IsLostAtToken : Value → Type 0
  IsLostAtToken d =
      HasNoTilde (text tokens) → (front : List Text) × (x : Text) × (rest : List Text)
      × Begins tokens offset front (x ∷ rest) × LacksStep (map_of (contents_of d)) [] x

module _ (D : RattleType) (value : D.Denot → Value) {E : Type 0} where
  -- `LendsTokenMove at tokens offset r`: what the value `at` becomes, after the value that `r` borrows from it is written
  abbrev pub LendsTokenMove : MutBor D.Denot → List Text → ℕ → Result (StepResult D.Denot) E → Fml
  LendsTokenMove at tokens offset r = follows_so D D at.ghost_name (name_if_ok (λ t. t.node.ghost_name) r)
      (λ w m. IfOk r (λ t. MovesBackByToken tokens offset t.down (value at.now) (value w) (value m)))
      (λ m. OnErr r (contents_of (value m) ≡ contents_of (value at.now)))
