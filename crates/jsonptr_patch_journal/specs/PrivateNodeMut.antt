-- Steps down a location, one at a time.
--
-- Used only by private contracts; no public contract depends on this file.
use Rattle.std.specs.Prelude.{◌≡◌, ℕ, zero, suc, ◌<◌, ◌^◌, [], ◌∷◌, Option, Some, None, Bool, true, false, Result, IfOk, OnErr}
use Rattle.std.specs.Borrow.{MutBor, RattleType, Fml, name_if_ok, follows_so}
use Rattle.serde_json.specs.declared.value.Value.{Value}
use Rattle.jsonptr.specs.Node.{Step, Path}
use Rattle.jsonptr.specs.Content.{child}
use Rattle.jsonptr_walk.specs.declared.descend.StepResult.{StepResult}
use Rattle.jsonptr_patch_journal.specs.Location.{contents_of}
use Rattle.jsonptr_patch_journal.specs.Writing.{write_step}

-- `nth i w`: the step at position `i` of the path `w`
abbrev pub nth : ℕ → Path → Option Step
nth i [] = None
nth zero (s ∷ w) = Some s
nth (suc i) (s ∷ w) = nth i w

module _ (path : Path) (i : ℕ) where
  -- `MovesTo down d next e`: if `down`, then `e` is the child of `d` at the step at position `i`. Otherwise the path
  -- has no such step, and `e` is `d`
  abbrev pub MovesTo : Bool → Value → ℕ → Value → Type 0
  MovesTo true d next e = (next < 2 ^ 64) × (next ≡ suc i) × (s : Step) × (nth i path ≡ Some s) × (child s (contents_of d) ≡ Some (contents_of e))
  MovesTo false d next e = (next < 2 ^ 64) × (nth i path ≡ None) × (e ≡ d)

  -- `MovesBack down d w m`: `d` becomes `m` when what is borrowed from it becomes `w`
  abbrev pub MovesBack : Bool → Value → Value → Value → Type 0
  MovesBack true d w m = (s : Step) → nth i path ≡ Some s → contents_of m ≡ write_step s (contents_of w) (contents_of d)
  MovesBack false d w m = m ≡ w

  -- `IsLost d`: `d` has no child at the step at position `i`
  abbrev pub IsLost : Value → Type 0
  IsLost d = (s : Step) × (nth i path ≡ Some s) × (child s (contents_of d) ≡ None)

module _ (D : RattleType) (value : D.Denot → Value) {E : Type 0} where
  -- `LendsMove at path i r`: what the value `at` becomes, after the value that `r` borrows from it is written
  abbrev pub LendsMove : MutBor D.Denot → Path → ℕ → Result (StepResult D.Denot) E → Fml
  LendsMove at path i r = follows_so D D at.ghost_name (name_if_ok (λ t. t.node.ghost_name) r)
      (λ w m. IfOk r (λ t. MovesBack path i t.down (value at.now) (value w) (value m)))
      (λ m. OnErr r (contents_of (value m) ≡ contents_of (value at.now)))
