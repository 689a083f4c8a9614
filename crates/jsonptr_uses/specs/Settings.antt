-- The values of settings in layers, the highest layer first.
use Rattle.std.specs.Prelude.{◌≡◌, ◌⊎◌, ◌↔◌, ⊤, ℕ, codes, List, [], ◌∷◌, ◌++◌, Option, MatchOption, All}
use Rattle.jsonptr.specs.Text.{Text, dec}
use Rattle.jsonptr.specs.Node.{NodeMap}
use Rattle.jsonptr.specs.Following.{Finds}
use Rattle.jsonptr.specs.Parts.{BeginsWith}

-- `IsHighest has lacks layers v`: one of the layers has the value `v`, and each layer above it has none
pub record IsHighest {L V : Type 0} (has : L → V → Type 0) (lacks : L → Type 0)
    (layers : List L) (v : V) : Type 0 where
  pub above : List L
  pub layer : L
  pub below : List L
  pub split : layers ≡ above ++ (layer ∷ below)
  pub lacking : All lacks above
  pub there : has layer v

-- `IsAnswer has lacks layers answer`: `answer` is the value in the highest layer that has one, or `None` if each
-- layer lacks one
abbrev pub IsAnswer : {L V : Type 0} → (L → V → Type 0) → (L → Type 0) → List L → Option V → Type 0
IsAnswer has lacks layers answer = MatchOption answer (All lacks layers) (IsHighest has lacks layers)

-- `IsApart ts us`: neither list is a prefix of the other
pub record IsApart (ts us : List Text) : Type 0 where
  pub not_below : BeginsWith ts us → ⊥
  pub not_above : BeginsWith us ts → ⊥

-- `IsLocationOf ts us`: `us` is `ts`, except that each `-` may be replaced by the decimal text of an index
abbrev pub IsLocationOf : List Text → List Text → Type 0
IsLocationOf [] [] = ⊤
IsLocationOf [] (y ∷ ys) = ⊥
IsLocationOf (x ∷ xs) [] = ⊥
IsLocationOf (x ∷ xs) (y ∷ ys) =
    ((y ≡ x) ⊎ ((x ≡ codes "-") × (i : ℕ) × (y ≡ dec i))) × IsLocationOf xs ys

-- `IsSetAt n place v m`: `place` resolves to `v` in `m`, and each list apart from it has the same result in `m` as in
-- `n`
pub record IsSetAt (n : NodeMap) (place : List Text) (v m : NodeMap) : Type 0 where
  pub there : Finds m place v
  pub others : (others : List Text) (k : NodeMap) → IsApart others place
      → Finds n others k ↔ Finds m others k
