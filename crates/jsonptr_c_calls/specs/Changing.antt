-- What an edit changes in a text.
use Rattle.std.specs.Prelude.{◌≡◌, ◌⊎◌, ◌≤◌, ◌+◌, ◌++◌, ◌&&◌, [], ◌∷◌, ℕ, Bool, false, List, drop, length, nat_le, take}
use Rattle.jsonptr_c_calls.specs.declared.change.Change.{Change}

-- `IsChange old new c`: in the text `old`, some bytes are replaced from the offset `c.start` up to `c.old_end`, which makes `new`.
-- There they are from `c.start` up to `c.new_end`
abbrev pub IsChange : List ℕ → List ℕ → Change → Type 0
IsChange old new c =
    (put : List ℕ) × (c.start ≤ c.old_end) × (c.old_end ≤ length old) × (c.new_end ≡ c.start + length put)
    × (new ≡ take c.start old ++ (put ++ drop c.old_end old))

-- `starts_inside t`: the first byte of `t` is of a character that begins before it
abbrev pub starts_inside : List ℕ → Bool
starts_inside [] = false
starts_inside (b ∷ t) = nat_le 128 b && nat_le b 191

-- `IsBetween t n`: the offset `n` of the text `t` is between two characters, or at an end of it
abbrev pub IsBetween : List ℕ → ℕ → Type 0
IsBetween t n = starts_inside (drop n t) ≡ false

-- `IsCommonStart old new n`: both texts have the same first `n` bytes, which end between two characters
pub record IsCommonStart (old new : List ℕ) (n : ℕ) : Type 0 where
  pub in_old : n ≤ length old
  pub in_new : n ≤ length new
  pub same : take n old ≡ take n new
  pub between_old : IsBetween old n
  pub between_new : IsBetween new n

-- `IsCommonEnd old new s i j`: both texts have the same bytes from the offsets `i` and `j` on, which are not before `s` and between
-- two characters
pub record IsCommonEnd (old new : List ℕ) (s i j : ℕ) : Type 0 where
  pub after_old : s ≤ i
  pub in_old : i ≤ length old
  pub after_new : s ≤ j
  pub in_new : j ≤ length new
  pub same : drop i old ≡ drop j new
  pub between_old : IsBetween old i

-- `IsSmallest old new c`: the change is between the longest start that both texts have in common, and the longest end after that
pub record IsSmallest (old new : List ℕ) (c : Change) : Type 0 where
  pub start : (n : ℕ) → IsCommonStart old new n → n ≤ c.start
  pub end : (i j : ℕ) → IsCommonEnd old new c.start i j → c.old_end ≤ i
  pub start_between : (c.start ≡ 0) ⊎ (IsBetween old c.start × IsBetween new c.start)
  pub ends_between : IsBetween old c.old_end × IsBetween new c.new_end
