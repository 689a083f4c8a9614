-- Words of private clauses: a text that is read up to an offset, and the comma that is found by looking back from there.
use Rattle.std.specs.Prelude.{◌≡◌, ◌==◌, ◌||◌, ◌+◌, ◌-◌, ◌<◌, ◌≤◌, ℕ, zero, suc, List, length, slice_index, Bool, true, false, not, Option, Some, None}
use Rattle.json.specs.Word.{is_space}
use Rattle.jsonptr_comments.specs.PrivateScanning.{Done}

-- `IsSolidEnd text i k`: `k` is the offset after the last byte before `i` that is not white space, and 0 if there is none
pub record IsSolidEnd (text : List ℕ) (i k : ℕ) : Type 0 where
  pub within : k ≤ i
  pub white : (n : ℕ) → k ≤ n → n < i → is_space (slice_index text n) ≡ true
  pub solid : 0 < k → is_space (slice_index text (k - 1)) ≡ false

-- `may_end text k`: whether a value may end with the byte before the offset `k`
abbrev pub may_end : List ℕ → ℕ → Bool
may_end text zero = false
may_end text (suc k) = not ((slice_index text k == 44) || (slice_index text k == 58) || (slice_index text k == 91) || (slice_index text k == 123))

-- `Trails text k comma`: `comma` is the offset of the byte before `k`, if that is a comma with a value before it
abbrev pub Trails : List ℕ → ℕ → Option ℕ → Type 0
Trails text k None = (n m : ℕ) → k ≡ n + 1 → slice_index text n ≡ 44 → IsSolidEnd text n m → may_end text m ≡ false
Trails text k (Some n) = (k ≡ n + 1) × (slice_index text n ≡ 44) × ((m : ℕ) → IsSolidEnd text n m → may_end text m ≡ true)

-- `Back text i value comma`: what the last byte before `i` that is not white space says
abbrev pub Back : List ℕ → ℕ → Bool → Option ℕ → Type 0
Back text i value comma = (k : ℕ) → IsSolidEnd text i k → (value ≡ may_end text k) × Trails text k comma

-- `Read all text i`: up to the offset `i` the text is what is left of `all`
pub record Read (all text : List ℕ) (i : ℕ) : Type 0 where
  pub value : Bool
  pub comma : Option ℕ
  pub done : Done all text i value comma
  pub back : i < length text → Back text i value comma

-- `Goes old i new j`: if the text `old` is read up to `i`, the text `new` is read up to `j`
abbrev pub Goes : List ℕ → ℕ → List ℕ → ℕ → Type 0
Goes old i new j = (all : List ℕ) → Read all old i → Read all new j
