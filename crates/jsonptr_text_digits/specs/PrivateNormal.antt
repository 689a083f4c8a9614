-- Words of private clauses: a number as digits that fit 64 bits, and powers of ten.
use Rattle.std.specs.Prelude.{◌≡◌, ℕ, ◌+◌, ◌*◌, ◌^◌, ◌%◌, ◌<◌, ◌≤◌, ◌≢◌, ◌⊎◌, List, ◌++◌}
use Rattle.std.specs.Str.Parse.{digits_value}
use Rattle.fast_float.specs.Text.{Parts, digits_of, tens_up, tens_down}
use Rattle.jsonptr_text_digits.specs.declared.normal.Normal.{Normal}

-- `IsSignificant ds n zeros`: the digits `ds` write `n` and then so many zeros
pub record IsSignificant (ds : List ℕ) (n zeros : ℕ) : Type 0 where
  pub value : digits_value 10 ds ≡ n * 10 ^ zeros
  pub few : zeros < 2 ^ 65
  pub last : (n ≡ 0) ⊎ (n % 10 ≢ 0)

-- `IsLong ds`: the digits `ds` write a number that has, without the zeros at its end, more than 64 bits
pub record IsLong (ds : List ℕ) : Type 0 where
  pub n : ℕ
  pub zeros : ℕ
  pub value : digits_value 10 ds ≡ n * 10 ^ zeros
  pub last : n % 10 ≢ 0
  pub long : 2 ^ 64 ≤ n

-- `IsBig p`: `p` has so many digits, or so large an exponent
abbrev pub IsBig : Parts → Type 0
IsBig p = IsLong (p.whole ++ p.fraction) ⊎ (2 ^ 64 ≤ digits_value 10 p.exponent)

-- `IsNormal p n`: `n` is the number that `p` writes
pub record IsNormal (p : Parts) (n : Normal) : Type 0 where
  pub zeros : ℕ
  pub value : digits_of p ≡ n.digits * 10 ^ zeros
  pub up : n.up ≡ zeros + tens_up p
  pub down : n.down ≡ tens_down p
  pub up_fits : n.up < 2 ^ 67
  pub down_fits : n.down < 2 ^ 67
  pub last : (n.digits ≡ 0) ⊎ (n.digits % 10 ≢ 0)
  pub power_fits : digits_value 10 p.exponent < 2 ^ 64

-- `IsSame n m`: both have the same digits, and these are zero or the powers of ten the same
pub record IsSame (n m : Normal) : Type 0 where
  pub digits : n.digits ≡ m.digits
  pub power : (n.digits ≡ 0) ⊎ (n.up + m.down ≡ m.up + n.down)
