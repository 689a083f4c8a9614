-- A number that does not end in 0, times a power of ten.
use Rattle.std.proofs.Common.{◌≡◌, ℕ, zero, suc, ◌+◌, ◌-◌, ◌*◌, ◌/◌, ◌%◌, ◌^◌, ◌<◌, ◌≤◌, ◌≢◌, inl, inr, sym, ap, ◌∙◌, arith}
use Rattle.std.proofs.Math.Nat.{mul_assoc, pow-succ', pow-zero, mul-div_cancel, le-mul_of_pos_right}
use Rattle.std.proofs.lemmas.Nat.{pow-add}
use Rattle.std.proofs.lemmas.Bool.{cases_lt}

pub ten_pos : (k : ℕ) → 0 < 10 ^ k
ten_pos zero = omega (arith, pow-zero 10)
ten_pos (suc k) = omega (arith, ten_pos k, pow-succ' 10 k)

pub cancel : (a b c : ℕ) → 0 < c → a * c ≡ b * c → a ≡ b
cancel a b c some e = sym (mul-div_cancel a some) ∙ ap (λ k. k / c) e ∙ mul-div_cancel b some

-- the smaller power goes away on both sides
without : (a b x k : ℕ) → a * 10 ^ (k + x) ≡ b * 10 ^ x → a * 10 ^ k ≡ b
without a b x k e = cancel (a * 10 ^ k) b (10 ^ x) (ten_pos x) (mul_assoc a (10 ^ k) (10 ^ x) ∙ ap (λ i. a * i) (sym (pow-add 10 k x)) ∙ e)

ends_in_zero : (a b k : ℕ) → 0 < k → b * 10 ^ k ≡ a → a % 10 ≡ 0
ends_in_zero a b k some e =
    let s : k ≡ suc (k - 1) = omega arith in
    let power : 10 ^ k ≡ 10 * 10 ^ (k - 1) = ap (λ i. 10 ^ i) s ∙ pow-succ' 10 (k - 1) in
    let whole : b * 10 * 10 ^ (k - 1) ≡ a = mul_assoc b 10 (10 ^ (k - 1)) ∙ ap (λ i. b * i) (sym power) ∙ e in
    let swap : b * 10 * 10 ^ (k - 1) ≡ b * 10 ^ (k - 1) * 10 = mul_assoc b 10 (10 ^ (k - 1)) ∙ ap (λ i. b * i) (omega arith) ∙ sym (mul_assoc b (10 ^ (k - 1)) 10) in
    let tens : b * 10 ^ (k - 1) * 10 ≡ a = sym swap ∙ whole in
    omega (arith, tens)

-- of the numbers that a power of ten makes equal, the one that does not end in 0 is the least
pub least : (a b x y : ℕ) → a % 10 ≢ 0 → a * 10 ^ x ≡ b * 10 ^ y → a ≤ b
least a b x y last e = elim (cases_lt x y) [
  | inl below ↦
      let s : y - x + x ≡ y = omega arith in
      absurd (last (ends_in_zero a b (y - x) (omega arith) (without b a x (y - x) (ap (λ i. b * 10 ^ i) s ∙ sym e))))
  | inr above ↦
      let s : x - y + y ≡ x = omega arith in
      let more : a * 10 ^ (x - y) ≡ b = without a b y (x - y) (ap (λ i. a * 10 ^ i) s ∙ e) in
      omega (arith, more, le-mul_of_pos_right a (ten_pos (x - y)))
]

-- and its power of ten is the largest
pub highest : (a b x y : ℕ) → a % 10 ≢ 0 → a * 10 ^ x ≡ b * 10 ^ y → y ≤ x
highest a b x y last e = elim (cases_lt x y) [
  | inl below ↦
      let s : y - x + x ≡ y = omega arith in
      absurd (last (ends_in_zero a b (y - x) (omega arith) (without b a x (y - x) (ap (λ i. b * 10 ^ i) s ∙ sym e))))
  | inr above ↦ above
]
