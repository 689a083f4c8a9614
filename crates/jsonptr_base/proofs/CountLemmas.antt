-- Counting how many bytes from an offset on pass a test.
use Rattle.std.proofs.Common.{◌≡◌, ℕ, ◌+◌, ◌-◌, ◌<◌, ◌≤◌, Bool, true, false, cond, length, get_or, drop, refl, ap, ◌∙◌, arith, drop-cons, add-one}
use Rattle.std.proofs.lemmas.List.{at_drop_all}
use Rattle.std.specs.List.{prefix_len}
use Rattle.jsonptr_grammar.specs.Text.{Text}

module _ (p : ℕ → Bool) (s : Text) where
  -- all from an offset up to i pass
  pub record Counted (first i : ℕ) : Type 0 where
    pub upto : first ≤ i
    pub count : prefix_len p (drop first s) + first ≡ i + prefix_len p (drop i s)

  pub counted_start : (i : ℕ) → Counted i i
  counted_start i = record { upto = omega arith; count = omega arith }

  at : (i : ℕ) (b : Bool) → i < length s → p (get_or s i 0) ≡ b → prefix_len p (drop i s) ≡ cond b (1 + prefix_len p (drop (i + 1) s)) 0
  at i b below e = ap (prefix_len p) (drop-cons s i 0 below) ∙ rw (e, add-one i) refl

  pub counted_more : (first i : ℕ) → Counted first i → i < length s → p (get_or s i 0) ≡ true → Counted first (i + 1)
  counted_more first i h below e = let more = at i true below e in let u = h.upto in let n = h.count in record { upto = omega arith; count = omega (arith, more, n) }

  pub counted_stop : (first i : ℕ) → Counted first i → i < length s → p (get_or s i 0) ≡ false → i - first ≡ prefix_len p (drop first s)
  counted_stop first i h below e = let none = at i false below e in let u = h.upto in let n = h.count in omega (arith, none, n, u)

  pub counted_end : (first i : ℕ) → Counted first i → length s ≤ i → i - first ≡ prefix_len p (drop first s)
  counted_end first i h over = let none : prefix_len p (drop i s) ≡ 0 = at_drop_all (prefix_len p) s i over in let u = h.upto in let n = h.count in omega (arith, none, n, u)
