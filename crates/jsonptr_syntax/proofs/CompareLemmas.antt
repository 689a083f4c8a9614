-- The first byte at which two texts differ, and the order that it decides.
use Rattle.std.proofs.Common.{◌≡◌, ◌≢◌, ◌⊎◌, ℕ, suc, zero, ◌+◌, ◌-◌, ◌<◌, ◌≤◌, ◌%◌, ◌^◌, eqb, Bool, true, false, not, cond, List, [], ◌∷◌, map, length, get_or, refl, sym, ap, ap₂, ◌∙◌, subst, inl, inr, ⊎_elim, arith, w8}
use Rattle.std.proofs.lemmas.Bool.{cases_lt, eqb-true, eq-eqb, not-true, not-false, false≢true}
use Rattle.std.proofs.lemmas.Simd.{length-zip2, get_or-zip2, length-chunk, get_or-chunk, tops_compared, mask_l-mod, leading_from_mask_l, trailing_mask_l}
use Rattle.std.proofs.lemmas.List.Sums.{prefix_len-le-length, prefix_len_passes, prefix_len_stops}
use Rattle.std.proofs.lemmas.Bool.Decides.{nat_tests}
use Rattle.std.specs.List.{prefix_len}
use Rattle.std.specs.Cmp.Lexicographic.{slice_cmp}
use Rattle.std.specs.Ordering.{nat_cmp, ordering_then}
use Rattle.std.specs.declared.cmp.Ordering.{Ordering}
use Rattle.std.specs.declared.cmp.Ordering.TheVariants.{Equal}
use lib.Count.{count_trailing_zeros}
use lib.Lanes.{zip2, chunk, mask_l, top}
use Rattle.jsonptr_grammar.specs.Text.{Text}
use Rattle.jsonptr_syntax.specs.Private.{AgreeUpTo, AgreeBetween, DifferFirst}

-- ---- one block

itself : (ms : List Bool) → map (λ m. m) ms ≡ ms
itself [] = refl
itself (m ∷ ms) = ap (λ rest. m ∷ rest) (itself ms)

-- a list of bits of which none is set writes 0
no_bit : (ms : List Bool) → length ms ≤ prefix_len (λ m. not m) ms → mask_l ms ≡ 0
no_bit [] h = refl
no_bit (true ∷ ms) h = absurd (omega arith)
no_bit (false ∷ ms) h = let rest = no_bit ms (omega arith) in omega (arith, rest)

abbrev apart : ℕ → ℕ → Bool
apart x y = not (eqb x y)

equal_bytes : (x y : ℕ) → apart x y ≡ false → x ≡ y
equal_bytes x y h = eqb-true x y (not-false _ h)

unequal_bytes : (x y : ℕ) → apart x y ≡ true → x ≢ y
unequal_bytes x y h same = false≢true (sym (not-true _ h) ∙ eq-eqb x y same)

module _ (a b : Text) (i : ℕ) (first : i + 16 ≤ length a) (second : i + 16 ≤ length b) where
  abbrev differing : List Bool
  differing = zip2 apart (chunk i 16 a) (chunk i 16 b)

  long : length differing ≡ 16
  long = length-zip2 apart (chunk i 16 a) (chunk i 16 b) (length-chunk i 16 a first ∙ sym (length-chunk i 16 b second)) ∙ length-chunk i 16 a first

  at : (k : ℕ) → k < 16 → get_or differing k false ≡ apart (get_or a (i + k) 0) (get_or b (i + k) 0)
  at k below =
      get_or-zip2 apart (chunk i 16 a) (chunk i 16 b) k 0 0 false (omega (arith, length-chunk i 16 a first)) (omega (arith, length-chunk i 16 b second))
      ∙ ap₂ apart (get_or-chunk i 16 a k 0 below) (get_or-chunk i 16 b k 0 below)

  abbrev mask : ℕ
  mask = mask_l (map (top 7) (zip2 (λ x y. cond (apart x y) 255 0) (chunk i 16 a) (chunk i 16 b))) % 2 ^ 64

  mask_is : mask ≡ mask_l (map (λ m. m) differing)
  mask_is =
      ap (λ ms. mask_l ms % 2 ^ 64) (tops_compared w8 apart (chunk i 16 a) (chunk i 16 b))
      ∙ mask_l-mod differing 64 (omega (arith, long)) ∙ ap mask_l (sym (itself differing))

  passed : (r : ℕ) → r ≤ prefix_len (λ m. not m) differing → AgreeBetween a b i (i + r)
  passed r few k low high =
      let bound = prefix_len-le-length (λ m. not m) differing in
      let back : i + (k - i) ≡ k = omega arith in
      let here = not-true _ (prefix_len_passes (λ m. not m) differing (k - i) false (omega (arith, few))) in
      let equal = equal_bytes _ _ (sym (at (k - i) (omega (arith, few, bound, long))) ∙ here) in
      subst (λ (j : ℕ). get_or a j 0 ≡ get_or b j 0) back equal

  pub agree_between : mask ≡ 0 → AgreeBetween a b i (i + 16)
  agree_between none = passed 16 (omega (arith, leading_from_mask_l (λ m. m) differing (sym mask_is ∙ none), long))

  pub differ_first : (mask ≡ 0 → ⊥) → DifferFirst a b i (count_trailing_zeros 64 mask)
  differ_first some =
      let counted = ap (count_trailing_zeros 64) mask_is ∙ trailing_mask_l (λ m. m) 64 differing (omega (arith, long)) (omega (arith, mask_is, some)) in
      let bound = prefix_len-le-length (λ m. not m) differing in
      let within : count_trailing_zeros 64 mask < 16 =
      ⊎_elim
      (λ below. below)
      (λ over. absurd (some (mask_is ∙ ap mask_l (itself differing) ∙ no_bit differing (omega (arith, over, counted, bound, long)))))
      (cases_lt (count_trailing_zeros 64 mask) 16)
      in
      record {
        within = within;
        same = passed (count_trailing_zeros 64 mask) (omega (arith, counted));
        apart =
            let here = not-false _ (prefix_len_stops (λ m. not m) differing false (omega (arith, counted, within, long))) in
            unequal_bytes _ _ (sym (at (count_trailing_zeros 64 mask) within) ∙ ap (λ (k : ℕ). get_or differing k false) counted ∙ here);
      }

-- ---- the order of texts that agree up to an offset

same_number : (n : ℕ) → nat_cmp n n ≡ Equal
same_number n = grind (arith, nat_tests)

one_more : (m n : ℕ) → nat_cmp (suc m) (suc n) ≡ nat_cmp m n
one_more m n = grind (arith, nat_tests)

different_first : (x y : ℕ) (rest : Ordering) → x ≢ y → ordering_then (nat_cmp x y) rest ≡ nat_cmp x y
different_first x y rest other = grind (arith, nat_tests)

-- the first byte that differs decides
order_at : (s u : Text) (n : ℕ) → ((k : ℕ) → k < n → get_or s k 0 ≡ get_or u k 0) → n < length s → n < length u → get_or s n 0 ≢ get_or u n 0
    → slice_cmp nat_cmp s u ≡ nat_cmp (get_or s n 0) (get_or u n 0)
order_at [] u n same first second apart = absurd (omega arith)
order_at (x ∷ s) [] n same first second apart = absurd (omega arith)
order_at (x ∷ s) (y ∷ u) zero same first second apart = different_first x y (slice_cmp nat_cmp s u) apart
order_at (x ∷ s) (y ∷ u) (suc n) same first second apart =
    let equal : x ≡ y = same 0 (omega arith) in
    rw (equal, same_number y) (order_at s u n (λ k below. same (suc k) (omega arith)) (omega arith) (omega arith) apart)

-- and where one text ends first, the lengths do
order_end : (s u : Text) (n : ℕ) → ((k : ℕ) → k < n → get_or s k 0 ≡ get_or u k 0) → (length s ≤ n) ⊎ (length u ≤ n) → slice_cmp nat_cmp s u ≡ nat_cmp (length s) (length u)
order_end [] [] n same end = sym (same_number 0)
order_end [] (y ∷ u) n same end = grind (arith, nat_tests)
order_end (x ∷ s) [] n same end = grind (arith, nat_tests)
order_end (x ∷ s) (y ∷ u) zero same end = absurd (⊎_elim (λ h. omega arith) (λ h. omega arith) end)
order_end (x ∷ s) (y ∷ u) (suc n) same end =
    let equal : x ≡ y = same 0 (omega arith) in
    let rest = order_end s u n (λ k below. same (suc k) (omega arith)) (⊎_elim (λ h. inl (omega arith)) (λ h. inr (omega arith)) end) in
    rw (equal, same_number y) (rest ∙ sym (one_more (length s) (length u)))

module _ (s u : Text) (n : ℕ) (agree : AgreeUpTo s u n) where
  pub order_by_byte : n < length s → n < length u → slice_cmp nat_cmp s u ≡ nat_cmp (get_or s n 0) (get_or u n 0)
  order_by_byte first second = order_at s u n agree.same first second (agree.apart first second)

  pub order_by_length : (length s ≤ n) ⊎ (length u ≤ n) → slice_cmp nat_cmp s u ≡ nat_cmp (length s) (length u)
  order_by_length end = order_end s u n agree.same end
