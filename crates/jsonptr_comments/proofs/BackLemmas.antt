-- Looking back from a closing bracket finds the comma that may be a trailing one.
use Rattle.std.proofs.Common.{◌≡◌, ◌≢◌, ℕ, zero, suc, ◌+◌, ◌-◌, ◌<◌, ◌≤◌, List, Bool, true, false, not, ◌||◌, ◌==◌, Option, Some, None, get_or, refl, sym, ap, ◌∙◌, subst, arith, inl, inr, ◌⊎◌}
use Rattle.std.proofs.lemmas.Bool.{true≢false, cases_lt}
use Rattle.json.specs.Word.{is_space}
use Rattle.jsonptr_comments.specs.PrivateStepping.{IsSolidEnd, may_end, Trails, Back}

-- no value ends at the byte
abbrev opens : ℕ → Bool
opens x = (x == 44) || (x == 58) || (x == 91) || (x == 123)

pub may_end_at : (t : List ℕ) (k : ℕ) → 0 < k → may_end t k ≡ not (opens (get_or t (k - 1) 0))
may_end_at t zero l = absurd (omega arith)
may_end_at t (suc k) l = ap (λ n. not (opens (get_or t n 0))) (let e : k ≡ suc k - 1 = omega arith in e)

-- ---- what is found

pub no_comma : (t : List ℕ) (k : ℕ) (comma : Option ℕ) → (k ≡ 0) ⊎ (get_or t (k - 1) 0 ≢ 44) → Trails t k comma → None ≡ comma
no_comma t k None n h = refl
no_comma t k (Some i) (inl e) h = absurd (omega (arith, e, h.0))
no_comma t k (Some i) (inr n) h = let e : k - 1 ≡ i = omega (arith, h.0) in absurd (n (ap (λ j. get_or t j 0) e ∙ h.1))

pub no_value : (t : List ℕ) (k m : ℕ) (comma : Option ℕ) → IsSolidEnd t (k - 1) m → may_end t m ≡ false → Trails t k comma → None ≡ comma
no_value t k m None s n h = refl
no_value t k m (Some i) s n h =
    let e : k - 1 ≡ i = omega (arith, h.0) in
    absurd (true≢false (sym (h.2 m (subst (λ (j : ℕ). IsSolidEnd t j m) e s)) ∙ n))

pub some_comma : (t : List ℕ) (k m : ℕ) (comma : Option ℕ) → 0 < k → get_or t (k - 1) 0 ≡ 44 → IsSolidEnd t (k - 1) m → may_end t m ≡ true → Trails t k comma → Some (k - 1) ≡ comma
some_comma t k m None l e s v h = absurd (true≢false (sym v ∙ h (k - 1) m (omega (arith, l)) e s))
some_comma t k m (Some i) l e s v h = ap (λ j. Some j) (let f : k - 1 ≡ i = omega (arith, h.0) in f)

-- ---- one step

-- the texts have the same bytes before i
abbrev pub Agrees : List ℕ → List ℕ → ℕ → Type 0
Agrees t u i = (n : ℕ) → n < i → get_or t n 0 ≡ get_or u n 0

-- the bytes from i up to j are white space
abbrev pub IsWhite : List ℕ → ℕ → ℕ → Type 0
IsWhite t i j = (n : ℕ) → i ≤ n → n < j → is_space (get_or t n 0) ≡ true

solid_in : (t u : List ℕ) (i p k : ℕ) → Agrees t u i → p ≤ i → IsSolidEnd u p k → IsSolidEnd t p k
solid_in t u i p k a l s = record {
  within = s.within;
  white = λ n g h. ap is_space (a n (omega (arith, l, h))) ∙ s.white n g h;
  solid = λ h. ap is_space (a (k - 1) (omega (arith, l, h, s.within))) ∙ s.solid h;
}

may_end_in : (t u : List ℕ) (i k : ℕ) → Agrees t u i → k ≤ i → may_end t k ≡ may_end u k
may_end_in t u i zero a l = refl
may_end_in t u i (suc k) a l = ap (λ x. not (opens x)) (a k (omega (arith, l)))

trails_in : (t u : List ℕ) (i k : ℕ) (comma : Option ℕ) → Agrees t u i → k ≤ i → Trails t k comma → Trails u k comma
trails_in t u i k None a l h = λ n m e x s.
    let below : n < i = omega (arith, e, l) in
    sym (may_end_in t u i m a (omega (arith, below, s.within))) ∙ h n m e (a n below ∙ x) (solid_in t u i n m a (omega (arith, below)) s)
trails_in t u i k (Some n) a l h =
    let below : n < i = omega (arith, h.0, l) in (
      h.0,
      sym (a n below) ∙ h.1,
      λ m s. sym (may_end_in t u i m a (omega (arith, below, s.within))) ∙ h.2 m (solid_in t u i n m a (omega (arith, below)) s),
    )

past_white : (t : List ℕ) (i j k : ℕ) → IsWhite t i j → IsSolidEnd t j k → (i < k) ⊎ (k ≤ i) → k ≤ i
past_white t i j k w s (inr l) = l
past_white t i j k w s (inl l) = absurd (true≢false (sym (w (k - 1) (omega (arith, l)) (omega (arith, l, s.within))) ∙ s.solid (omega (arith, l))))

earlier : (t : List ℕ) (i j k : ℕ) → IsWhite t i j → i ≤ j → IsSolidEnd t j k → IsSolidEnd t i k
earlier t i j k w l s = record {
  within = past_white t i j k w s (cases_lt i k);
  white = λ n g h. s.white n g (omega (arith, h, l));
  solid = s.solid;
}

-- white space from i up to j
pub back_white : (t u : List ℕ) (i j : ℕ) (value : Bool) (comma : Option ℕ) → Agrees t u i → IsWhite u i j → i ≤ j → Back t i value comma → Back u j value comma
back_white t u i j value comma a w l b = λ k s.
    let before = earlier u i j k w l s in
    let h = b k (solid_in t u i i k a (omega arith) before) in
    (h.0 ∙ may_end_in t u i k a before.within, trails_in t u i k comma a before.within h.1)

last_is : (t : List ℕ) (i j k : ℕ) → j ≡ i + 1 → is_space (get_or t i 0) ≡ false → IsSolidEnd t j k → (k < j) ⊎ (j ≤ k) → k ≡ j
last_is t i j k e f s (inr l) = omega (arith, l, s.within)
last_is t i j k e f s (inl l) = absurd (true≢false (sym (s.white i (omega (arith, e, l)) (omega (arith, e))) ∙ f))

-- a byte at i that is neither white space nor a comma
pub back_solid : (t : List ℕ) (i j x : ℕ) (value : Bool) → j ≡ i + 1 → get_or t i 0 ≡ x → is_space x ≡ false → x ≢ 44 → value ≡ not (opens x) → Back t j value None
back_solid t i j x value e is f c v = λ k s.
    let last : k ≡ j = last_is t i j k e (ap is_space is ∙ f) s (cases_lt k j) in
    let at : k - 1 ≡ i = omega (arith, last, e) in (
      v ∙ sym (may_end_at t k (omega (arith, last, e)) ∙ ap (λ n. not (opens (get_or t n 0))) at ∙ ap (λ y. not (opens y)) is),
      λ n m g y r. absurd (c (sym is ∙ ap (λ p. get_or t p 0) (let same : i ≡ n = omega (arith, g, last, e) in same) ∙ y)),
    )

comma_ends : (t : List ℕ) (i j k : ℕ) → j ≡ i + 1 → k ≡ j → get_or t i 0 ≡ 44 → false ≡ may_end t k
comma_ends t i j k e last is =
    let at : k - 1 ≡ i = omega (arith, last, e) in
    sym (may_end_at t k (omega (arith, last, e)) ∙ ap (λ n. not (opens (get_or t n 0))) at ∙ ap (λ y. not (opens y)) is)

comma_last : (t : List ℕ) (i j k : ℕ) → j ≡ i + 1 → get_or t i 0 ≡ 44 → IsSolidEnd t j k → k ≡ j
comma_last t i j k e is s = last_is t i j k e (ap is_space is) s (cases_lt k j)

-- a comma at i
pub back_late : (t : List ℕ) (i j : ℕ) (comma : Option ℕ) → j ≡ i + 1 → get_or t i 0 ≡ 44 → Back t i true comma → Back t j false (Some i)
back_late t i j comma e is b = λ k s.
    let last = comma_last t i j k e is s in
    (comma_ends t i j k e last is, (last ∙ e, is, λ m r. sym (b m r).0))

pub back_early : (t : List ℕ) (i j : ℕ) (comma : Option ℕ) → j ≡ i + 1 → get_or t i 0 ≡ 44 → Back t i false comma → Back t j false None
back_early t i j comma e is b = λ k s.
    let last = comma_last t i j k e is s in (
      comma_ends t i j k e last is,
      λ n m g y r. sym (b m (subst (λ (p : ℕ). IsSolidEnd t p m) (let same : n ≡ i = omega (arith, g, last, e) in same) r)).0,
    )

pub back_first : (t : List ℕ) → Back t 0 false None
back_first t = λ k s.
    let none : k ≡ 0 = omega (arith, s.within) in
    (subst (λ (n : ℕ). false ≡ may_end t n) (sym none) refl, λ n m g y r. absurd (omega (arith, g, none)))

-- ---- the loop

white_at : (t : List ℕ) (e i n : ℕ) → 0 < e → is_space (get_or t (e - 1) 0) ≡ true → IsWhite t e i → n < i → e - 1 ≤ n → (n < e) ⊎ (e ≤ n) → is_space (get_or t n 0) ≡ true
white_at t e i n l x w h g (inr k) = w n k h
white_at t e i n l x w h g (inl k) = ap (λ m. is_space (get_or t m 0)) (let same : n ≡ e - 1 = omega (arith, g, k, l) in same) ∙ x

pub white_more : (t : List ℕ) (e i : ℕ) → 0 < e → is_space (get_or t (e - 1) 0) ≡ true → IsWhite t e i → IsWhite t (e - 1) i
white_more t e i l x w = λ n g h. white_at t e i n l x w h g (cases_lt n e)
