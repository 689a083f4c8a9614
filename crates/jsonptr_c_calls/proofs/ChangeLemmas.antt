-- A text with some bytes replaced.
use Rattle.std.proofs.Common.{◌≡◌, ⊎_elim, ℕ, ◌+◌, ◌-◌, ◌<◌, ◌≤◌, Bool, true, List, ◌++◌, get_or, length, take, drop, ap, ap₂, sym, ◌∙◌, arith, length-drop, true≢false}
use Rattle.std.proofs.lemmas.Bool.{cases_lt}
use Rattle.jsonptr_c_calls.specs.Changing.{IsBetween, starts_inside}
use Rattle.std.proofs.lemmas.List.{drop-drop, get_or-drop, length-take-le, take-append-drop}

-- `Splices old new s i j`: from `s` on, the bytes of `old` up to `i` are replaced, by those of `new` up to `j`
abbrev pub Splices : List ℕ → List ℕ → ℕ → ℕ → ℕ → Type 0
Splices old new s i j = (put : List ℕ) × (s ≤ i) × (i ≤ length old) × (j ≡ s + length put) × (new ≡ take s old ++ (put ++ drop i old))

-- texts that are the same up to one offset, and from other ones on
pub splices : (old new : List ℕ) (s i j : ℕ) → take s old ≡ take s new → drop i old ≡ drop j new → s ≤ i → i ≤ length old → s ≤ j → j ≤ length new → Splices old new s i j
splices old new s i j start end si il sj jl =
    let put : List ℕ = take (j - s) (drop s new) in
    let rest : length (drop s new) ≡ length new - s = length-drop s new in
    let room : j - s ≤ length (drop s new) = omega (arith, rest, sj, jl) in
    let size : length put ≡ j - s = length-take-le (j - s) (drop s new) room in
    let one : new ≡ take s new ++ drop s new = sym (take-append-drop s new) in
    let two : drop s new ≡ put ++ drop (j - s) (drop s new) = sym (take-append-drop (j - s) (drop s new)) in
    let three : drop (j - s) (drop s new) ≡ drop (s + (j - s)) new = drop-drop (j - s) s new in
    let sum : s + (j - s) ≡ j = omega (arith, sj) in
    let four : drop (s + (j - s)) new ≡ drop j new = ap (λ (n : ℕ). drop n new) sum in
    let last : drop s new ≡ put ++ drop i old = two ∙ ap (λ (r : List ℕ). put ++ r) (three ∙ four ∙ sym end) in
    let whole : new ≡ take s old ++ (put ++ drop i old) = one ∙ ap₂ (λ (a b : List ℕ). a ++ b) (sym start) last in
    (put, si, il, omega (arith, size, sj), whole)

-- ---- The smallest change

pub not_before : (r i : ℕ) → (i < r → ⊥) → r ≤ i
not_before r i h = ⊎_elim (λ lt. absurd (h lt)) (λ le. le) (cases_lt i r)

-- one more offset that is inside of a character
pub one_more : (old : List ℕ) (low i : ℕ) (b : Bool) → ((k : ℕ) → low ≤ k → k < i → IsBetween old k → ⊥) → b ≡ starts_inside (drop i old) → b ≡ true
    → (k : ℕ) → low ≤ k → k < i + 1 → IsBetween old k → ⊥
one_more old low i b before is so k le lt between =
    ⊎_elim (λ l. before k le l between) (λ ge.
    let here : k ≡ i = omega (arith, lt, ge) in
    true≢false (sym so ∙ (is ∙ (ap (λ (n : ℕ). starts_inside (drop n old)) (sym here) ∙ between)))) (cases_lt k i)

-- ends that both texts have in common are as long in both
pub same_ends_long : (old new : List ℕ) (i j p q : ℕ) → drop i old ≡ drop j new → drop p old ≡ drop q new → i ≤ length old → j ≤ length new → p ≤ length old → q ≤ length new → p + j ≡ i + q
same_ends_long old new i j p q one two a b c d =
    let long : length old - i ≡ length new - j = sym (length-drop i old) ∙ (ap (λ (t : List ℕ). length t) one ∙ length-drop j new) in
    let longer : length old - p ≡ length new - q = sym (length-drop p old) ∙ (ap (λ (t : List ℕ). length t) two ∙ length-drop q new) in
    omega (arith, long, longer, a, b, c, d)

-- the bytes before an end that is shorter than another one
pub same_byte : (old new : List ℕ) (i j p q : ℕ) → drop p old ≡ drop q new → p < i → p + j ≡ i + q → get_or old (i - 1) 0 ≡ get_or new (j - 1) 0
same_byte old new i j p q same lt long =
    let d : ℕ = i - 1 - p in
    let at : p + d ≡ i - 1 = omega (arith, lt) in
    let also : q + d ≡ j - 1 = omega (arith, lt, long) in
    ap (λ (n : ℕ). get_or old n 0) (sym at) ∙ (sym (get_or-drop p old d 0) ∙ (ap (λ (t : List ℕ). get_or t d 0) same ∙ (get_or-drop q new d 0 ∙ ap (λ (n : ℕ). get_or new n 0) also)))
