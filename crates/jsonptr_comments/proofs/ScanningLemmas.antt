-- What follows a piece is found by three recursions on the text.
use Rattle.std.proofs.Common.{◌≡◌, ◌≢◌, ℕ, ◌+◌, ◌<◌, ◌≤◌, List, length, get_or, arith, length-drop, [], ◌∷◌, ◌++◌, slice_index, drop, Bool, true, false, cond, ◌&&◌, ◌==◌, Some, None, refl, sym, ap, ap₂, ◌∙◌, subst, inl, inr, eqb-true, ne_eqb}
use Rattle.std.proofs.lemmas.Bool.{true≢false, false≢true, eqb-false, and_parts, false_from_ne_true, cond-false}
use Rattle.std.proofs.lemmas.List.{drop_more, drop_all}
use Rattle.jsonptr_comments.specs.Comments.{EndsString, IsInLine, IsLineEnd, IsInBlock, is_break}
use Rattle.jsonptr_comments.specs.PrivateScanning.{after_string, after_line, after_block}

-- ---- strings

same_ends : (b d : Bool) (xs : List ℕ) → cond b xs (cond d xs xs) ≡ xs
same_ends true d xs = refl
same_ends false true xs = refl
same_ends false false xs = refl

last_byte : (x : ℕ) → after_string (x ∷ []) ≡ []
last_byte x = same_ends (x == 34) (x == 92) []

pub after_string-of : (s after : List ℕ) → EndsString s after → after_string (s ++ after) ≡ after
after_string-of [] after h = subst (λ (t : List ℕ). after_string t ≡ t) (sym h) refl
after_string-of (x ∷ []) after (inl e) = rw e refl
after_string-of (x ∷ []) after (inr e) = subst (λ (t : List ℕ). after_string (x ∷ t) ≡ t) (sym e) (last_byte x)
after_string-of (x ∷ y ∷ s) after (inl h) = rw (h.0) (after_string-of s after h.1)
after_string-of (x ∷ y ∷ s) after (inr h) =
    let quote = ne_eqb x 34 h.1 in
    let slash = ne_eqb x 92 h.0 in
    rw (quote, slash) (after_string-of (y ∷ s) after h.2)

-- the text t begins with the rest of a string, and then comes `after`
abbrev pub HasString : List ℕ → List ℕ → Type 0
HasString t after = (s : List ℕ) × (t ≡ s ++ after) × EndsString s after

longer : (x : ℕ) (s after : List ℕ) → x ≢ 92 → x ≢ 34 → EndsString s after → EndsString (x ∷ s) after
longer x [] after n m h = inr h
longer x (y ∷ s) after n m h = inr (n, m, h)

string_step : (quote slash : Bool) (x y : ℕ) (ys : List ℕ) → (x == 34) ≡ quote → (x == 92) ≡ slash → HasString ys (after_string ys) → HasString (y ∷ ys) (after_string (y ∷ ys))
    → HasString (x ∷ y ∷ ys) (cond quote (y ∷ ys) (cond slash (after_string ys) (after_string (y ∷ ys))))
string_step true slash x y ys e f behind next = (x ∷ [], refl, inl (eqb-true x 34 e))
string_step false true x y ys e f behind next = (x ∷ y ∷ behind.0, ap (λ t. x ∷ y ∷ t) behind.1, inl (eqb-true x 92 f, behind.2))
string_step false false x y ys e f behind next =
    (x ∷ next.0, ap (λ t. x ∷ t) next.1, longer x next.0 _ (eqb-false x 92 f) (eqb-false x 34 e) next.2)

pub after_string-is : (t : List ℕ) → HasString t (after_string t)
after_string-is [] = ([], refl, refl)
after_string-is (x ∷ []) = (x ∷ [], ap (λ t. x ∷ t) (sym (last_byte x)), inr (last_byte x))
after_string-is (x ∷ y ∷ ys) = string_step (x == 34) (x == 92) x y ys refl refl (after_string-is ys) (after_string-is (y ∷ ys))

-- ---- line comments

pub after_line-of : (s after : List ℕ) → IsInLine s → IsLineEnd after → after_line (s ++ after) ≡ after
after_line-of [] [] h k = refl
after_line-of [] (x ∷ after) h k = rw k refl
after_line-of (x ∷ s) after h k = let e = h.0 in rw e (after_line-of s after h.1 k)

abbrev pub HasLine : List ℕ → List ℕ → Type 0
HasLine t after = (s : List ℕ) × (t ≡ s ++ after) × IsInLine s × IsLineEnd after

line_step : (b : Bool) (x : ℕ) (xs : List ℕ) → is_break x ≡ b → HasLine xs (after_line xs) → HasLine (x ∷ xs) (cond b (x ∷ xs) (after_line xs))
line_step true x xs e next = ([], refl, tt, e)
line_step false x xs e next = (x ∷ next.0, ap (λ t. x ∷ t) next.1, (e, next.2), next.3)

pub after_line-is : (t : List ℕ) → HasLine t (after_line t)
after_line-is [] = ([], refl, tt, tt)
after_line-is (x ∷ xs) = line_step (is_break x) x xs refl (after_line-is xs)

-- ---- block comments

-- the text begins with `*/`
abbrev ends : ℕ → List ℕ → Bool
ends x xs = (x == 42) && (slice_index xs 0 == 47)

pub tail_in_block : (x : ℕ) (s : List ℕ) → IsInBlock (x ∷ s) → IsInBlock s
tail_in_block x s h a b e = h (x ∷ a) b (ap (λ t. x ∷ t) e)

never : (x : ℕ) → ((x == 42) && false) ≡ false
never x = elim (x == 42) as (λ b. (b && false) ≡ false) [ true ↦ refl | false ↦ refl ]

no_end : (t s : Bool) (x y : ℕ) (ys : List ℕ) → (x == 42) ≡ t → (y == 47) ≡ s → IsInBlock (x ∷ y ∷ ys) → (t && s) ≡ false
no_end true true x y ys e f h = absurd (h [] ys (ap₂ (λ v w. v ∷ w ∷ ys) (eqb-true x 42 e) (eqb-true y 47 f)))
no_end true false x y ys e f h = refl
no_end false s x y ys e f h = refl

pub after_block-of : (s after : List ℕ) → IsInBlock s → after_block (s ++ 42 ∷ 47 ∷ after) ≡ Some after
after_block-of [] after h = refl
after_block-of (x ∷ []) after h = let e = never x in rw e refl
after_block-of (x ∷ y ∷ s) after h =
    let e = no_end (x == 42) (y == 47) x y s refl refl h in
    rw e (after_block-of (y ∷ s) after (tail_in_block x (y ∷ s) h))

pub in_block_cons : (x : ℕ) (s : List ℕ) → ends x s ≡ false → IsInBlock s → IsInBlock (x ∷ s)
in_block_cons x s f h [] b e =
    let p : x ≡ 42 = cc in
    let q : s ≡ 47 ∷ b = cc in
    absurd (true≢false (sym (ap₂ (λ y t. ends y t) p q) ∙ f))
in_block_cons x s f h (y ∷ a) b e = h a b cc

in_block_nil : IsInBlock []
in_block_nil [] b e = cc
in_block_nil (y ∷ a) b e = cc

none_step : (b : Bool) (x : ℕ) (xs : List ℕ) → ends x xs ≡ b → cond b (Some (drop 1 xs)) (after_block xs) ≡ None → (after_block xs ≡ None → IsInBlock xs) → IsInBlock (x ∷ xs)
none_step true x xs e h next = cc
none_step false x xs e h next = in_block_cons x xs e (next h)

pub after_block-none : (t : List ℕ) → after_block t ≡ None → IsInBlock t
after_block-none [] h = in_block_nil
after_block-none (x ∷ xs) h = none_step (ends x xs) x xs refl h (after_block-none xs)

abbrev pub HasBlock : List ℕ → List ℕ → Type 0
HasBlock t after = (s : List ℕ) × (t ≡ s ++ 42 ∷ 47 ∷ after) × IsInBlock s

-- where a text begins with `*/`, its parts
parts : (x : ℕ) (xs : List ℕ) → ends x xs ≡ true → x ∷ xs ≡ 42 ∷ 47 ∷ drop 1 xs
parts x [] e = absurd (false≢true (sym (never x) ∙ e))
parts x (y ∷ ys) e =
    let h = and_parts (x == 42) (y == 47) e in
    ap₂ (λ v w. v ∷ w ∷ ys) (eqb-true x 42 h.0) (eqb-true y 47 h.1)

same_end : (x : ℕ) (xs s after : List ℕ) → xs ≡ s ++ 42 ∷ 47 ∷ after → ends x xs ≡ false → ends x s ≡ false
same_end x xs [] after e f = never x
same_end x xs (y ∷ s) after e f = ap (λ t. ends x t) (sym e) ∙ f

some_step : (b : Bool) (x : ℕ) (xs after : List ℕ) → ends x xs ≡ b → cond b (Some (drop 1 xs)) (after_block xs) ≡ Some after → (after_block xs ≡ Some after → HasBlock xs after) → HasBlock (x ∷ xs) after
some_step true x xs after e h next =
    let same : drop 1 xs ≡ after = cc in
    ([], parts x xs e ∙ ap (λ t. 42 ∷ 47 ∷ t) same, in_block_nil)
some_step false x xs after e h next =
    let k = next h in
    (x ∷ k.0, ap (λ t. x ∷ t) k.1, in_block_cons x k.0 (same_end x xs k.0 after k.1 e) k.2)

pub after_block-some : (t after : List ℕ) → after_block t ≡ Some after → HasBlock t after
after_block-some [] after h = cc
after_block-some (x ∷ xs) after h = some_step (ends x xs) x xs after refl h (after_block-some xs after)

-- ---- one step of the loops

pub string_stop : (t : List ℕ) (i b : ℕ) → i < length t → b ≡ get_or t i 0 → b ≡ 34 → after_string (drop i t) ≡ drop (i + 1) t
string_stop t i b l r e = rw (drop_more t i 0 l, ← r, e) refl

pub string_skip : (t : List ℕ) (i b : ℕ) → i + 1 < length t → b ≡ get_or t i 0 → b ≡ 92 → after_string (drop i t) ≡ after_string (drop (i + 1 + 1) t)
string_skip t i b l r e =
    let k : i < length t = omega arith in
    let first : drop i t ≡ 92 ∷ (get_or t (i + 1) 0 ∷ drop (i + 1 + 1) t) = drop_more t i 0 k ∙ ap₂ (λ x y. x ∷ y) (sym r ∙ e) (drop_more t (i + 1) 0 l) in
    ap after_string first

pub string_last : (t : List ℕ) (i b : ℕ) → i < length t → length t ≤ i + 1 → b ≡ get_or t i 0 → b ≡ 92 → after_string (drop i t) ≡ after_string (drop (i + 1) t)
string_last t i b l m r e =
    let first : drop i t ≡ 92 ∷ [] = drop_more t i 0 l ∙ ap₂ (λ x y. x ∷ y) (sym r ∙ e) (drop_all (i + 1) t m) in
    ap after_string first ∙ ap after_string (sym (drop_all (i + 1) t m))

pub string_pass : (t : List ℕ) (i b : ℕ) → i < length t → b ≡ get_or t i 0 → b ≢ 34 → b ≢ 92 → after_string (drop i t) ≡ after_string (drop (i + 1) t)
string_pass t i b l r q s =
    let quote = ne_eqb b 34 q in
    let slash = ne_eqb b 92 s in
    let first : drop i t ≡ b ∷ drop (i + 1) t = drop_more t i 0 l ∙ ap (λ x. x ∷ drop (i + 1) t) (sym r) in
    ap after_string first ∙ rw (quote, slash) refl

pub string_done : (t : List ℕ) (i : ℕ) → length t ≤ i → after_string (drop i t) ≡ drop i t
string_done t i l = rw (drop_all i t l) refl

pub line_stop : (t : List ℕ) (i : ℕ) → i < length t → is_break (get_or t i 0) ≡ true → after_line (drop i t) ≡ drop i t
line_stop t i l e = rw (drop_more t i 0 l, e) refl

pub line_pass : (t : List ℕ) (i : ℕ) → i < length t → is_break (get_or t i 0) ≡ false → after_line (drop i t) ≡ after_line (drop (i + 1) t)
line_pass t i l e = rw (drop_more t i 0 l, e) refl

pub line_done : (t : List ℕ) (i : ℕ) → length t ≤ i → after_line (drop i t) ≡ drop i t
line_done t i l = rw (drop_all i t l) refl

pub block_hit : (t : List ℕ) (i : ℕ) → i + 1 < length t → get_or t i 0 ≡ 42 → get_or t (i + 1) 0 ≡ 47 → after_block (drop i t) ≡ Some (drop (i + 2) t)
block_hit t i l e f =
    let k : i < length t = omega arith in
    let n : i + 1 + 1 ≡ i + 2 = omega arith in
    let first : drop i t ≡ 42 ∷ (47 ∷ drop (i + 1 + 1) t) = drop_more t i 0 k ∙ ap₂ (λ x y. x ∷ y) e (drop_more t (i + 1) 0 l ∙ ap (λ y. y ∷ drop (i + 1 + 1) t) f) in
    ap after_block first ∙ ap (λ m. Some (drop m t)) n

pub block_pass : (t : List ℕ) (i : ℕ) → i + 1 < length t → (get_or t i 0 ≡ 42 → get_or t (i + 1) 0 ≢ 47) → after_block (drop i t) ≡ after_block (drop (i + 1) t)
block_pass t i l h =
    let k : i < length t = omega arith in
    let x = get_or t i 0 in
    let y = get_or t (i + 1) 0 in
    let rest : drop (i + 1) t ≡ y ∷ drop (i + 1 + 1) t = drop_more t (i + 1) 0 l in
    let first : drop i t ≡ x ∷ (y ∷ drop (i + 1 + 1) t) = drop_more t i 0 k ∙ ap (λ r. x ∷ r) rest in
    let no : ((x == 42) && (y == 47)) ≡ false = false_from_ne_true _ (λ e. let p = and_parts (x == 42) (y == 47) e in h (eqb-true x 42 p.0) (eqb-true y 47 p.1)) in
    ap after_block first ∙ cond-false ((x == 42) && (y == 47)) (Some (drop (i + 1 + 1) t)) (after_block (y ∷ drop (i + 1 + 1) t)) no ∙ ap after_block (sym rest)

block_short : (t : List ℕ) → length t ≤ 1 → after_block t ≡ None
block_short [] l = refl
block_short (x ∷ []) l = rw (never x) refl
block_short (x ∷ y ∷ t) l = absurd (omega arith)

pub block_done : (t : List ℕ) (i : ℕ) → length t ≤ i + 1 → after_block (drop i t) ≡ None
block_done t i l = block_short (drop i t) (omega (arith, length-drop i t))
