-- The text of a pointer that is edited, against its list of tokens.
use Rattle.jsonptr_syntax.specs.Private.{BeginsSegment}
use Rattle.std.proofs.Common.{◌≡◌, ℕ, ◌+◌, ◌<◌, ◌≤◌, Some, List, [], ◌∷◌, ◌++◌, length, get_or, take, drop, refl, sym, ap, ◌∙◌, ⊎_elim, arith, length-append, append_assoc, slice_get, slice_set, add-zero}
use Rattle.std.proofs.Math.Seq.{take-append_seam, drop-append_seam, set-append_seam}
use Rattle.std.proofs.lemmas.List.{get_or-append-add}
use Rattle.std.proofs.lemmas.Str.{IsCharBoundary-after_ascii}
use Rattle.std.specs.Prelude.{IsUtf8}
use Rattle.jsonptr_grammar.specs.Text.{Text, esc, text, tokens_of}
use Rattle.jsonptr_grammar.proofs.PointerLemmas.{tokens_of-text, text-append, text-push}

-- ---- texts that are the text of a known list

module _ (s : Text) (ts : List Text) (e : s ≡ text ts) where
  pub list_is : tokens_of s ≡ ts
  list_is = ap tokens_of e ∙ tokens_of-text ts

  pub holds : text (tokens_of s) ≡ s
  holds = ap text list_is ∙ sym e

module _ (s : Text) (ts : List Text) (valid : text (tokens_of s) ≡ s) (view : tokens_of s ≡ ts) where
  pub text_is : s ≡ text ts
  text_is = sym valid ∙ ap text view

  -- with a segment before it or after it
  pub front_text : (t x new : Text) → x ≡ esc t → new ≡ 47 ∷ x ++ s → new ≡ text (t ∷ ts)
  front_text t x new same e = rw (e, same, ← text_is) refl

  pub back_text : (t x new : Text) → x ≡ esc t → new ≡ s ++ 47 ∷ x → new ≡ text (ts ++ t ∷ [])
  back_text t x new same e = rw (e, same, text-push ts t, ← text_is) refl

  -- with another pointer's text after it
  pub joined_text : (us : List Text) (u new : Text) → u ≡ text us → new ≡ s ++ u → new ≡ text (ts ++ us)
  joined_text us u new other e = rw (e, other, text-append ts us, ← text_is) refl

  -- cut before its last token, around a token, and after its first one
  pub before_last : (front t : Text) → text (tokens_of front) ≡ front → ts ≡ tokens_of front ++ t ∷ [] → s ≡ front ++ 47 ∷ esc t
  before_last front t f e = text_is ∙ ap text e ∙ text-push (tokens_of front) t ∙ ap (λ (x : Text). x ++ 47 ∷ esc t) f

  pub around : (front t rest : Text) → text (tokens_of front) ≡ front → text (tokens_of rest) ≡ rest → ts ≡ tokens_of front ++ t ∷ tokens_of rest → s ≡ front ++ (47 ∷ (esc t ++ rest))
  around front t rest f r e = rw (text_is, e, text-append (tokens_of front) (t ∷ tokens_of rest), f, r) refl

  pub behind_first : (t rest : Text) → text (tokens_of rest) ≡ rest → ts ≡ t ∷ tokens_of rest → s ≡ (47 ∷ esc t) ++ rest
  behind_first t rest r e = text_is ∙ ap text e ∙ ap (λ (x : Text). 47 ∷ esc t ++ x) r

-- ---- a text cut at an offset

-- where a text may be cut, as `String` asks
abbrev pub IsPoint : Text → ℕ → Type 0
IsPoint s n = (n ≤ length s) × (0 < n → n < length s → 128 ≤ get_or s n 0 → 192 ≤ get_or s n 0)

module _ (s a b : Text) (e : s ≡ a ++ b) (n : ℕ) (at : n ≡ length a) where
  pub front_at : take n s ≡ a
  front_at = rw (e, at) (take-append_seam a b)

  pub rest_at : drop n s ≡ b
  rest_at = rw (e, at) (drop-append_seam a b)

  pub reads_at : get_or s n 0 ≡ get_or b 0 0
  reads_at = rw (e, at, ← add-zero (length a)) (get_or-append-add a b 0 0)

  within_at : n ≤ length s
  within_at = omega (arith, at, ap length e, length-append a b)

  -- before a segment
  pub point_at : BeginsSegment b → IsPoint s n
  point_at begins = (
    within_at,
    λ _ low over.
        absurd (⊎_elim
        (λ (slash : get_or b 0 0 ≡ 47). omega (arith, over, reads_at, slash))
        (λ (empty : b ≡ []). omega (arith, low, at, ap length e, length-append a b, ap length empty))
        begins),
  )

-- after the slash of a segment
pub point_behind : (s a b : Text) (n : ℕ) → s ≡ a ++ 47 ∷ b → n ≡ length a + 1 → IsUtf8 s → IsPoint s n
point_behind s a b n e at utf8 =
    let inside : length a < length s = omega (arith, ap length e, length-append a (47 ∷ b)) in
    let slash : get_or s (length a) 0 ≡ 47 = reads_at s a (47 ∷ b) e (length a) refl in
    let bound = IsCharBoundary-after_ascii s (length a) utf8 inside (omega (arith, slash)) in
    rw at (bound.0, λ _. bound.1)

-- ---- a token instead of another

module _ (s front rest old : Text) (e : s ≡ front ++ (47 ∷ (esc old ++ rest))) where
  behind_slash : s ≡ (front ++ 47 ∷ []) ++ (esc old ++ rest)
  behind_slash = e ∙ sym (append_assoc front (47 ∷ []) (esc old ++ rest))

  pub before_rest : s ≡ (front ++ 47 ∷ esc old) ++ rest
  before_rest = e ∙ sym (append_assoc front (47 ∷ esc old) rest)

  pub around_len : length s ≡ length front + 1 + length (esc old) + length rest
  around_len = omega (arith, ap length e, length-append front (47 ∷ (esc old ++ rest)), length-append (esc old) rest)

  module _ (a b : ℕ) (start : a ≡ length front + 1) (end : b + length rest ≡ length s) where
    pub end_is : b ≡ length (front ++ 47 ∷ esc old)
    end_is = omega (arith, end, around_len, length-append front (47 ∷ esc old))

    pub replaced_text : (t x new : Text) → text (tokens_of front) ≡ front → text (tokens_of rest) ≡ rest → x ≡ esc t → new ≡ (take a s ++ x) ++ drop b s → new ≡ text (tokens_of front ++ t ∷ tokens_of rest)
    replaced_text t x new f r same is =
        let before : take a s ≡ front ++ 47 ∷ [] = front_at s (front ++ 47 ∷ []) (esc old ++ rest) behind_slash a (start ∙ sym (length-append front (47 ∷ []))) in
        let after : drop b s ≡ rest = rest_at s (front ++ 47 ∷ esc old) rest before_rest b end_is in
        rw (is, before, after, same, text-append (tokens_of front) (t ∷ tokens_of rest), f, r, append_assoc front (47 ∷ []) (esc t), append_assoc front (47 ∷ esc t) rest) refl

get_seam : (a : List Text) (x : Text) (b : List Text) → slice_get (a ++ x ∷ b) (length a) ≡ Some x
get_seam [] x b = refl
get_seam (y ∷ a) x b = get_seam a x b

module _ (ts a b : List Text) (x : Text) (e : ts ≡ a ++ x ∷ b) (i : ℕ) (at : length a ≡ i) where
  pub was_there : i < length ts
  was_there = omega (arith, at, ap length e, length-append a (x ∷ b))

  pub was_that : slice_get ts i ≡ Some x
  was_that = rw (e, ← at) (get_seam a x b)

  pub is_set : (t : Text) → slice_set ts i t ≡ a ++ t ∷ b
  is_set t = rw (e, ← at) (set-append_seam a x b t)
