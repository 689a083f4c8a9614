-- The first and the last token of a list, and all but the last, read by position.
use Rattle.std.proofs.Common.{◌≡◌, ℕ, suc, zero, ◌+◌, List, [], ◌∷◌, ◌++◌, Option, Some, None, length, take, slice_get, refl, sym, ap, ◌∙◌, subst, arith}
use Rattle.jsonptr.specs.Text.{Text}
use Rattle.jsonptr.specs.Ends.{IsFirstOf, IsLastOf}
use Rattle.jsonptr.specs.Slice.{GivesTo}
use Rattle.jsonptr.specs.declared.pointer.Pointer.{Pointer}
use Rattle.jsonptr.specs.Pointer.{tokens, IsParentOf}

pub first_read : (ts : List Text) (r : Option Text) → r ≡ slice_get ts 0 → IsFirstOf ts r
first_read [] r e = subst (IsFirstOf []) (sym e) refl
first_read (t ∷ ts) r e = subst (IsFirstOf (t ∷ ts)) (sym e) (ts, refl)

record LastAt (ts : List Text) (n : ℕ) : Type 0 where
  last : Text
  here : slice_get ts n ≡ Some last
  split : ts ≡ take n ts ++ last ∷ []

last_at : (ts : List Text) (n : ℕ) → n + 1 ≡ length ts → LastAt ts n
last_at [] n e = absurd (omega (arith, e))
last_at (t ∷ []) zero e = record { last = t; here = refl; split = refl }
last_at (t ∷ u ∷ ts) zero e = absurd (omega (arith, e))
last_at (t ∷ ts) (suc n) e =
    let more = last_at ts n (omega (arith, e)) in
    record { last = more.last; here = more.here; split = ap (λ (l : List Text). t ∷ l) more.split }

pub last_read : (ts : List Text) (n : ℕ) (r : Option Text) → n + 1 ≡ length ts → r ≡ slice_get ts n → IsLastOf ts r
last_read ts n r e is = let at = last_at ts n e in subst (IsLastOf ts) (sym (is ∙ at.here)) (take n ts, at.split)

pub parent_read : (ts : List Text) (n : ℕ) (r : Option Pointer) → n + 1 ≡ length ts → GivesTo n ts r → IsParentOf ts r
parent_read ts n None e h = absurd (h (omega (arith, e)))
parent_read ts n (Some p) e h =
    let at = last_at ts n e in
    let front : tokens p ≡ take n ts = h.1 ∙ ap (λ (k : ℕ). take k ts) (omega arith) in
    (at.last, at.split ∙ ap (λ (l : List Text). l ++ at.last ∷ []) (sym front))
