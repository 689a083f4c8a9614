-- A token's text around its first escape.
use Rattle.std.proofs.Common.{◌≡◌, ◌≢◌, ℕ, zero, suc, ◌+◌, ◌<◌, [], ◌∷◌, ◌++◌, length, get_or, take, drop, refl, sym, ◌∙◌, ap, subst, arith, append_assoc, add-one}
use Rattle.std.proofs.lemmas.Bool.{eqb-true, ne_eqb}
use Rattle.std.proofs.lemmas.List.{drop-drop, get_or-drop}
use Rattle.memchr.specs.Find.{NoneBefore, Passes, is_byte}
use Rattle.jsonptr_grammar.specs.Text.{Text, escaped_by, unesc}
use Rattle.jsonptr_grammar.specs.Grammar.{IsToken, end, plain, tilde, slash}
use Rattle.jsonptr_grammar.proofs.EscapeLemmas.{unesc-cons}
use Rattle.jsonptr_base.specs.Private.{IsEscapeCut}

-- what is around the first `~` of a token's text
pub record EscapeAt (s : Text) (at : ℕ) : Type 0 where
  pub inside : suc at < length s
  pub ascii : get_or s (suc at) 0 < 128
  pub decoded : unesc s ≡ take at s ++ escaped_by (get_or s (suc at) 0) ∷ unesc (drop (suc (suc at)) s)
  pub token : IsToken (drop (suc (suc at)) s)

pub escape_at : {s : Text} → IsToken s → (at : ℕ) → get_or s at 0 ≡ 126 → ((k : ℕ) → k < at → get_or s k 0 ≢ 126) → EscapeAt s at
escape_at end at is before = absurd (omega (arith, is))
escape_at (plain h k t) zero is before = absurd (h is)
escape_at (plain {b} {bs} h k t) (suc at) is before =
    let e = escape_at t at is (λ j below. before (suc j) (omega arith)) in
    record { inside = let i = e.inside in omega arith; ascii = e.ascii; decoded = unesc-cons b bs h ∙ ap (λ (x : Text). b ∷ x) e.decoded; token = e.token }
escape_at (tilde t) zero is before = record { inside = omega arith; ascii = omega arith; decoded = refl; token = t }
escape_at (tilde t) (suc at) is before = absurd (before 0 (omega arith) refl)
escape_at (slash t) zero is before = record { inside = omega arith; ascii = omega arith; decoded = refl; token = t }
escape_at (slash t) (suc at) is before = absurd (before 0 (omega arith) refl)

pub escape_found : (s r : Text) (at : ℕ) → r ≡ s → IsToken s → NoneBefore (Passes (is_byte 126) r) 0 (length r) at → Passes (is_byte 126) r at → EscapeAt s at
escape_found s r at same token none is =
    let t : IsToken r = subst IsToken (sym same) token in
    subst (λ (x : Text). EscapeAt x at) same (escape_at t at (eqb-true _ _ is) (λ k below e. none.before k (omega arith) below (rw e refl)))

-- the pieces around it
module _ (s escape : Text) (at : ℕ) (e : EscapeAt s at) (cut : escape ≡ drop at s) where
  pub byte_after : get_or escape 1 0 ≡ get_or s (suc at) 0
  byte_after = ap (λ (x : Text). get_or x 1 0) cut ∙ get_or-drop at s 1 0 ∙ ap (λ (k : ℕ). get_or s k 0) (add-one at)

  pub IsEscapeCut-pieces : (front of rest : Text) → front ≡ take at s → rest ≡ drop 2 escape → of ≡ escaped_by (get_or escape 1 0) ∷ [] → length rest + 2 ≡ length escape → length escape + at ≡ length s → IsEscapeCut s front of rest
  IsEscapeCut-pieces front of rest taken back stands after whole =
      let two : at + 2 ≡ suc (suc at) = omega arith in
      let tail : rest ≡ drop (suc (suc at)) s = back ∙ ap (drop 2) cut ∙ drop-drop 2 at s ∙ ap (λ (k : ℕ). drop k s) two in
      record {
        decoded = e.decoded ∙ sym (append_assoc (take at s) (escaped_by (get_or s (suc at) 0) ∷ []) (unesc (drop (suc (suc at)) s)))
            ∙ rw (taken, stands, tail, byte_after) refl;
        token = subst IsToken (sym tail) e.token;
        shorter = omega arith;
      }

-- the text that an escape encodes, by the byte after the `~`
pub stands_for_one : (b : ℕ) (of : Text) → b ≡ 49 → of ≡ 47 ∷ [] → of ≡ escaped_by b ∷ []
stands_for_one b of one is = is ∙ rw one refl

pub stands_for_other : (b : ℕ) (of : Text) → b ≢ 49 → of ≡ 126 ∷ [] → of ≡ escaped_by b ∷ []
stands_for_other b of other is = is ∙ rw (ne_eqb b 49 other) refl

-- what has been written, with one more piece and one more escape
pub written_more : (w front of u r all : Text) → r ≡ front ++ of ++ u → w ++ r ≡ all → ((w ++ front) ++ of) ++ u ≡ all
written_more w front of u r all cut e =
    append_assoc (w ++ front) of u ∙ append_assoc w front (of ++ u) ∙ ap (λ (x : Text). w ++ x) (sym (append_assoc front of u) ∙ sym cut) ∙ e
