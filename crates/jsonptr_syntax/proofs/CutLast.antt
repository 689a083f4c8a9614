-- A pointer's text cut before its last token.
use Rattle.jsonptr_syntax.specs.Private.{BeginsSegment, IsBackCut, IsSplit}
use Rattle.jsonptr_syntax.proofs.CutBetween.{split_front_valid, split_rest_valid, split_tokens}
use Rattle.std.proofs.Common.{◌≡◌, ◌≢◌, ℕ, ◌+◌, ◌<◌, Some, [], ◌∷◌, ◌++◌, length, get_or, take, drop, refl, sym, ap, ◌∙◌, subst, ⊎_elim, inl, inr, arith, take-append-drop, add-zero, List, append-nil}
use Rattle.std.specs.Prelude.{IsUtf8, IsCharBoundary}
use Rattle.std.proofs.lemmas.List.{get_or-drop, length-drop}
use Rattle.std.proofs.lemmas.Str.{IsUtf8-drop, IsCharBoundary-before_ascii}
use Rattle.std.proofs.lemmas.List.Elements.{All-from_get_or}
use Rattle.std.proofs.lemmas.Bool.{eqb-true, eq-eqb}
use Rattle.memchr.specs.Find.{Nowhere, Passes, IsLastByte, is_byte}
use Rattle.jsonptr_grammar.specs.Text.{Text, esc, unesc, text, tokens_of}
use Rattle.jsonptr_syntax.proofs.CutFirst.{split_first, boundary_after}
use Rattle.jsonptr_grammar.specs.Grammar.{IsToken, IsPointer}
use Rattle.jsonptr_grammar.proofs.EscapeLemmas.{unesc-esc}
use Rattle.jsonptr_grammar.proofs.PointerLemmas.{tokens_of-last, IsPointer-from_tokens, IsPointer-cut}

-- a text cut before and after its last slash
pub cut_at_last : (s : Text) (i : ℕ) → IsLastByte (is_byte 47) s (Some i) → IsBackCut s (take i s) (drop 1 (drop i s))
cut_at_last s i h =
    let below : i < length s = h.0.high in
    let at : get_or (drop i s) 0 0 ≡ 47 = get_or-drop i s 0 0 ∙ ap (λ (k : ℕ). get_or s k 0) (add-zero i) ∙ eqb-true _ _ h.1 in
    record {
      split = sym (take-append-drop i s) ∙ ap (λ (l : Text). take i s ++ l) (split_first (drop i s) at (omega (arith, below, length-drop i s)));
      no_slash = All-from_get_or (λ b. b ≢ 47) (drop 1 (drop i s)) 0
          (λ k inside is.
          let place : i + (1 + k) < length s = omega (arith, inside, length-drop 1 (drop i s), length-drop i s) in
          let reads : get_or (drop 1 (drop i s)) k 0 ≡ get_or s (i + (1 + k)) 0 = get_or-drop 1 (drop i s) k 0 ∙ get_or-drop i s (1 + k) 0 in
          h.0.after (i + (1 + k)) (omega arith) place (eq-eqb _ _ (sym reads ∙ is)));
    }

-- the same, where the parts are known by equations
pub cut_at_last_at : (s bytes front segment last : Text) (i : ℕ) → bytes ≡ s → front ≡ take i s → segment ≡ drop i s → last ≡ drop 1 segment → IsLastByte (is_byte 47) bytes (Some i) → IsBackCut s front last
cut_at_last_at s bytes front segment last i same f g l h = rw (f, l, g) (cut_at_last s i (subst (λ (t : Text). IsLastByte (is_byte 47) t (Some i)) same h))

-- and the segment may be cut after its slash
pub boundary_after_last : (s bytes segment : Text) (i : ℕ) → bytes ≡ s → segment ≡ drop i s → IsUtf8 s → IsLastByte (is_byte 47) bytes (Some i) → IsCharBoundary segment 1
boundary_after_last s bytes segment i same e u h =
    let found : IsLastByte (is_byte 47) s (Some i) = subst (λ (t : Text). IsLastByte (is_byte 47) t (Some i)) same h in
    let at : get_or segment 0 0 ≡ 47 = ap (λ (t : Text). get_or t 0 0) e ∙ get_or-drop i s 0 0 ∙ ap (λ (k : ℕ). get_or s k 0) (add-zero i) ∙ eqb-true _ _ found.1 in
    let whole : IsUtf8 segment = subst IsUtf8 (sym e) (IsUtf8-drop s i u (IsCharBoundary-before_ascii s i found.0.high (let slash = eqb-true _ _ found.1 in omega (arith, slash)))) in
    boundary_after segment whole at (omega (arith, found.0.high, ap length e, length-drop i s))

-- a text without a slash that is empty or begins with one is empty
pub no_slash_empty : (s : Text) → BeginsSegment s → Nowhere (Passes (is_byte 47) s) 0 (length s) → s ≡ []
no_slash_empty [] begins none = refl
no_slash_empty (b ∷ s) begins none = ⊎_elim (λ (slash : b ≡ 47). absurd (none 0 (omega arith) (omega arith) (eq-eqb _ _ slash))) (λ (empty : b ∷ s ≡ []). empty) begins

-- ---- the list of tokens cut there

module _ (s front last : Text) (valid : text (tokens_of s) ≡ s) (cut : IsBackCut s front last) where
  before_last : IsSplit s front (47 ∷ last)
  before_last = record { split = cut.split; begins = inl refl }

  pub back_front : text (tokens_of front) ≡ front
  back_front = split_front_valid s front (47 ∷ last) valid before_last

  pub back_token : IsToken last
  back_token =
      let segment = IsPointer-from_tokens (47 ∷ last) (split_rest_valid s front (47 ∷ last) valid before_last) in
      (IsPointer-cut last [] cut.no_slash (inr refl) (subst (λ (x : Text). IsPointer (47 ∷ x)) (sym (append-nil last)) segment)).0

  pub back_some : tokens_of s ≡ tokens_of front ++ unesc last ∷ []
  back_some = split_tokens s front (47 ∷ last) valid before_last ∙ ap (λ (l : List Text). tokens_of front ++ l) (tokens_of-last last cut.no_slash)

  pub back_tokens : (t : Text) → esc t ≡ last → tokens_of s ≡ tokens_of front ++ t ∷ []
  back_tokens t e = back_some ∙ ap (λ (x : Text). tokens_of front ++ x ∷ []) (ap unesc (sym e) ∙ unesc-esc t)
