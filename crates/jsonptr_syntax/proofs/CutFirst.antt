-- A pointer's text cut after its first token.
use Rattle.jsonptr_syntax.specs.Private.{BeginsSegment, IsCut}
use Rattle.std.proofs.Common.{◌≡◌, ◌≢◌, ℕ, ◌<◌, Some, [], ◌∷◌, length, get_or, take, drop, refl, sym, ap, ◌∙◌, subst, inl, inr, arith, append-nil, take-append-drop, add-zero}
use Rattle.std.proofs.lemmas.List.{get_or-take, length-take-le, get_or-drop}
use Rattle.std.proofs.lemmas.Bool.{eqb-true, eq-eqb}
use Rattle.std.specs.Prelude.{IsUtf8, IsCharBoundary}
use Rattle.std.proofs.lemmas.Str.{IsCharBoundary-after_ascii}
use Rattle.std.proofs.lemmas.List.Elements.{All-from_get_or}
use Rattle.memchr.specs.Find.{Nowhere, Passes, IsFirstByte, is_byte}
use Rattle.jsonptr_grammar.specs.Text.{Text, esc, unesc, text, tokens_of}
use Rattle.jsonptr_grammar.specs.Grammar.{IsToken, IsPointer}
use Rattle.jsonptr_grammar.proofs.EscapeLemmas.{unesc-esc}
use Rattle.jsonptr_grammar.proofs.PointerLemmas.{IsPointer-cut, IsPointer-from_tokens, text-tokens_of, tokens_of-segment, BeginsSegment-IsPointer}

-- where a text that begins with a slash may be cut
pub boundary_after : (s : Text) → IsUtf8 s → get_or s 0 0 ≡ 47 → 0 < length s → IsCharBoundary s 1
boundary_after s u slash some = IsCharBoundary-after_ascii s 0 u some (omega (arith, slash))

-- a text that begins with a slash, that slash and the rest
pub split_first : (s : Text) → get_or s 0 0 ≡ 47 → 0 < length s → s ≡ 47 ∷ drop 1 s
split_first [] slash some = absurd (omega arith)
split_first (b ∷ bs) slash some = ap (λ (x : ℕ). x ∷ bs) slash

-- no slash after the first one
pub cut_last : (s : Text) → get_or s 0 0 ≡ 47 → 0 < length s → Nowhere (Passes (is_byte 47) (drop 1 s)) 0 (length (drop 1 s)) → IsCut s (drop 1 s) []
cut_last s slash some none = record {
  split = split_first s slash some ∙ ap (λ (l : Text). 47 ∷ l) (sym (append-nil (drop 1 s)));
  no_slash = All-from_get_or (λ b. b ≢ 47) (drop 1 s) 0 (λ k below is. none k (omega arith) below (eq-eqb _ _ is));
  begins = inr refl;
}

-- a second slash at an offset of what follows the first
pub split_at_boundary : (s : Text) (i : ℕ) → get_or s 0 0 ≡ 47 → 0 < length s → IsFirstByte (is_byte 47) (drop 1 s) (Some i) → IsCut s (take i (drop 1 s)) (drop i (drop 1 s))
split_at_boundary s i slash some h =
    let below : i < length (drop 1 s) = h.0.high in
    let short : length (take i (drop 1 s)) ≡ i = length-take-le i (drop 1 s) (omega arith) in
    let first : get_or (drop i (drop 1 s)) 0 0 ≡ get_or (drop 1 s) i 0 = get_or-drop i (drop 1 s) 0 0 ∙ ap (λ (k : ℕ). get_or (drop 1 s) k 0) (add-zero i) in
    record {
      split = split_first s slash some ∙ ap (λ (l : Text). 47 ∷ l) (sym (take-append-drop i (drop 1 s)));
      no_slash = All-from_get_or (λ b. b ≢ 47) (take i (drop 1 s)) 0
          (λ k low is. h.0.before k (omega arith) (omega (arith, short)) (eq-eqb _ _ (sym (get_or-take i (drop 1 s) k 0 (omega (arith, short))) ∙ is)));
      begins = inl (first ∙ eqb-true _ _ h.1);
    }

-- the same, where the parts are known by equations
pub cut_at_at : (s bytes after first rest : Text) (i : ℕ) → bytes ≡ after → after ≡ drop 1 s → first ≡ take i after → rest ≡ drop i after → get_or s 0 0 ≡ 47 → 0 < length s
    → IsFirstByte (is_byte 47) bytes (Some i) → IsCut s first rest
cut_at_at s bytes after first rest i e d f r slash some found =
    rw (f, r, d) (split_at_boundary s i slash some (subst (λ (t : Text). IsFirstByte (is_byte 47) t (Some i)) (e ∙ d) found))

-- the cut of a pointer's text is its first token and the rest
module _ (s first rest : Text) (valid : text (tokens_of s) ≡ s) (cut : IsCut s first rest) where
  parts : IsToken first × IsPointer rest
  parts = IsPointer-cut first rest cut.no_slash cut.begins (subst IsPointer cut.split (IsPointer-from_tokens s valid))

  pub cut_token : IsToken first
  cut_token = parts.0

  pub cut_rest : text (tokens_of rest) ≡ rest
  cut_rest = text-tokens_of parts.1

  pub cut_tokens : (t : Text) → esc t ≡ first → tokens_of s ≡ t ∷ tokens_of rest
  cut_tokens t e =
      ap tokens_of cut.split ∙ tokens_of-segment first rest cut.no_slash cut.begins
      ∙ ap (λ (x : Text). x ∷ tokens_of rest) (ap unesc (sym e) ∙ unesc-esc t)

pub begins_valid : (s : Text) → text (tokens_of s) ≡ s → BeginsSegment s
begins_valid s valid = BeginsSegment-IsPointer (IsPointer-from_tokens s valid)
