-- A token of a pointer's text, cut out by the offsets of its slash and of its end.
use Rattle.std.proofs.Common.{◌≡◌, ℕ, ◌+◌, List, [], ◌∷◌, ◌++◌, length, get_or, take, drop, sym, ap, ◌∙◌, subst, arith, length-append, append_assoc, append-nil, add-zero}
use Rattle.std.proofs.lemmas.List.{take_at, drop_at, get_or-append-add}
use Rattle.std.specs.Prelude.{IsUtf8, IsCharBoundary}
use Rattle.std.proofs.lemmas.Str.{IsCharBoundary-after_ascii, IsCharBoundary-before_ascii, IsCharBoundary-end, IsUtf8-take}
use Rattle.jsonptr_grammar.specs.Text.{Text, esc, unesc, text, tokens_of}
use Rattle.jsonptr_grammar.specs.Grammar.{IsToken}
use Rattle.jsonptr_grammar.proofs.EscapeLemmas.{unesc-esc, IsToken-esc}
use Rattle.jsonptr_grammar.proofs.PointerLemmas.{text-append}
use Rattle.jsonptr_syntax.specs.Parts.{HasTokenAt}

module _ (s : Text) (start end : ℕ) (valid : text (tokens_of s) ≡ s) (there : (t : Text) × HasTokenAt (tokens_of s) start t × (end ≡ start + (1 + length (esc t)))) where
  abbrev t : Text
  t = there.0

  abbrev front : List Text
  front = there.1.0

  abbrev rest : List Text
  rest = there.1.1

  abbrev up_to : Text
  up_to = text front ++ 47 ∷ esc t

  whole : s ≡ up_to ++ text rest
  whole = sym valid ∙ ap text there.1.2 ∙ text-append front (t ∷ rest) ∙ sym (append_assoc (text front) (47 ∷ esc t) (text rest))

  up_to_len : length up_to ≡ end
  up_to_len = omega (arith, length-append (text front) (47 ∷ esc t), there.1.3, there.2)

  ends_at : (more : List Text) → s ≡ up_to ++ text more → IsCharBoundary s end
  ends_at [] e =
      let last : length s ≡ end = ap length (e ∙ append-nil up_to) ∙ up_to_len in
      subst (IsCharBoundary s) last (IsCharBoundary-end s)
  ends_at (u ∷ us) e =
      let slash : get_or s end 0 ≡ 47 = ap (λ (l : Text). get_or l end 0) e ∙ ap (λ (n : ℕ). get_or (up_to ++ text (u ∷ us)) n 0) (sym up_to_len ∙ sym (add-zero (length up_to))) ∙ get_or-append-add up_to (text (u ∷ us)) 0 0 in
      IsCharBoundary-before_ascii s end (omega (arith, ap length e, length-append up_to (text (u ∷ us)), up_to_len)) (omega (arith, slash))

  -- the text may be cut after the token
  pub end_boundary : IsCharBoundary s end
  end_boundary = ends_at rest whole

  module _ (part : Text) (cut : part ≡ take end s) where
    part_is : part ≡ up_to
    part_is = cut ∙ ap (take end) whole ∙ take_at up_to (text rest) end up_to_len

    slash_at : get_or part start 0 ≡ 47
    slash_at = ap (λ (l : Text). get_or l start 0) part_is ∙ ap (λ (n : ℕ). get_or up_to n 0) (sym there.1.3 ∙ sym (add-zero (length (text front)))) ∙ get_or-append-add (text front) (47 ∷ esc t) 0 0

    -- and before it after its slash
    pub start_boundary : IsUtf8 s → IsCharBoundary part (start + 1)
    start_boundary u =
        let whole_part : IsUtf8 part = subst IsUtf8 (sym cut) (IsUtf8-take s end u end_boundary) in
        IsCharBoundary-after_ascii part start whole_part (omega (arith, ap length part_is, up_to_len, there.2)) (omega (arith, slash_at))

    module _ (token : Text) (behind : token ≡ drop (start + 1) part) where
      encoded : token ≡ esc t
      encoded =
          behind ∙ ap (drop (start + 1)) (part_is ∙ sym (append_assoc (text front) (47 ∷ []) (esc t)))
          ∙ drop_at (text front ++ 47 ∷ []) (esc t) (start + 1) (omega (arith, length-append (text front) (47 ∷ []), there.1.3))

      pub between_token : IsToken token
      between_token = subst IsToken (sym encoded) (IsToken-esc t)

      pub between_stands : (u : Text) → esc u ≡ token → HasTokenAt (tokens_of s) start u
      between_stands u e =
          let same : t ≡ u = sym (unesc-esc t) ∙ ap unesc (sym (e ∙ encoded)) ∙ unesc-esc u in
          subst (HasTokenAt (tokens_of s) start) same there.1
