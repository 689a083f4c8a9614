-- The comma beside a child.
use Rattle.std.proofs.Common.{◌≡◌, ◌⊎◌, inl, inr, ℕ, List, [], ◌∷◌, ◌++◌, true, sym, ap, ◌∙◌, subst, append_assoc}
use Rattle.std.specs.Prelude.{◌↔◌}
use Rattle.json.specs.Word.{is_space}
use Rattle.jsonptr_text_piece.specs.Spacing.{IsBlank, IsSpaced}
use Rattle.jsonptr_text_piece.proofs.PieceLaws.{blank_parts, blank_both, blank_more, no_blank, first_blank, rest_blank}
use Rattle.jsonptr_text_check.specs.Child.{HaveOneComma}

abbrev Bytes : Type 0
Bytes = List ℕ

one_beside : (lead trail : Bytes) → HaveOneComma lead trail → IsBlank (lead ++ trail) ⊎ IsSpaced 44 (lead ++ trail)
one_beside lead trail (inl x) = inl (blank_both lead trail x.0 x.1)
one_beside lead trail (inr (inl x)) = inr (
  x.0.0,
  x.0.1 ++ trail,
  x.0.2,
  blank_both x.0.1 trail x.0.3 x.1,
  ap (λ (t : Bytes). t ++ trail) x.0.4 ∙ append_assoc x.0.0 (44 ∷ x.0.1) trail,
)
one_beside lead trail (inr (inr x)) = inr (
  lead ++ x.1.0,
  x.1.1,
  blank_both lead x.1.0 x.0 x.1.2,
  x.1.3,
  ap (λ (t : Bytes). lead ++ t) x.1.4 ∙ sym (append_assoc lead x.1.0 (44 ∷ x.1.1)),
)

more_lead : (x : ℕ) (lead trail : Bytes) → is_space x ≡ true → HaveOneComma lead trail → HaveOneComma (x ∷ lead) trail
more_lead x lead trail b (inl h) = inl (blank_more x lead b h.0, h.1)
more_lead x lead trail b (inr (inl h)) = inr (inl ((x ∷ h.0.0, h.0.1, blank_more x h.0.0 b h.0.2, h.0.3, ap (λ (t : Bytes). x ∷ t) h.0.4), h.1))
more_lead x lead trail b (inr (inr h)) = inr (inr (blank_more x lead b h.0, h.1))

comma_there : (lead trail before after : Bytes) → lead ++ trail ≡ before ++ 44 ∷ after → IsBlank before → IsBlank after → HaveOneComma lead trail
comma_there [] trail before after e h k = inr (inr (no_blank, (before, after, h, k, e)))
comma_there (x ∷ lead) trail [] after e h k =
    let comma : x ≡ 44 = cc in
    let rest : lead ++ trail ≡ after = cc in
    let parts = blank_parts lead trail (subst IsBlank (sym rest) k) in
    inr (inl (([], lead, no_blank, parts.0, ap (λ (b : ℕ). b ∷ lead) comma), parts.1))
comma_there (x ∷ lead) trail (y ∷ before) after e h k =
    let same : x ≡ y = cc in
    let rest : lead ++ trail ≡ before ++ 44 ∷ after = cc in
    more_lead x lead trail (ap is_space same ∙ first_blank y before h) (comma_there lead trail before after rest (rest_blank y before h) k)

pub one_comma : (lead trail : Bytes) → HaveOneComma lead trail ↔ (IsBlank (lead ++ trail) ⊎ IsSpaced 44 (lead ++ trail))
one_comma lead trail = (one_beside lead trail, back)
  where
    back : IsBlank (lead ++ trail) ⊎ IsSpaced 44 (lead ++ trail) → HaveOneComma lead trail
    back (inl x) = inl (blank_parts lead trail x)
    back (inr x) = comma_there lead trail x.0 x.1 x.4 x.2 x.3
