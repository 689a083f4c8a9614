use Rattle.std.proofs.Common.{List, ℕ, [], false, refl, inl, sym, ap, subst, ◌∙◌}
use Rattle.jsonptr_comments.specs.Comments.{Pieces, all_without}
use Rattle.jsonptr_comments.proofs.FirstLemmas.{unique}
use Rattle.jsonptr_comments.proofs.TwiceLemmas.{cleaned, cleaned_pieces, all_cleaned}
use Rattle.jsonptr_comments.proofs.laws.twice_law.Goals as goal

pub returns : goal.returns
returns c = λ text new newer h k.
    let ps = cleaned false h.0 false in
    let pieces = subst (λ (t : List ℕ). Pieces t ps []) (sym h.2) (cleaned_pieces false h.0 text false h.1) in
    let same = (unique new k.0 ps [] [] k.1 pieces (inl refl) (inl refl)).0 in
    k.2 ∙ ap (λ qs. all_without false qs false) same ∙ all_cleaned h.0 false false ∙ sym h.2
