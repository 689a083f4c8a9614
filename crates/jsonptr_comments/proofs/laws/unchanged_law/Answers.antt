use Rattle.std.proofs.Common.{[], false, refl, inl, sym, ap, ◌∙◌}
use Rattle.jsonptr_comments.specs.Comments.{all_without}
use Rattle.jsonptr_comments.proofs.FirstLemmas.{unique}
use Rattle.jsonptr_comments.proofs.UnchangedLemmas.{kept, nothing}
use Rattle.jsonptr_comments.proofs.laws.unchanged_law.Goals as goal

pub returns : goal.returns
returns c = λ text new k. (
  λ e. (k.0, k.1, nothing false k.0 text k.1 (sym k.2 ∙ e)),
  λ p.
      let same = (unique text p.0 k.0 [] [] p.1 k.1 (inl refl) (inl refl)).0 in
      k.2 ∙ ap (λ qs. all_without false qs false) (sym same) ∙ kept false p.0 text p.1 p.2,
)
