use Rattle.std.proofs.Common.{◌∙◌, ap, sym, refl}
use Rattle.std.proofs.lemmas.Cmp.{tied_itself}
use Rattle.std.specs.Cmp.Lexicographic.{slice_cmp, nat_list_cmp_total, texts_ties}
use Rattle.std.specs.Ordering.{is_eq, nat_cmp}
use Rattle.jsonptr_grammar.specs.Text.{Text, esc}
use Rattle.jsonptr_base.proofs.TokenLemmas.{equal_esc, front_esc_less}
use Rattle.jsonptr_base.proofs.laws.token_order_law.Goals as goal

pub returns-clause-tie : goal.returns-clause-tie
returns-clause-tie c = λ s t. (
  λ tied. (equal_esc s t _ refl).0 (texts_ties (esc s) (esc t) ∙ ap is_eq tied),
  λ same. ap (λ (x : Text). slice_cmp nat_cmp (esc s) (esc x)) (sym same) ∙ tied_itself nat_list_cmp_total (esc s),
)

pub returns-clause-front : goal.returns-clause-front
returns-clause-front c = front_esc_less

pub returns-clause-equal : goal.returns-clause-equal
returns-clause-equal c = λ s t. equal_esc s t _ refl
