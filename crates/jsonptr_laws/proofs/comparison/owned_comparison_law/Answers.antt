use Rattle.std.proofs.Common.{refl}
use Rattle.jsonptr_grammar.proofs.OrderLemmas.{equal_text, text_less, ties}
use Rattle.jsonptr_laws.proofs.comparison.owned_comparison_law.Goals as goal

pub returns-clause-equal : goal.returns-clause-equal
returns-clause-equal c = λ ts us. equal_text ts us _ refl

pub returns-clause-front : goal.returns-clause-front
returns-clause-front c = text_less

pub returns-clause-tie : goal.returns-clause-tie
returns-clause-tie c = ties
