use Rattle.jsonptr_grammar.proofs.OrderLemmas.{front_text_less, pointers_tie}
use Rattle.jsonptr.specs.Pointer.{text_of}
use Rattle.jsonptr_laws.proofs.comparison.comparison_law.Goals as goal

pub returns-clause-front : goal.returns-clause-front
returns-clause-front c = λ p q t rest e. front_text_less (text_of p) (text_of q) t rest p.inner.valid q.inner.valid e

pub returns-clause-tie : goal.returns-clause-tie
returns-clause-tie c = λ p q. pointers_tie (text_of p) (text_of q) p.inner.valid q.inner.valid
