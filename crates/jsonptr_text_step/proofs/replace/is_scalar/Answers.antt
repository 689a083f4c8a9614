use Rattle.std.proofs.Common.{ap, ◌∙◌}
use Rattle.jsonptr_tree.proofs.JsonLemmas.{content_of, null_is, bool_is, number_is, string_is}
use Rattle.jsonptr_text_step.proofs.EditLemmas.{scalar_label}
use Rattle.jsonptr_text_step.proofs.replace.is_scalar.Goals as goal

pub returns-in-Null : goal.returns-in-Null
returns-in-Null c = λ _. scalar_label _ _ (ap content_of c.in-Null.is ∙ null_is)

pub returns-in-Bool : goal.returns-in-Bool
returns-in-Bool c = λ _. scalar_label _ _ (ap content_of c.in-Bool.is ∙ bool_is _)

pub returns-in-Number : goal.returns-in-Number
returns-in-Number c = λ _. scalar_label _ _ (ap content_of c.in-Number.is ∙ number_is _)

pub returns-in-String : goal.returns-in-String
returns-in-String c = λ _. scalar_label _ _ (ap content_of c.in-String.is ∙ string_is _)
