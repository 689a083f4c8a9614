use Rattle.jptr_tasks.proofs.OrderLemmas.{not_utf8, not_utf8_document}
use Rattle.jptr_tasks.proofs.laws.order_law.Goals as goal

pub returns-clause-bytes : goal.returns-clause-bytes
returns-clause-bytes c = not_utf8_document

pub returns-clause-line : goal.returns-clause-line
returns-clause-line c = not_utf8

pub returns-clause-patch : goal.returns-clause-patch
returns-clause-patch c = λ text patch layout e no h. c.patch_document_law.ensures.not_both patch h.0.0 e h.0.1 no
