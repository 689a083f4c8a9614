use Rattle.jsonptr.specs.Text.{text}
use Rattle.jsonptr.proofs.Calling.{IsPointer-text}
use Rattle.jsonptr_patch_document.proofs.ObjectLemmas.{one_operation, one_operation_error, operation_or_not}
use Rattle.jsonptr_patch_document.proofs.laws.operation_object_law.Goals as goal

pub returns-clause-one_operation : goal.returns-clause-one_operation
returns-clause-one_operation c = one_operation

pub returns-clause-one_error : goal.returns-clause-one_error
returns-clause-one_error c =
    one_operation_error (λ tokens cause h. c.parse_law.ensures.not_both (text tokens) cause (IsPointer-text tokens) h) c.parse_law.ensures.one

pub returns-clause-not_both : goal.returns-clause-not_both
returns-clause-not_both c =
    operation_or_not (λ tokens cause h. c.parse_law.ensures.not_both (text tokens) cause (IsPointer-text tokens) h) c.parse_law.ensures.one
