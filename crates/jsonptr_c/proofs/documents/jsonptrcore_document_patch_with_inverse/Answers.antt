use Rattle.std.proofs.Common.{◌⊎◌, length, subst}
use Rattle.jsonptr_c_calls.specs.Patches.{IsNotAppliedWithInverse, IsNotPatchText}
use Rattle.jsonptr_text_resolve.specs.declared.format.Format.{Format}
use Rattle.jsonptr_c.proofs.documents.jsonptrcore_document_patch_with_inverse.Goals as goal

pub returns-in-Err-clause-refused : goal.returns-in-Err-clause-refused
returns-in-Err-clause-refused c = λ failed. (
  c.in-Err.call_error,
  c.fail_with_length.ensures.reported,
  subst (λ (l : Format). IsNotPatchText c.args.text.now c.in-Err.call_error ⊎ IsNotAppliedWithInverse l c.args.text.now c.args.document.now (length c.args.out.now) c.in-Err.call_error) c.format_for.ensures c.in-Err.ensures.refused,
)
