use Rattle.std.proofs.Common.{length, subst}
use Rattle.serde_json.specs.View.{view}
use Rattle.jsonptr_c_calls.specs.Failures.{FailsOnHandle}
use Rattle.jsonptr_c_calls.specs.Patches.{IsNotCompared}
use Rattle.jsonptr_text_resolve.specs.declared.format.Format.{Format}
use Rattle.jsonptr_c.proofs.documents.jsonptrcore_document_diff.Goals as goal

pub returns-in-Err-clause-refused : goal.returns-in-Err-clause-refused
returns-in-Err-clause-refused c = λ failed. (
  c.in-Err.call_error,
  c.fail_with_length.ensures.reported,
  subst (λ (l : Format). FailsOnHandle c.args.old.now (λ v. FailsOnHandle c.args.new.now (λ w. IsNotCompared l (view v) (view w) (length c.args.out.now) c.in-Err.call_error) c.in-Err.call_error) c.in-Err.call_error) c.format_for.ensures c.in-Err.ensures.refused,
)
