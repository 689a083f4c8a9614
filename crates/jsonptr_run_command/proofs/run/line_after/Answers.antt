use Rattle.serde_json.specs.View.{view}
use Rattle.jsonptr_run_command.proofs.PatchFaultLemmas.{patch_fails}
use Rattle.jsonptr_run_command.proofs.run.line_after.Goals as goal

pub returns-in_err-apply-clause-refused : goal.returns-in_err-apply-clause-refused
returns-in_err-apply-clause-refused c = patch_fails (Unit {0}) (view c.args.document.now) c.args.patch.items c.from_residual.result c.in_err-apply.field-0.0 c.from_residual.ensures.1 c.in_err-apply.ensures.refused
