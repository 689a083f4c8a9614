use Rattle.serde_json.specs.View.{view}
use Rattle.jsonptr_patch_diff.proofs.difference.change.Goals as goal

pub unreachable-requires : goal.unreachable-requires
unreachable-requires c = c.difference_law.ensures.never_refused (view c.args.document.now) (view c.args.new.now) c.in_ok-patch.patch.items c.in-Err-Refused._error c.in_ok-patch.ensures.applied (rw c.in-Err-Refused.field-0-is at c.in-Err-Refused.ensures.refused)
