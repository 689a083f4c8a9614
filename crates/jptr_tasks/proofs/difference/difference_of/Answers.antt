use Rattle.std.proofs.lemmas.Result.{err_from_is_err_and}
use Rattle.serde_json.specs.View.{view}
use Rattle.jptr_tasks.proofs.DifferenceLemmas.{patch_fault}
use Rattle.jptr_tasks.proofs.difference.difference_of.Goals as goal

pub returns-in_err-text-clause-refused : goal.returns-in_err-text-clause-refused
returns-in_err-text-clause-refused c =
    let p = err_from_is_err_and c.from_residual-in_err-text.result c.from_residual-in_err-text.ensures.1 in
    rw (p.1, p.2) (patch_fault (view c.args.new.now) c.in_ok-patch.patch.items _ c.in_ok-patch.ensures.shallow c.in_err-text.ensures.refused)
