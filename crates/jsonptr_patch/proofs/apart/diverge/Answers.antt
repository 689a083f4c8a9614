use Rattle.jsonptr.specs.Json.{nodes}
use Rattle.jsonptr.specs.Pointer.{tokens}
use Rattle.serde_json.specs.View.{view}
use Rattle.jsonptr_patch.proofs.ApartnessLemmas.{exact_all, exact_false, fork_decides, no_fork}
use Rattle.jsonptr_patch.proofs.apart.diverge.Goals as goal

pub returns-in-Some : goal.returns-in-Some
returns-in-Some c = exact_all c.resolves_to_object.result _ _ (fork_decides (nodes (view c.args.document.now)) (tokens c.args.left) (tokens c.args.right) (tokens c.in-Some.common) c.in-Some.ensures) c.resolves_to_object.ensures

pub returns-in-None : goal.returns-in-None
returns-in-None c = exact_false _ (no_fork (nodes (view c.args.document.now)) (tokens c.args.left) (tokens c.args.right) c.in-None.ensures)
