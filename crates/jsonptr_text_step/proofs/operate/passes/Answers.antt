use Rattle.serde_json.specs.View.{view}
use Rattle.jsonptr.specs.Json.{nodes}
use Rattle.jsonptr.specs.Pointer.{tokens}
use Rattle.jsonptr_tree.proofs.JsonLemmas.{FindsValue-Finds}
use Rattle.jsonptr_text_step.proofs.operate.passes.Goals as goal

pub returns-in-Ok : goal.returns-in-Ok
returns-in-Ok c = λ yes.
    let f = c.in-Ok.ensures.found in
    (f.0, f.1, (nodes (view c.in-Ok.found), FindsValue-Finds f.0 (tokens c.args.pointer) (view c.in-Ok.found) f.2, c.is_equal.ensures.0 yes))
