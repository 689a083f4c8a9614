use Rattle.std.proofs.Common.{◌≡◌, sym, List, subst}
use Rattle.serde_json.specs.View.{view}
use Rattle.jsonptr.specs.Json.{nodes, content}
use Rattle.jsonptr.specs.Node.{NodeMap}
use Rattle.jsonptr_tree.proofs.ContentLemmas.{map_of-IsTree}
use Rattle.jsonptr_patch.specs.Inverse.{TakesAllBackBy}
use Rattle.jsonptr_patch.specs.Patching.{PatchesBy}
use Rattle.jsonptr_patch.specs.declared.operation.Operation.{Operation}
use Rattle.jsonptr_patch.proofs.InverseLemmas.{all_taken_back}
use Rattle.jsonptr_patch.proofs.inverse.record_with_inverse.Goals as goal

pub returns-in-Ok-clause-inverse : goal.returns-in-Ok-clause-inverse
returns-in-Ok-clause-inverse c =
    let made = c.in-Ok.ensures.applied in
    let old : NodeMap = nodes (view c.args.document.now) in
    let new : NodeMap = nodes (view c.unlink.new.document) in
    let here : made.0 ≡ new = c.unlink.ensures.same made.0 made.2 in
    all_taken_back c.args.first.comparison old new c.args.operations.items c.reverse.new.self.items (map_of-IsTree (content (view c.args.document.now)))
    (subst (λ (n : NodeMap). PatchesBy c.args.first.comparison old c.args.operations.items n) here made.1)
    (subst (λ (l : List Operation). TakesAllBackBy c.args.first.comparison old c.args.operations.items l) (sym c.reverse.ensures.items) made.3)
