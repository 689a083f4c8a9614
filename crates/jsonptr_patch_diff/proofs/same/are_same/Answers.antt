use Rattle.serde_json.specs.View.{view}
use Rattle.jsonptr.specs.Json.{nodes}
use Rattle.jsonptr_patch_diff.proofs.SameLemmas.{twin_same, twin_made}
use Rattle.jsonptr_patch_diff.proofs.same.are_same.Goals as goal

pub returns : goal.returns
returns c =
    let n = nodes (view c.args.left.now) in
    let m = nodes (view c.args.right.now) in
    (λ yes. twin_same n m (c.is_same.ensures.0 yes), λ same. c.is_same.ensures.1 (twin_made n m same))
