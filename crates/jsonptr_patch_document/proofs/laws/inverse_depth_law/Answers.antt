use Rattle.jsonptr_patch_document.proofs.DepthLemmas.{deep_node, alike_depth}
use Rattle.jsonptr_patch_document.proofs.laws.inverse_depth_law.Goals as goal

pub returns : goal.returns
returns c =
    let law = c.inverse_law.ensures in
    record {
      deep = λ by n os back k back_is sorted. deep_node by n os back k (law.values by n os back back_is) sorted;
      same = λ by n os back others k document back_is others_are sorted. alike_depth by n os back others k (law.same by n os back others document back_is others_are) (law.values by n os others others_are) sorted;
    }
