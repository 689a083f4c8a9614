use Rattle.std.proofs.Common.{refl}
use Rattle.serde_json.specs.declared.value.Value.{Array}
use Rattle.jsonptr_patch_journal.specs.Location.{path_of}
use Rattle.jsonptr_patch_journal.proofs.NodeLemmas.{array_written, array_found}
use Rattle.jsonptr_patch_journal.proofs.node_mut.array_mut.Goals as goal

pub returns-in-Ok : goal.returns-in-Ok
returns-in-Ok g c =
    let p = path_of c.args.location.now in let d = g.D.NodeMut.contents c.args.document.now in (
      (refl, (λ part some. array_written p d _ part ((rw c.in-Ok.is at (c.node_mut.follows.holds (Array part))) refl)), tt),
      record { writes_back = tt; value = array_found p d c.in-Ok.node.now c.as_array_mut.result c.in-Ok.ensures.value.0 c.as_array_mut.ensures.value },
    )
