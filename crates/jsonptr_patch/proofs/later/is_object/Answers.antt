use Rattle.serde_json.specs.View.{view}
use Rattle.jsonptr.specs.Json.{nodes}
use Rattle.jsonptr.specs.Pointer.{tokens}
use Rattle.jsonptr_patch.proofs.LaterLemmas.{root_object}
use Rattle.jsonptr_patch.proofs.later.is_object.Goals as goal

pub returns-then-is_root : goal.returns-then-is_root
returns-then-is_root c = λ t. root_object (nodes (view c.args.document.now)) (tokens c.args.pointer) (c.is_root.ensures.0 c.if-is_root.true) (c.is_map.ensures t)
