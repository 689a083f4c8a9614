use Rattle.serde_json.specs.declared.value.Value.{Array, Object}
use Rattle.jsonptr_tree.proofs.JsonLemmas.{nodes_one, content_of, array_is, object_is}
use Rattle.jsonptr_tree.proofs.ContentOrderLemmas.{array_ascends, object_ascends}
use Rattle.jsonptr_tree.proofs.json.json_map_law.Goals as goal

pub returns-clause-one_value : goal.returns-clause-one_value
returns-clause-one_value c = nodes_one

pub returns-clause-array : goal.returns-clause-array
returns-clause-array c = array_ascends content_of Array array_is

pub returns-clause-object : goal.returns-clause-object
returns-clause-object c = object_ascends content_of Object object_is
