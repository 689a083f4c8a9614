use Rattle.toml.specs.declared.value.Value.{Array, Table}
use Rattle.jsonptr_tree.proofs.TomlLemmas.{nodes_one, content_of, array_is, object_is}
use Rattle.jsonptr_tree.proofs.ContentOrderLemmas.{array_ascends, object_ascends}
use Rattle.jsonptr_tree.proofs.toml_value.toml_map_law.Goals as goal

pub returns-clause-one_value : goal.returns-clause-one_value
returns-clause-one_value c = nodes_one

pub returns-clause-array : goal.returns-clause-array
returns-clause-array c = array_ascends content_of Array array_is

pub returns-clause-table : goal.returns-clause-table
returns-clause-table c = object_ascends content_of Table object_is
