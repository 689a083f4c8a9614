use Rattle.toml.specs.declared.value.Value.{Array, Table}
use Rattle.jsonptr_tree.proofs.TomlLemmas.{content_of, array_is, object_is}
use Rattle.jsonptr_tree.proofs.LevelLemmas.{map_of-set, map_of-push, map_of-remove, map_of-one_element, map_of-insert, map_of-remove_member, map_of-one_member}
use Rattle.jsonptr_tree.proofs.toml_value.toml_writing_law.Goals as goal

pub returns-clause-set : goal.returns-clause-set
returns-clause-set c = map_of-set content_of Array array_is

pub returns-clause-push : goal.returns-clause-push
returns-clause-push c = map_of-push content_of Array array_is

pub returns-clause-remove : goal.returns-clause-remove
returns-clause-remove c = map_of-remove content_of Array array_is

pub returns-clause-one_element : goal.returns-clause-one_element
returns-clause-one_element c = map_of-one_element content_of Array array_is

pub returns-clause-insert : goal.returns-clause-insert
returns-clause-insert c = map_of-insert content_of Table object_is

pub returns-clause-remove_member : goal.returns-clause-remove_member
returns-clause-remove_member c = map_of-remove_member content_of Table object_is

pub returns-clause-one_member : goal.returns-clause-one_member
returns-clause-one_member c = map_of-one_member content_of Table object_is
