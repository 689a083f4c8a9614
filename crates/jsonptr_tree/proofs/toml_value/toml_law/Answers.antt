use Rattle.jsonptr_tree.specs.Content.{Content, map_of}
use Rattle.jsonptr_tree.specs.TomlValue.{content}
use Rattle.std.proofs.Common.{[], ap}
use Rattle.toml.specs.declared.value.Value.{Array, Table}
use Rattle.jsonptr_tree.proofs.ContentLemmas.{map_of-IsTree, map_of-finite, map_of-sub, content_at-append}
use Rattle.jsonptr_tree.proofs.LevelLemmas.{map_of-Array, content_at-Array, map_of-Object, content_at-Object}
use Rattle.jsonptr_tree.proofs.TomlLemmas.{FindsValue-Finds, FindsValue_one, content_one, value_at-value, content_of, array_is, object_is, string_is, integer_is, float_is, boolean_is, datetime_is}
use Rattle.jsonptr_tree.proofs.toml_value.toml_law.Goals as goal

pub returns-clause-tree : goal.returns-clause-tree
returns-clause-tree c = λ d. map_of-IsTree (content d)

pub returns-clause-finite : goal.returns-clause-finite
returns-clause-finite c = λ d. map_of-finite (content d)

pub returns-clause-below : goal.returns-clause-below
returns-clause-below c = λ w d. map_of-sub w (content d)

pub returns-clause-path : goal.returns-clause-path
returns-clause-path c = λ w v d. content_at-append w v (content d)

pub returns-clause-finds : goal.returns-clause-finds
returns-clause-finds c = FindsValue-Finds

pub returns-clause-one_value : goal.returns-clause-one_value
returns-clause-one_value c = FindsValue_one

pub returns-clause-content : goal.returns-clause-content
returns-clause-content c = content_one

pub returns-clause-value : goal.returns-clause-value
returns-clause-value c = value_at-value

pub returns-clause-array : goal.returns-clause-array
returns-clause-array c = map_of-Array content_of Array array_is

pub returns-clause-element : goal.returns-clause-element
returns-clause-element c = content_at-Array content_of Array array_is

pub returns-clause-table : goal.returns-clause-table
returns-clause-table c = map_of-Object content_of Table object_is

pub returns-clause-member : goal.returns-clause-member
returns-clause-member c = content_at-Object content_of Table object_is

pub returns-clause-string : goal.returns-clause-string
returns-clause-string c = λ x. ap (λ (d : Content). map_of d []) (string_is x)

pub returns-clause-integer : goal.returns-clause-integer
returns-clause-integer c = λ x. ap (λ (d : Content). map_of d []) (integer_is x)

pub returns-clause-float : goal.returns-clause-float
returns-clause-float c = λ x. ap (λ (d : Content). map_of d []) (float_is x)

pub returns-clause-boolean : goal.returns-clause-boolean
returns-clause-boolean c = λ x. ap (λ (d : Content). map_of d []) (boolean_is x)

pub returns-clause-datetime : goal.returns-clause-datetime
returns-clause-datetime c = λ x. ap (λ (d : Content). map_of d []) (datetime_is x)
