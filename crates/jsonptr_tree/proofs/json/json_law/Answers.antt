use Rattle.jsonptr_tree.specs.Content.{Content, map_of}
use Rattle.jsonptr_tree.specs.Json.{content}
use Rattle.std.proofs.Common.{[], ap}
use Rattle.serde_json.specs.declared.value.Value.{Array, Object}
use Rattle.jsonptr_tree.proofs.ContentLemmas.{map_of-IsTree, map_of-finite, map_of-sub, content_at-append}
use Rattle.jsonptr_tree.proofs.LevelLemmas.{map_of-Array, content_at-Array, map_of-Object, content_at-Object}
use Rattle.jsonptr_tree.proofs.JsonLemmas.{FindsValue-Finds, FindsValue_one, content_one, value_at-value, content_of, array_is, object_is, null_is, bool_is, number_is, string_is}
use Rattle.jsonptr_tree.proofs.json.json_law.Goals as goal

pub returns-clause-tree : goal.returns-clause-tree
returns-clause-tree c = λ d. map_of-IsTree (content d)

pub returns-clause-finite : goal.returns-clause-finite
returns-clause-finite c = λ d. map_of-finite (content d)

pub returns-clause-below : goal.returns-clause-below
returns-clause-below c = λ w d. map_of-sub w (content d)

pub returns-clause-path : goal.returns-clause-path
returns-clause-path c = λ w v d. content_at-append w v (content d)

pub returns-clause-finds : goal.returns-clause-finds
returns-clause-finds c = FindsValue-Finds

pub returns-clause-one_value : goal.returns-clause-one_value
returns-clause-one_value c = FindsValue_one

pub returns-clause-content : goal.returns-clause-content
returns-clause-content c = content_one

pub returns-clause-value : goal.returns-clause-value
returns-clause-value c = value_at-value

pub returns-clause-array : goal.returns-clause-array
returns-clause-array c = map_of-Array content_of Array array_is

pub returns-clause-element : goal.returns-clause-element
returns-clause-element c = content_at-Array content_of Array array_is

pub returns-clause-object : goal.returns-clause-object
returns-clause-object c = map_of-Object content_of Object object_is

pub returns-clause-member : goal.returns-clause-member
returns-clause-member c = content_at-Object content_of Object object_is

pub returns-clause-null : goal.returns-clause-null
returns-clause-null c = ap (λ (d : Content). map_of d []) null_is

pub returns-clause-boolean : goal.returns-clause-boolean
returns-clause-boolean c = λ x. ap (λ (d : Content). map_of d []) (bool_is x)

pub returns-clause-number : goal.returns-clause-number
returns-clause-number c = λ x. ap (λ (d : Content). map_of d []) (number_is x)

pub returns-clause-string : goal.returns-clause-string
returns-clause-string c = λ x. ap (λ (d : Content). map_of d []) (string_is x)
