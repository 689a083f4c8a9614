-- The document of a patch.
use Rattle.std.specs.Prelude.{List, map, codes, ⊤}
use Rattle.serde_json.specs.Data.{Data, string, array, object, no_members, member}
use Rattle.serde_json.specs.View.{view, items_of}
use Rattle.jsonptr.specs.Json.{HasSortedKeys}
use Rattle.jsonptr.specs.Text.{Text, text}
use Rattle.jsonptr_patch.specs.declared.operation.Operation.{Operation}
use Rattle.jsonptr_patch.specs.declared.operation.Operation.TheVariants.{Add, Remove, Replace, Move, Copy, Test}

-- `object_with_value op path v`: the object with the members `op`, `path` and `value`
abbrev pub object_with_value : Text → List Text → Data → Data
object_with_value op path v =
    object (member (codes "op") (string op)
    (member (codes "path") (string (text path))
    (member (codes "value") v no_members)))

-- `object_with_from op from path`: the object with the members `from`, `op` and `path`
abbrev pub object_with_from : Text → List Text → List Text → Data
object_with_from op from path =
    object (member (codes "from") (string (text from))
    (member (codes "op") (string op)
    (member (codes "path") (string (text path)) no_members)))

-- `written_object o`: the object that is written for the operation `o`, with its keys in ascending order
abbrev pub written_object : Operation → Data
written_object (Add path value) = object_with_value (codes "add") path (view value)
written_object (Remove path) =
    object (member (codes "op") (string (codes "remove"))
    (member (codes "path") (string (text path)) no_members))
written_object (Replace path value) = object_with_value (codes "replace") path (view value)
written_object (Move from path) = object_with_from (codes "move") from path
written_object (Copy from path) = object_with_from (codes "copy") from path
written_object (Test path value) = object_with_value (codes "test") path (view value)

-- `document_of os`: the document that is written for the operations `os`
abbrev pub document_of : List Operation → Data
document_of os = array (items_of (map written_object os))

-- `ValueHasSortedKeys o`: the keys of each object in the value of `o` are in ascending order
abbrev pub ValueHasSortedKeys : Operation → Type 0
ValueHasSortedKeys (Add path value) = HasSortedKeys (view value)
ValueHasSortedKeys (Remove path) = ⊤
ValueHasSortedKeys (Replace path value) = HasSortedKeys (view value)
ValueHasSortedKeys (Move from path) = ⊤
ValueHasSortedKeys (Copy from path) = ⊤
ValueHasSortedKeys (Test path value) = HasSortedKeys (view value)
