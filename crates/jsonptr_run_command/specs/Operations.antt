-- The operations of a patch (RFC 6902, section 4) as words of a command line, and as data.
use Rattle.std.specs.Prelude.{◌≡◌, List, [], ◌∷◌, flat_map, Some, codes, ⊤}
use Rattle.serde_json.specs.Data.{Data}
use Rattle.serde_json.specs.View.{view}
use Rattle.jsonptr.specs.Text.{Text, text}
use Rattle.jsonptr_patch.specs.declared.operation.Operation.{Operation}
use Rattle.jsonptr_patch.specs.declared.operation.Operation.TheVariants as operation
use Rattle.jsonptr_run_command.specs.JsonText.{json_of}

-- An operation as words: the texts of its pointers, and the JSON text of its value
pub data OperationWords : Type 0 where
  add : Text → Text → OperationWords
  remove : Text → OperationWords
  replace : Text → Text → OperationWords
  move : Text → Text → OperationWords
  copy : Text → Text → OperationWords
  test : Text → Text → OperationWords

-- `operation_words operation`: its words, which are its name and its arguments
abbrev pub operation_words : OperationWords → List Text
operation_words (add pointer value) = codes "add" ∷ pointer ∷ value ∷ []
operation_words (remove pointer) = codes "remove" ∷ pointer ∷ []
operation_words (replace pointer value) = codes "replace" ∷ pointer ∷ value ∷ []
operation_words (move from pointer) = codes "move" ∷ from ∷ pointer ∷ []
operation_words (copy from pointer) = codes "copy" ∷ from ∷ pointer ∷ []
operation_words (test pointer value) = codes "test" ∷ pointer ∷ value ∷ []

-- `operation_pointers operation`: the arguments that must be pointers
abbrev pub operation_pointers : OperationWords → List Text
operation_pointers (add pointer value) = pointer ∷ []
operation_pointers (remove pointer) = pointer ∷ []
operation_pointers (replace pointer value) = pointer ∷ []
operation_pointers (move from pointer) = from ∷ pointer ∷ []
operation_pointers (copy from pointer) = from ∷ pointer ∷ []
operation_pointers (test pointer value) = pointer ∷ []

-- `operation_values operation`: the arguments that must be JSON texts
abbrev pub operation_values : OperationWords → List Text
operation_values (add pointer value) = value ∷ []
operation_values (remove pointer) = []
operation_values (replace pointer value) = value ∷ []
operation_values (move from pointer) = []
operation_values (copy from pointer) = []
operation_values (test pointer value) = value ∷ []

-- `words_of operations`: the words of a list of operations
abbrev pub words_of : List OperationWords → List Text
words_of operations = flat_map operation_words operations

-- `pointers_of operations`: the pointers among them
abbrev pub pointers_of : List OperationWords → List Text
pointers_of operations = flat_map operation_pointers operations

-- `values_of operations`: the values among them
abbrev pub values_of : List OperationWords → List Text
values_of operations = flat_map operation_values operations

-- An operation as data: the tokens of its pointers, and its value
pub data OperationData : Type 0 where
  adding : List Text → Data → OperationData
  removing : List Text → OperationData
  replacing : List Text → Data → OperationData
  moving : List Text → List Text → OperationData
  copying : List Text → List Text → OperationData
  testing : List Text → Data → OperationData

-- `data_of o`: the operation `o` of `jsonptr_patch` as data
abbrev pub data_of : Operation → OperationData
data_of (operation.Add path value) = adding path (view value)
data_of (operation.Remove path) = removing path
data_of (operation.Replace path value) = replacing path (view value)
data_of (operation.Move from path) = moving from path
data_of (operation.Copy from path) = copying from path
data_of (operation.Test path value) = testing path (view value)

-- `IsOperationOf words o`: `o` is the operation with these words
abbrev pub IsOperationOf : OperationWords → OperationData → Type 0
IsOperationOf words (adding ts v) = (value : Text) × (words ≡ add (text ts) value) × (json_of value ≡ Some v)
IsOperationOf words (removing ts) = words ≡ remove (text ts)
IsOperationOf words (replacing ts v) =
    (value : Text) × (words ≡ replace (text ts) value) × (json_of value ≡ Some v)
IsOperationOf words (moving from ts) = words ≡ move (text from) (text ts)
IsOperationOf words (copying from ts) = words ≡ copy (text from) (text ts)
IsOperationOf words (testing ts v) = (value : Text) × (words ≡ test (text ts) value) × (json_of value ≡ Some v)

-- `AreOperationsOf operations os`: each of `os` is the operation with the words at the same position in `operations`
abbrev pub AreOperationsOf : List OperationWords → List OperationData → Type 0
AreOperationsOf [] [] = ⊤
AreOperationsOf [] (o ∷ os) = ⊥
AreOperationsOf (words ∷ operations) [] = ⊥
AreOperationsOf (words ∷ operations) (o ∷ os) = IsOperationOf words o × AreOperationsOf operations os
