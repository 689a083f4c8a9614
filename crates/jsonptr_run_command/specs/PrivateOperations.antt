-- Reading the operations of a patch from words. Used only by private contracts; no public contract depends on this
-- file.
use Rattle.std.specs.Prelude.{◌≡◌, ◌⊎◌, List, [], ◌∷◌, ◌++◌, Option, Some, None, option_map, if◌then◌else◌, codes, All, Contains, alloc_error}
use Rattle.std.specs.Str.{bytes_eq}
use Rattle.jsonptr.specs.Text.{Text}
use Rattle.jsonptr.specs.Grammar.{IsPointer}
use Rattle.jsonptr.specs.ParseError.{IsParseErrorOf}
use Rattle.jsonptr.specs.Types.ParseError.{ParseError}
use Rattle.jsonptr_run_command.specs.JsonText.{json_of}
use Rattle.jsonptr_run_command.specs.Operations.{OperationWords, add, remove, replace, move, copy, test, words_of, pointers_of, values_of}
use Rattle.jsonptr_run_command.specs.declared.fault.RunFault.{RunFault}
use Rattle.jsonptr_run_command.specs.declared.fault.RunFault.TheVariants.{Usage, BadPointer, ValueNotJson, Memory}
use Rattle.jsonptr_run_command.specs.declared.operations.OperationWords as code
use Rattle.jsonptr_run_command.specs.declared.operations.OperationWords.TheVariants.{Add, Remove, Replace, Move, Copy, Test}

-- `texts_of words`: the words of an operation as texts
abbrev pub texts_of : code.OperationWords → OperationWords
texts_of (Add pointer value) = add pointer.now value.now
texts_of (Remove pointer) = remove pointer.now
texts_of (Replace pointer value) = replace pointer.now value.now
texts_of (Move from pointer) = move from.now pointer.now
texts_of (Copy from pointer) = copy from.now pointer.now
texts_of (Test pointer value) = test pointer.now value.now

-- `with_two name first second`: the operation with this name and two arguments, if there is one
abbrev pub with_two : Text → Text → Text → Option OperationWords
with_two name first second =
    if bytes_eq name (codes "add")
    then Some (add first second)
    else if bytes_eq name (codes "replace")
    then Some (replace first second)
    else if bytes_eq name (codes "move")
    then Some (move first second)
    else if bytes_eq name (codes "copy")
    then Some (copy first second)
    else if bytes_eq name (codes "test")
    then Some (test first second)
    else None

-- `cut_two name first rest`: the operation with this name and two arguments, of which the second is the first word of
-- `rest`, and the words after it
abbrev pub cut_two : Text → Text → List Text → Option (OperationWords × List Text)
cut_two name first [] = None
cut_two name first (second ∷ rest) = option_map (λ operation. (operation, rest)) (with_two name first second)

-- `cut_of words`: the first operation of the words, and the words after it
abbrev pub cut_of : List Text → Option (OperationWords × List Text)
cut_of [] = None
cut_of (name ∷ []) = None
cut_of (name ∷ first ∷ rest) =
    if bytes_eq name (codes "remove") then Some (remove first, rest) else cut_two name first rest

-- `IsFirstFault pointers e`: `e` is the error of the first of the `pointers` that is not valid
abbrev pub IsFirstFault : List Text → ParseError → Type 0
IsFirstFault pointers e =
    (before : List Text) × (pointer : Text) × (after : List Text)
    × (pointers ≡ before ++ (pointer ∷ after))
    × All IsPointer before
    × IsParseErrorOf pointer e

-- `RefusesOneOf values e`: one of the `values` is not a JSON text, and `e` reports that
abbrev pub RefusesOneOf : List Text → RunFault → Type 0
RefusesOneOf values e =
    (value : Text) × Contains values value × (json_of value ≡ None) × (e ≡ ValueNotJson)

-- `RefusesWords words e`: the words are not operations, and `e` reports that
abbrev pub RefusesWords : List Text → RunFault → Type 0
RefusesWords words e = ((operations : List OperationWords) → words ≡ words_of operations → ⊥) × (e ≡ Usage)

-- `RefusesOperations words e`: the words fail with `e`. They are not operations, or one of their pointers is not
-- valid, or all are and one of their values is not JSON, or an allocation failed
abbrev pub RefusesOperations : List Text → RunFault → Type 0
RefusesOperations words e =
    RefusesWords words e
    ⊎ ((operations : List OperationWords) × (f : ParseError)
    × (words ≡ words_of operations)
    × IsFirstFault (pointers_of operations) f
    × (e ≡ BadPointer f))
    ⊎ ((operations : List OperationWords)
    × (words ≡ words_of operations)
    × All IsPointer (pointers_of operations)
    × RefusesOneOf (values_of operations) e)
    ⊎ (e ≡ Memory alloc_error)
