-- What the program's enums stand for, and the faults and lines of single stages. Used only by private contracts; no
-- public contract depends on this file.
use Rattle.std.specs.Prelude.{◌≡◌, ◌⊎◌, ℕ, List, map, Result, Ok, Err, alloc_error, ⊤}
use Rattle.serde_json.specs.Data.{Data}
use Rattle.serde_json.specs.View.{view}
use Rattle.jsonptr.specs.Text.{Text}
use Rattle.jsonptr.specs.Pointer.{tokens}
use Rattle.jsonptr.specs.ParseError.{IsParseErrorOf}
use Rattle.jsonptr.specs.Types.ParseError.{ParseError}
use Rattle.jsonptr.specs.Index.{Reads}
use Rattle.jsonptr.specs.Types.Index.TheVariants.{Num}
use Rattle.jsonptr_run_command.specs.declared.fault.RunFault.{RunFault}
use Rattle.jsonptr.specs.declared.resolve.Error as resolve
use Rattle.jsonptr_run_command.specs.declared.fault.RunFault.TheVariants.{Usage, BadPointer, ValueNotJson, NoValue, BadPlace, NotThere, BadSplit, BadPatch, InputNotJson, Memory, Read, Write}
use Rattle.jsonptr_run_command.specs.declared.run.Request as code
use Rattle.jsonptr_run_command.specs.declared.run.Request.TheVariants.{Tokens, Split, Resolve, Change as of_change}
use Rattle.jsonptr_run_command.specs.declared.run.Change.{Change}
use Rattle.jsonptr_run_command.specs.declared.run.Change.TheVariants.{Assign, Delete, Patch}
use Rattle.jsonptr_run_command.specs.JsonText.{IsJsonLine}
use Rattle.jsonptr_run_command.specs.Faults.{RefusesValue}
use Rattle.jsonptr_run_command.specs.Operations.{data_of}
use Rattle.jsonptr_run_command.specs.Run.{Request, resolving, listing, assigning, deleting, splitting, patching, AssignsAt, DeletesAt, HaveValue, PatchesOrFails, TakePointer}

-- `asked_by change`: the request that the program's `change` is
abbrev pub asked_by : Change → Request
asked_by (Assign p v) = assigning (tokens p) (view v)
asked_by (Delete p) = deleting (tokens p)
asked_by (Patch patch) = patching (map data_of patch.items)

-- `Changes change d r`: `r` is the result of `change` on document `d`
abbrev pub Changes : Change → Data → Result Data RunFault → Type 0
Changes (Assign p v) d = AssignsAt d (tokens p) (view v)
Changes (Delete p) d = DeletesAt d (tokens p)
Changes (Patch patch) d = PatchesOrFails d (map data_of patch.items)

-- `request_of request`: the request that the program's `request` is
abbrev pub request_of : code.Request → Request
request_of (Tokens p) = listing (tokens p)
request_of (Split p n) = splitting (tokens p) n
request_of (Resolve p) = resolving (tokens p)
request_of (of_change change) = asked_by change

-- `IsLineOf P line`: `line` is the JSON line of a value that is a result `P`
abbrev pub IsLineOf : (Result Data RunFault → Type 0) → Text → Type 0
IsLineOf P line = (value : Data) × P (Ok value) × IsJsonLine value line

-- `IsFaultOf P e`: `e` is an error that is a result `P`, or a failed allocation
abbrev pub IsFaultOf : (Result Data RunFault → Type 0) → RunFault → Type 0
IsFaultOf P e = P (Err e) ⊎ (e ≡ Memory alloc_error)

-- `RefusesPosition text e`: `text` is not a position to split at, and `e` reports that
abbrev pub RefusesPosition : Text → RunFault → Type 0
RefusesPosition text e = ((n : ℕ) → Reads text (Ok (Num n)) → ⊥) × (e ≡ Usage)

-- `RefusesCommand words e`: the words of a command with one pointer fail with `e`. They are not those of such a
-- command, or the pointer is not valid, or the value to assign is not JSON, or an allocation for it failed
abbrev pub RefusesCommand : List Text → RunFault → Type 0
RefusesCommand words e =
    (((pointer : Text) → TakePointer words pointer → ⊥) × (e ≡ Usage))
    ⊎ ((pointer : Text) × (f : ParseError)
    × TakePointer words pointer
    × IsParseErrorOf pointer f
    × (e ≡ BadPointer f))
    ⊎ ((ts : List Text) × (value : Text) × HaveValue words ts value × RefusesValue value e)

-- `ComesBeforeDocument e`: a run fails with `e` only while it has no document: `e` is an error of the words or of the
-- input
abbrev pub ComesBeforeDocument : RunFault → Type 0
ComesBeforeDocument Usage = ⊤
ComesBeforeDocument (BadPointer e) = ⊤
ComesBeforeDocument ValueNotJson = ⊤
ComesBeforeDocument (BadSplit position count) = ⊤
ComesBeforeDocument (NoValue e) = ⊥
ComesBeforeDocument (BadPlace e) = ⊥
ComesBeforeDocument NotThere = ⊥
ComesBeforeDocument (BadPatch e) = ⊥
ComesBeforeDocument InputNotJson = ⊤
ComesBeforeDocument (Memory e) = ⊥
ComesBeforeDocument Read = ⊤
ComesBeforeDocument Write = ⊥

-- `IsNoValue e`: `e` is the error of a pointer that resolves to no value
abbrev pub IsNoValue : RunFault → Type 0
IsNoValue e = (f : resolve.Error) × (e ≡ NoValue f)
