-- The output of the program for its words and its input, and its error. A run has stages, in this order: the words,
-- the pointers, the values, the input, the operation, the line. Each stage passes its result on, or the run fails.
use Rattle.std.specs.Prelude.{◌≡◌, ◌≢◌, ◌⊎◌, ℕ, ◌<◌, List, [], ◌∷◌, ◌++◌, length, map, Option, Some, None, Result, Ok, Err, MatchOption, All, Contains, codes, alloc_error, ⊤}
use Rattle.serde_json.specs.Data.{Data, null, string, array}
use Rattle.serde_json.specs.View.{items_of}
use Rattle.jsonptr.specs.Text.{Text, text}
use Rattle.jsonptr.specs.Grammar.{IsPointer}
use Rattle.jsonptr.specs.Node.{Path, NodeMap, Names}
use Rattle.jsonptr.specs.Assigning.{Assigns}
use Rattle.jsonptr.specs.Removing.{Deletes}
use Rattle.jsonptr.specs.Json.{nodes, FindsValue, HasSortedKeys}
use Rattle.jsonptr.specs.Index.{Reads}
use Rattle.jsonptr.specs.ParseError.{IsParseErrorOf}
use Rattle.jsonptr.specs.Types.Index.TheVariants.{Num}
use Rattle.jsonptr.specs.Types.ParseError.{ParseError}
use Rattle.jsonptr.specs.Resolve.{Refuses}
use Rattle.jsonptr.specs.Assign.{RefusesAssign}
use Rattle.jsonptr.specs.Delete.{NamesNothing}
use Rattle.jsonptr.specs.declared.resolve.Error as resolve
use Rattle.jsonptr.specs.declared.assign.Error as assign
use Rattle.jsonptr_patch.specs.Order.{OperationHasSortedKeys}
use Rattle.jsonptr_patch.specs.Patching.{Patches, RefusesPatch}
use Rattle.jsonptr_patch.specs.declared.operation.Operation.{Operation}
use Rattle.jsonptr_patch.specs.declared.operation.PatchError.{PatchError}
use Rattle.jsonptr_run_command.specs.declared.fault.RunFault.{RunFault}
use Rattle.jsonptr_run_command.specs.declared.fault.RunFault.TheVariants.{Usage, BadPointer, ValueNotJson, NoValue, BadPlace, NotThere, BadSplit, BadPatch, InputNotJson, Memory, Read, Write}
use Rattle.jsonptr_io.specs.Streams.{ForInput}
use Rattle.jsonptr_run_command.specs.JsonText.{json_of, IsJsonLine}
use Rattle.jsonptr_run_command.specs.Operations.{OperationWords, words_of, pointers_of, values_of, OperationData, data_of, AreOperationsOf}

-- `status_of e`: the exit status of the program after the error `e`
abbrev pub status_of : RunFault → ℕ
status_of (BadPointer e) = 1
status_of (NoValue e) = 1
status_of (BadPlace e) = 1
status_of NotThere = 1
status_of (BadSplit position count) = 1
status_of (BadPatch e) = 1
status_of Usage = 2
status_of ValueNotJson = 3
status_of InputNotJson = 3
status_of (Memory e) = 4
status_of Read = 5
status_of Write = 5

-- ---- the words, the pointers and the values

-- What the words can ask for, in the order of the constructors:
--
-- - the value that these tokens resolve to;
-- - the list of these tokens;
-- - the document with this value assigned at these tokens;
-- - the document without the value at these tokens;
-- - these tokens in two parts, split at this position;
-- - the document after a patch of these operations
pub data Request : Type 0 where
  resolving : List Text → Request
  listing : List Text → Request
  assigning : List Text → Data → Request
  deleting : List Text → Request
  splitting : List Text → ℕ → Request
  patching : List OperationData → Request

-- `HaveValue words ts value`: the words ask to assign the value with the text `value` at the tokens `ts`
abbrev pub HaveValue : List Text → List Text → Text → Type 0
HaveValue words ts value = words ≡ codes "assign" ∷ text ts ∷ value ∷ []

-- `HavePosition words pointer n`: the words ask to split the pointer with the text `pointer` at position `n`, in
-- decimal
abbrev pub HavePosition : List Text → Text → ℕ → Type 0
HavePosition words pointer n =
    (position : Text)
    × (words ≡ codes "split" ∷ pointer ∷ position ∷ [])
    × Reads position (Ok (Num n))

-- `HaveOperations words operations`: the words ask to apply a patch of the `operations`
abbrev pub HaveOperations : List Text → List OperationWords → Type 0
HaveOperations words operations = words ≡ codes "patch" ∷ words_of operations

-- `AskFor words request`: the words ask for `request`. They are a command, the text of the tokens, and the JSON text
-- of a value or a position; or they are the operations of a patch
abbrev pub AskFor : List Text → Request → Type 0
AskFor words (resolving ts) = words ≡ codes "resolve" ∷ text ts ∷ []
AskFor words (listing ts) = words ≡ codes "tokens" ∷ text ts ∷ []
AskFor words (assigning ts v) = (value : Text) × HaveValue words ts value × (json_of value ≡ Some v)
AskFor words (deleting ts) = words ≡ codes "delete" ∷ text ts ∷ []
AskFor words (splitting ts n) = HavePosition words (text ts) n
AskFor words (patching os) = (operations : List OperationWords) × HaveOperations words operations × AreOperationsOf operations os

-- `TakePointer words pointer`: the words are a known command with one pointer, whose text is `pointer`, and its other
-- arguments. A position among these is a number
abbrev pub TakePointer : List Text → Text → Type 0
TakePointer words pointer =
    (words ≡ codes "resolve" ∷ pointer ∷ [])
    ⊎ (words ≡ codes "tokens" ∷ pointer ∷ [])
    ⊎ ((value : Text) × (words ≡ codes "assign" ∷ pointer ∷ value ∷ []))
    ⊎ (words ≡ codes "delete" ∷ pointer ∷ [])
    ⊎ ((n : ℕ) × HavePosition words pointer n)

-- `TakePointers words pointers`: the words are a known command, and `pointers` are the texts of its pointers, from
-- left to right
abbrev pub TakePointers : List Text → List Text → Type 0
TakePointers words pointers =
    ((pointer : Text) × TakePointer words pointer × (pointers ≡ pointer ∷ []))
    ⊎ ((operations : List OperationWords) × HaveOperations words operations × (pointers ≡ pointers_of operations))

-- `IsWordsFault words e`: the words are not those of a known command, and `e` reports that
abbrev pub IsWordsFault : List Text → RunFault → Type 0
IsWordsFault words e = ((pointers : List Text) → TakePointers words pointers → ⊥) × (e ≡ Usage)

-- `IsPointerFault words e`: one of their pointers is not valid, and `e` is the error of the first such pointer
abbrev pub IsPointerFault : List Text → RunFault → Type 0
IsPointerFault words e =
    (before : List Text) × (pointer : Text) × (after : List Text) × (f : ParseError)
    × TakePointers words (before ++ (pointer ∷ after))
    × All IsPointer before
    × IsParseErrorOf pointer f
    × (e ≡ BadPointer f)

-- `HaveValues words values`: the pointers of the words are valid, and `values` are the texts of their values
abbrev pub HaveValues : List Text → List Text → Type 0
HaveValues words values =
    ((ts : List Text) × (value : Text) × HaveValue words ts value × (values ≡ value ∷ []))
    ⊎ ((operations : List OperationWords)
    × HaveOperations words operations
    × All IsPointer (pointers_of operations)
    × (values ≡ values_of operations))

-- `IsValueFault words e`: one of their values is not JSON, and `e` reports that
abbrev pub IsValueFault : List Text → RunFault → Type 0
IsValueFault words e =
    (values : List Text) × (value : Text)
    × HaveValues words values
    × Contains values value
    × (json_of value ≡ None)
    × (e ≡ ValueNotJson)

-- `Asks words r`: the words ask for the request in `r`, or fail with the error in `r`. The input does not matter
abbrev pub Asks : List Text → Result Request RunFault → Type 0
Asks words (Ok request) = AskFor words request
Asks words (Err e) = IsWordsFault words e ⊎ IsPointerFault words e ⊎ IsValueFault words e

-- `IsWordsMemory words e`: `e` is a failed allocation for the value to assign or for a patch, before the request is
-- known
abbrev pub IsWordsMemory : List Text → RunFault → Type 0
IsWordsMemory words e =
    (((ts : List Text) × (value : Text) × HaveValue words ts value)
    ⊎ ((rest : List Text) × (words ≡ codes "patch" ∷ rest)))
    × (e ≡ Memory alloc_error)

-- `ForRequest words P`: the words ask for a request with the property `P`
abbrev pub ForRequest : List Text → (Request → Type 0) → Type 0
ForRequest words P = (request : Request) × AskFor words request × P request

-- ---- the input

-- `NeedsInput request`: the request needs the input
abbrev pub NeedsInput : Request → Type 0
NeedsInput (resolving ts) = ⊤
NeedsInput (listing ts) = ⊥
NeedsInput (assigning ts v) = ⊤
NeedsInput (deleting ts) = ⊤
NeedsInput (splitting ts n) = ⊥
NeedsInput (patching os) = ⊤

-- `NeedNoInput words`: no request that the words ask for needs the input
abbrev pub NeedNoInput : List Text → Type 0
NeedNoInput words = (request : Request) → AskFor words request → NeedsInput request → ⊥

-- `NeedInput words`: the words ask for a request that needs the input
abbrev pub NeedInput : List Text → Type 0
NeedInput words = ForRequest words NeedsInput

-- `ComesAfterInput e`: a run whose request needs the input fails with `e` only after it has read the input to its end:
-- `e` is an error of the operation or of a write, or the input is not JSON. A failed allocation can come at any stage
abbrev pub ComesAfterInput : RunFault → Type 0
ComesAfterInput Usage = ⊥
ComesAfterInput (BadPointer e) = ⊥
ComesAfterInput ValueNotJson = ⊥
ComesAfterInput (BadSplit position count) = ⊥
ComesAfterInput (NoValue e) = ⊤
ComesAfterInput (BadPlace e) = ⊤
ComesAfterInput NotThere = ⊤
ComesAfterInput (BadPatch e) = ⊤
ComesAfterInput InputNotJson = ⊤
ComesAfterInput (Memory e) = ⊥
ComesAfterInput Read = ⊥
ComesAfterInput Write = ⊤

-- `IsOperationFault e`: `e` is an error of the operation on the document
abbrev pub IsOperationFault : RunFault → Type 0
IsOperationFault e = ComesAfterInput e × (e ≢ InputNotJson) × (e ≢ Write)

-- `IsPastInput r`: the result `r` of a stage or of the run is no error, or one that comes after the input
abbrev pub IsPastInput : {T : Type 0} → Result T RunFault → Type 0
IsPastInput (Ok v) = ⊤
IsPastInput (Err e) = ComesAfterInput e

-- `OnDocument bytes r P`: `r` is the error that the bytes are not JSON, or `P` holds of their document
abbrev pub OnDocument : List ℕ → Result Data RunFault → (Data → Type 0) → Type 0
OnDocument bytes r P = MatchOption (json_of bytes) (r ≡ Err InputNotJson) P

-- ---- the operation

-- `Resolves d ts r`: `r` is the value that `ts` resolve to in `d`, or why they do not
abbrev pub Resolves : Data → List Text → Result Data RunFault → Type 0
Resolves d ts (Ok value) = FindsValue d ts value
Resolves d ts (Err e) = (f : resolve.Error) × Refuses (nodes d) ts f × (e ≡ NoValue f)

-- `AssignsAt d ts v r`: `r` is the document `d` with `v` assigned at `ts`, or why that fails. Keys stay sorted
abbrev pub AssignsAt : Data → List Text → Data → Result Data RunFault → Type 0
AssignsAt d ts v (Ok new) =
    (old : Option NodeMap)
    × Assigns (nodes d) ts (nodes v) (nodes new) old
    × (HasSortedKeys v → HasSortedKeys d → HasSortedKeys new)
AssignsAt d ts v (Err e) = (f : assign.Error) × RefusesAssign (nodes d) ts f × (e ≡ BadPlace f)

-- `DeletesAt d ts r`: `r` is the document `d` without the value at `ts`, or that there is none. Deleting the root
-- leaves `null`. Keys stay sorted
abbrev pub DeletesAt : Data → List Text → Result Data RunFault → Type 0
DeletesAt d ts (Ok new) =
    ((w : Path) × Names (nodes d) ts w)
    × Deletes (nodes d) ts (nodes null) (nodes new)
    × (HasSortedKeys d → HasSortedKeys new)
DeletesAt d ts (Err e) = NamesNothing (nodes d) ts × (e ≡ NotThere)

-- `texts_value ts`: the JSON array of the texts `ts`
abbrev pub texts_value : List Text → Data
texts_value ts = array (items_of (map string ts))

-- `SplitsInTwo ts n r`: `r` is the array of the texts of the first `n` tokens and of the rest, or that there are
-- fewer
abbrev pub SplitsInTwo : List Text → ℕ → Result Data RunFault → Type 0
SplitsInTwo ts n (Ok value) =
    (front : List Text) × (rest : List Text)
    × (ts ≡ front ++ rest)
    × (length front ≡ n)
    × (value ≡ texts_value (text front ∷ text rest ∷ []))
SplitsInTwo ts n (Err e) = (length ts < n) × (e ≡ BadSplit n (length ts))

-- `PatchesOrFails d os r`: `r` is the document `d` after a patch of the operations `os`, or why that fails. Keys stay
-- sorted
abbrev pub PatchesOrFails : Data → List OperationData → Result Data RunFault → Type 0
PatchesOrFails d os (Ok new) =
    (patch : List Operation)
    × (map data_of patch ≡ os)
    × Patches (nodes d) patch (nodes new)
    × (All OperationHasSortedKeys patch → HasSortedKeys d → HasSortedKeys new)
PatchesOrFails d os (Err e) =
    (patch : List Operation) × (f : PatchError)
    × (map data_of patch ≡ os)
    × RefusesPatch (nodes d) patch f
    × (e ≡ BadPatch f)

-- `IsRunOutcome request bytes r`: `r` is the result of the request on an input of these bytes: a value or an error
abbrev pub IsRunOutcome : Request → List ℕ → Result Data RunFault → Type 0
IsRunOutcome (resolving ts) bytes r = OnDocument bytes r (λ d. Resolves d ts r)
IsRunOutcome (listing ts) bytes r = r ≡ Ok (texts_value ts)
IsRunOutcome (assigning ts v) bytes r = OnDocument bytes r (λ d. AssignsAt d ts v r)
IsRunOutcome (deleting ts) bytes r = OnDocument bytes r (λ d. DeletesAt d ts r)
IsRunOutcome (splitting ts n) bytes r = SplitsInTwo ts n r
IsRunOutcome (patching os) bytes r = OnDocument bytes r (λ d. PatchesOrFails d os r)

-- `HasValueOf request bytes value`: `value` has the value of the request on an input of these bytes
abbrev pub HasValueOf : Request → List ℕ → Option Data → Type 0
HasValueOf request bytes value = (d : Data) × (value ≡ Some d) × IsRunOutcome request bytes (Ok d)

-- `IsRequestFault request known e`: the request fails with `e`, because of the input, the operation, an allocation
-- or, if it needs the input, a read
abbrev pub IsRequestFault : Request → Option (List ℕ) → RunFault → Type 0
IsRequestFault request known e =
    ForInput known (λ bytes. IsRunOutcome request bytes (Err e))
    ⊎ (e ≡ Memory alloc_error)
    ⊎ (NeedsInput request × (e ≡ Read))

-- `LeavesValue known Made old new e`: after the error `e` the value, which was `old`, is `new`. An error of the words or of
-- the input, and a pointer that resolves to no value, leave it unchanged. An error of an assignment, a deletion or a patch
-- leaves the document of the bytes `known`, and a failed allocation one of these or what `Made` holds of. Nothing is said
-- of a failed write
abbrev pub LeavesValue : Option (List ℕ) → (List ℕ → Type 0) → Option Data → Option Data → RunFault → Type 0
LeavesValue known Made old new Usage = new ≡ old
LeavesValue known Made old new (BadPointer e) = new ≡ old
LeavesValue known Made old new ValueNotJson = new ≡ old
LeavesValue known Made old new (BadSplit position count) = new ≡ old
LeavesValue known Made old new (NoValue e) = new ≡ old
LeavesValue known Made old new (BadPlace e) = ForInput known (λ bytes. new ≡ json_of bytes)
LeavesValue known Made old new NotThere = ForInput known (λ bytes. new ≡ json_of bytes)
LeavesValue known Made old new (BadPatch e) = ForInput known (λ bytes. new ≡ json_of bytes)
LeavesValue known Made old new InputNotJson = new ≡ old
LeavesValue known Made old new (Memory e) =
    (new ≡ old) ⊎ ForInput known (λ bytes. (new ≡ json_of bytes) ⊎ Made bytes)
LeavesValue known Made old new Read = new ≡ old
LeavesValue known Made old new Write = ⊤

-- ---- the line, and the whole run

-- `ForLine words known P`: the words ask for a request with a value, and `P` holds of its line
abbrev pub ForLine : List Text → Option (List ℕ) → (Text → Type 0) → Type 0
ForLine words known P =
    ForRequest words (λ request. ForInput known (λ bytes. (value : Data) × (line : Text)
    × IsRunOutcome request bytes (Ok value)
    × IsJsonLine value line
    × P line))

-- `IsRefusedSo words known e`: the run fails with `e`, because of its words, an allocation for them, its request or a
-- write
abbrev pub IsRefusedSo : List Text → Option (List ℕ) → RunFault → Type 0
IsRefusedSo words known e =
    Asks words (Err e)
    ⊎ IsWordsMemory words e
    ⊎ ForRequest words (λ request. IsRequestFault request known e ⊎ (e ≡ Write))
