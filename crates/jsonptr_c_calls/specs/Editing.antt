-- Changes of a document by a pointer.
use Rattle.std.specs.Prelude.{◌≡◌, ◌⊎◌, ℕ, ◌<◌, IsUtf8, List, Bool, true, false, Option, Some, length}
use Rattle.serde_json.specs.Data.{Data, null}
use Rattle.serde_json.specs.Read.{read}
use Rattle.serde_json.specs.View.{view}
use Rattle.serde_json.specs.declared.value.Value.{Value}
use Rattle.jsonptr.specs.Assign.{AssignsValue, RefusesAssign}
use Rattle.jsonptr.specs.Delete.{NamesNothing}
use Rattle.jsonptr.specs.Json.{nodes, FindsValue}
use Rattle.jsonptr.specs.Removing.{Deletes}
use Rattle.jsonptr.specs.Text.{Text}
use Rattle.jsonptr.specs.declared.assign.Error as assign
use Rattle.jsonptr_c_calls.specs.declared.handle.Handle.{Handle}
use Rattle.jsonptr_c_calls.specs.Depths.{HasFewTokens, max_levels}
use Rattle.jsonptr_c_calls.specs.Failures.{FailsOnHandle, IsNoPointer, IsNotParsed, IsOutOfMemory}
use Rattle.jsonptr_c_calls.specs.Pointers.{HasTokens, ParsesTo}
use Rattle.jsonptr_c_calls.specs.declared.call_error.CallError.{CallError}
use Rattle.jsonptr_c_calls.specs.declared.call_error.CallError.TheVariants.{Assign, TooDeep}

-- `AssignsAtPointer d bytes v n`: assigning the value `v` at the pointer `bytes` turns the document `d` into `n`. The pointer has
-- at most 10,000 tokens
abbrev pub AssignsAtPointer : Data → List ℕ → Data → Data → Type 0
AssignsAtPointer d bytes v n = (tokens : List Text) × (replaced : Option Value) × HasTokens bytes tokens × HasFewTokens tokens
    × AssignsValue (nodes d) tokens (nodes v) (nodes n) (λ r. nodes (view r)) (λ ts r. FindsValue d ts (view r)) replaced

-- `RefusesAt d tokens e`: there are more than 10,000 tokens, or nothing can be assigned at them in the document `d`, and
-- `e` reports that
abbrev pub RefusesAt : Data → List Text → CallError → Type 0
RefusesAt d tokens e =
    ((max_levels < length tokens) × (e ≡ TooDeep))
    ⊎ ((error : assign.Error) × HasFewTokens tokens × RefusesAssign (nodes d) tokens error × (e ≡ Assign error))

-- `IsNotAssigned d bytes e`: nothing is assigned at the pointer `bytes` in the document `d`, and `e` reports why
abbrev pub IsNotAssigned : Data → List ℕ → CallError → Type 0
IsNotAssigned d bytes e =
    IsNoPointer bytes e
    ⊎ (IsOutOfMemory e ⊎ ((tokens : List Text) × ParsesTo bytes tokens × RefusesAt d tokens e))

-- `IsTextNotAssigned text d bytes e`: the value that `text` is, is not assigned in the document in the handle `d`, and `e`
-- reports why
abbrev pub IsTextNotAssigned : List ℕ → Handle → List ℕ → CallError → Type 0
IsTextNotAssigned text d bytes e =
    IsNotParsed text e
    ⊎ ((v : Data) × IsUtf8 text × (read text ≡ Some v) × FailsOnHandle d (λ w. IsNotAssigned (view w) bytes e) e)

-- `FindsOrKeeps d tokens found n`: with `found`, the tokens identify a value of `d`. Without it they identify nothing, and
-- `n` is `d`
abbrev pub FindsOrKeeps : Data → List Text → Bool → Data → Type 0
FindsOrKeeps d tokens true n = (v : Data) × FindsValue d tokens v
FindsOrKeeps d tokens false n = NamesNothing (nodes d) tokens × (n ≡ d)

-- `DeletesAtPointer d bytes found n`: deleting the value at the pointer `bytes` turns the document `d` into `n`, and `found` says
-- whether there is one. Deleting the root leaves `null`
abbrev pub DeletesAtPointer : Data → List ℕ → Bool → Data → Type 0
DeletesAtPointer d bytes found n = (tokens : List Text) × HasTokens bytes tokens
    × Deletes (nodes d) tokens (nodes null) (nodes n) × FindsOrKeeps d tokens found n

-- `IsNotDeleted bytes e`: `bytes` are not the text of a pointer, or an allocation failed, and `e` reports why
abbrev pub IsNotDeleted : List ℕ → CallError → Type 0
IsNotDeleted bytes e = IsNoPointer bytes e ⊎ IsOutOfMemory e
