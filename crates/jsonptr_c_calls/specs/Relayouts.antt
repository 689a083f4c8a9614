-- A text with the document of another one, in its layout.
use Rattle.std.specs.Prelude.{◌≡◌, ◌⊎◌, ◌++◌, ℕ, List, Bool, true, false, not, IsUtf8, Some, string_bytes}
use Rattle.serde_json.specs.Data.{Data}
use Rattle.serde_json.specs.Read.{read}
use Rattle.jsonptr.specs.Json.{nodes}
use Rattle.jsonptr.specs.Text.{Text}
use Rattle.jsonptr_text_relayout.specs.Relaying.{ReadsAs}
use Rattle.jsonptr_text_relayout.specs.declared.relaid.Relaid.{Relaid}
use Rattle.jsonptr_text_relayout.specs.declared.relaid.Relaid.TheVariants.{Kept, Rewritten}
use Rattle.jsonptr_c_calls.specs.Changing.{IsChange, IsSmallest}
use Rattle.jsonptr_c_calls.specs.Failures.{IsNotUtf8, IsOutOfMemory}
use Rattle.jsonptr_c_calls.specs.Marks.{IsMark}
use Rattle.jsonptr_c_calls.specs.OpenTexts.{IsNotJson}
use Rattle.jsonptr_c_calls.specs.TextHandle.{ChangesText, FailsOnText}
use Rattle.jsonptr_c_calls.specs.declared.call_error.Argument.TheVariants as argument
use Rattle.jsonptr_c_calls.specs.declared.call_error.CallError.{CallError}
use Rattle.jsonptr_c_calls.specs.declared.call_error.CallError.TheVariants.{NotInPlace, OtherFormat}
use Rattle.jsonptr_c_calls.specs.declared.change.Change.{Change}
use Rattle.jsonptr_c_calls.specs.declared.open_text.OpenText.{OpenText}
use Rattle.jsonptr_c_calls.specs.declared.text_format.TextFormat.TheVariants.{Json}
use Rattle.jsonptr_c_calls.specs.declared.text_handle.TextHandle.{TextHandle}

-- `is_kept relaid`: whether `relaid` is in the layout of the old text
abbrev pub is_kept : Relaid → Bool
is_kept (Kept s) = true
is_kept (Rewritten s) = false

-- `IsLaidOut text new made in_place`: `made` reads as the document of `new`, and has the byte order mark of `text`, or none. If
-- `text` reads as that document, `made` is `text`, in place
pub record IsLaidOut (text new made : Text) (in_place : Bool) : Type 0 where
  pub mark : Text
  pub old : Text
  pub body : Text
  pub is_mark : IsMark mark
  pub old_parts : text ≡ mark ++ old
  pub new_parts : made ≡ mark ++ body
  pub reads : (d : Data) × (read new ≡ Some d) × ReadsAs body (nodes d)
  pub kept : (d : Data) → read new ≡ Some d → ReadsAs old (nodes d) → (body ≡ old) × (in_place ≡ true)

-- `IsNotLaidOut text new e`: one of the texts is not JSON, or an allocation failed, and `e` reports that
abbrev pub IsNotLaidOut : Text → Text → CallError → Type 0
IsNotLaidOut text new e =
    IsOutOfMemory e
    ⊎ (IsNotJson new e ⊎ ((mark old : Text) × IsMark mark × (text ≡ mark ++ old) × IsNotJson old e))

-- `IsRelaid t new u change`: the text `u` is `t` with the document of `new`, in its layout unless `change` says otherwise, and
-- `change`, the smallest one, says which bytes it replaces
abbrev pub IsRelaid : OpenText → Text → OpenText → Change → Type 0
IsRelaid t new u change =
    (t.format ≡ Json) × (u.format ≡ t.format)
    × IsLaidOut (string_bytes t.text) new (string_bytes u.text) (not change.is_reformatted)
    × IsChange (string_bytes t.text) (string_bytes u.text) change
    × IsSmallest (string_bytes t.text) (string_bytes u.text) change

-- `IsNotRelaid may_reformat t new e`: the document of `new` is not put into the text `t`, and `e` reports why
abbrev pub IsNotRelaid : Bool → OpenText → Text → CallError → Type 0
IsNotRelaid may_reformat t new e =
    ((e ≡ OtherFormat) × (t.format ≡ Json → ⊥))
    ⊎ (IsNotLaidOut (string_bytes t.text) new e
    ⊎ ((may_reformat ≡ false) × ((made : Text) × IsLaidOut (string_bytes t.text) new made false) × (e ≡ NotInPlace)))

-- `Relays new d change n`: the text in the handle `n` is that in `d` with the document of `new`
abbrev pub Relays : List ℕ → TextHandle → Change → TextHandle → Type 0
Relays new d change n = ChangesText d (λ t u. IsRelaid t new u change) n

-- `IsNotRelaidIn may_reformat new d e`: the document of `new` is not put into the text in the handle `d`, and `e` reports why
abbrev pub IsNotRelaidIn : Bool → List ℕ → TextHandle → CallError → Type 0
IsNotRelaidIn may_reformat new d e =
    IsNotUtf8 argument.Text new e ⊎ (IsUtf8 new × FailsOnText d (λ t. IsNotRelaid may_reformat t new e) e)
