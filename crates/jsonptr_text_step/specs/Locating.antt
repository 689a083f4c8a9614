-- The bytes of a value in the text of a document.
use Rattle.std.specs.Prelude.{◌≡◌, ◌≤◌, ◌<◌, ◌+◌, ℕ, List, [], ◌++◌, length, None, ⊤}
use Rattle.serde_json.specs.Data.{Data}
use Rattle.serde_json.specs.Read.{read}
use Rattle.jsonptr.specs.Text.{Text}
use Rattle.jsonptr_text_resolve.specs.InText.{FindsInText, RefusesInText}
use Rattle.jsonptr_text_resolve.specs.declared.resolve.InTextError.{InTextError}
use Rattle.jsonptr_text_resolve.specs.declared.resolve.InTextError.TheVariants as in_text
use Rattle.jsonptr_text_check.specs.Child.{IsValueText}
use Rattle.jsonptr_text_step.specs.Placing.{IsAt}
use Rattle.jsonptr_text_step.specs.declared.located.LocateError.{LocateError}
use Rattle.jsonptr_text_step.specs.declared.located.LocateError.TheVariants.{NotJson, Resolve, NotLocated, Memory}

-- `IsLocated text tokens before piece after`: `text` is `before`, `piece` and `after`, and `piece` is the text of the value that
-- `tokens` identify in the document of `text`
pub record IsLocated (text : Text) (tokens : List Text) (before piece after : Text) : Type 0 where
  pub value : Data
  pub parts : text ≡ before ++ (piece ++ after)
  pub found : FindsInText text tokens value
  pub whole : IsValueText value piece
  pub is_at : IsAt text tokens piece after

-- `Contains before piece k`: in `before ++ piece`, the byte at the offset `k` is one of `piece`
abbrev pub Contains : Text → Text → ℕ → Type 0
Contains before piece k = (length before ≤ k) × (k < length before + length piece)

-- `IsLocatedAt text k tokens before piece after`: `piece` is the text of the value that `tokens` identify, and the byte of
-- `text` at the offset `k` is one of its bytes
abbrev pub IsLocatedAt : Text → ℕ → List Text → Text → Text → Text → Type 0
IsLocatedAt text k tokens before piece after = IsLocated text tokens before piece after × Contains before piece k

-- `IsOutside text k`: the byte of `text` at the offset `k` is none of the document's
abbrev pub IsOutside : Text → ℕ → Type 0
IsOutside text k = (before piece after : Text) × IsLocated text [] before piece after × (Contains before piece k → ⊥)

-- `IsLocateError text tokens e`: `e` is why the bytes of the value are not found, unless an allocation failed. With
-- `NotLocated` the value is there
abbrev pub IsLocateError : Text → List Text → LocateError → Type 0
IsLocateError text tokens NotJson = read text ≡ None
IsLocateError text tokens (Resolve e) = RefusesInText text tokens e
IsLocateError text tokens NotLocated = (value : Data) × FindsInText text tokens value
IsLocateError text tokens (Memory e) = ⊤

-- `locate_of_in_text e`: the error of locating a value that is not resolved because of `e`
abbrev pub locate_of_in_text : InTextError → LocateError
locate_of_in_text in_text.NotJson = NotJson
locate_of_in_text (in_text.Resolve e) = Resolve e
locate_of_in_text (in_text.Memory e) = Memory e
