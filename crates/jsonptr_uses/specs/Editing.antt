-- The cursor of an editor, and the next element of an array.
use Rattle.std.specs.Prelude.{◌≡◌, ℕ, ◌+◌, ◌<◌, Bool, MatchBool, List, [], ◌∷◌, ◌++◌, Some}
use Rattle.serde_json.specs.Data.{Data}
use Rattle.serde_json.specs.View.{view}
use Rattle.jsonptr.specs.Json.{nodes}
use Rattle.jsonptr.specs.Text.{Text, dec}
use Rattle.jsonptr.specs.Node.{Path, an_array, NodeMap, Names}
use Rattle.jsonptr_uses.specs.declared.cursor_editor.CursorEditor.{CursorEditor}
use Rattle.jsonptr_uses.specs.declared.editor.Editor.{Editor}

-- `editor_of e`: the editor under the cursor editor `e`
abbrev pub editor_of : CursorEditor → Editor
editor_of e = e.editor

-- `cursor_of e`: the tokens of the cursor of `e`
abbrev pub cursor_of : CursorEditor → List Text
cursor_of e = e.cursor

-- `document_under e`: the document that the cursor of `e` is in
abbrev pub document_under : CursorEditor → Data
document_under e = view e.editor.document

-- `IsAtValue e`: the cursor of the editor `e` resolves to a value of its document
abbrev pub IsAtValue : CursorEditor → Type 0
IsAtValue e = (w : Path) × Names (nodes (view e.editor.document)) e.cursor w

-- `NamesArray n ts len`: `ts` evaluate to an array of length `len`
abbrev pub NamesArray : NodeMap → List Text → ℕ → Type 0
NamesArray n ts len = (w : Path) × Names n ts w × (n w ≡ Some (an_array len))

-- `IsNext n ts us`: `ts` evaluate to an element of an array, by its index as the last token, and `us` to the next
-- element
pub record IsNext (n : NodeMap) (ts us : List Text) : Type 0 where
  pub front : List Text
  pub len : ℕ
  pub place : ℕ
  pub array : NamesArray n front len
  pub here : ts ≡ front ++ dec place ∷ []
  pub next : us ≡ front ++ dec (place + 1) ∷ []
  pub within : place + 1 < len

-- `LacksNext n ts`: there is no next element
abbrev pub LacksNext : NodeMap → List Text → Type 0
LacksNext n ts = (us : List Text) → IsNext n ts us → ⊥

-- `MovesOn n ts there us`: if `there`, `us` are the tokens of the next element; otherwise there is none, and `us` is
-- `ts`
abbrev pub MovesOn : NodeMap → List Text → Bool → List Text → Type 0
MovesOn n ts there us = MatchBool there (IsNext n ts us) (LacksNext n ts × (us ≡ ts))
