-- Where the undos of an editor lead.
use Rattle.std.specs.Prelude.{◌≡◌, List, [], ◌∷◌, Option}
use Rattle.serde_json.specs.Data.{Data}
use Rattle.serde_json.specs.View.{view}
use Rattle.serde_json.specs.declared.value.Value.{Value}
use Rattle.jsonptr.specs.Text.{Text}
use Rattle.jsonptr.specs.Ends.{PopsBack}
use Rattle.jsonptr.specs.Json.{nodes, HasSortedKeys}
use Rattle.jsonptr.specs.Node.{Path, Names}
use Rattle.jsonptr.specs.Documents.{json_map, json_blank}
use Rattle.jsonptr_session.specs.Undo.{tokens_at, IfPut, Undoes}
use Rattle.jsonptr_session.specs.declared.undo.Undo.{Undo}
use Rattle.jsonptr_uses.specs.declared.editor.Editor.{Editor}

-- `IsAbove ts us`: `us` are the tokens of the parent of `ts`, which is `ts` without the last token. The parent of the
-- root is the root
abbrev pub IsAbove : List Text → List Text → Type 0
IsAbove ts us = (t : Option Text) × PopsBack ts t us

-- `LeadsBack old u new`: undo `u` turns the value `new` into `old`. Its tokens evaluate in `new`, and all keys are
-- sorted
pub record LeadsBack (old : Data) (u : Undo Value) (new : Data) : Type 0 where
  pub named : (w : Path) × Names (nodes new) (tokens_at u) w
  pub order : IfPut u (λ v. HasSortedKeys (view v))
  pub old_order : HasSortedKeys old
  pub gives : (d : Data) → Undoes json_map json_blank (nodes new) u (nodes d) → HasSortedKeys d → d ≡ old

-- `AllLeadBack old us new`: the undos `us`, the last one first, turn the value `new` into `old`
abbrev pub AllLeadBack : Data → List (Undo Value) → Data → Type 0
AllLeadBack old [] new = new ≡ old
AllLeadBack old (u ∷ us) new = (mid : Data) × LeadsBack old u mid × AllLeadBack mid us new

-- `editor_value e`: the value that the editor `e` holds
abbrev pub editor_value : Editor → Value
editor_value e = e.document

-- `editor_document e`: the data of that value
abbrev pub editor_document : Editor → Data
editor_document e = view e.document

-- `undos_of e`: the undos of the editor `e`, the oldest one first
abbrev pub undos_of : Editor → List (Undo Value)
undos_of e = e.undos.items

-- `IsOpenedOn start e`: the editor `e` was opened on `start`. Its undos turn its document into that value
pub record IsOpenedOn (start : Data) (e : Editor) : Type 0 where
  pub order : HasSortedKeys (view e.document)
  pub leads : AllLeadBack start e.undos.items (view e.document)
