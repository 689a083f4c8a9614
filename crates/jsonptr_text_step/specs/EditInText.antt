-- Edits of a document in its text.
use Rattle.std.specs.Prelude.{◌≡◌, List, Option, Some, None, ⊤, string_bytes}
use Rattle.serde_json.specs.Data.{Data, null}
use Rattle.serde_json.specs.Read.{read, max_depth}
use Rattle.jsonptr.specs.Text.{Text}
use Rattle.jsonptr.specs.Node.{Path, NodeMap, Names}
use Rattle.jsonptr.specs.Json.{nodes, HasSortedKeys}
use Rattle.jsonptr.specs.Assigning.{Assigns}
use Rattle.jsonptr.specs.Removing.{Deletes}
use Rattle.jsonptr_value.specs.Nesting.{NestsWithin}
use Rattle.jsonptr_value.specs.declared.from_text.ReadError.{ReadError}
use Rattle.jsonptr_value.specs.declared.from_text.ReadError.TheVariants as unread
use Rattle.jsonptr.specs.Assign.{RefusesAssign}
use Rattle.jsonptr.specs.declared.assign.Error.{Error as AssignError}
use Rattle.jsonptr_text_step.specs.declared.stepped.Stepped.{Stepped}
use Rattle.jsonptr_text_step.specs.declared.stepped.Stepped.TheVariants.{InPlace, Rewritten}
use Rattle.jsonptr_text_step.specs.declared.stepped.StepError.{StepError}
use Rattle.jsonptr_text_step.specs.declared.stepped.StepError.TheVariants.{NotJson, Refused, TooDeep, Memory}

-- `edited_text e`: the text of the edited document
abbrev pub edited_text : Stepped → Text
edited_text (InPlace s) = string_bytes s
edited_text (Rewritten s) = string_bytes s

-- `AssignsInText old tokens v new`: the texts read as documents, and assigning `v` at the tokens turns the first document
-- into the second
abbrev pub AssignsInText : Text → List Text → NodeMap → Text → Type 0
AssignsInText old tokens v new =
    (d d2 : Data) × (read old ≡ Some d) × (read new ≡ Some d2)
    × (replaced : Option NodeMap) × Assigns (nodes d) tokens v (nodes d2) replaced

-- `IsTooDeep m`: the arrays and objects of the map `m` nest deeper than those of a text that is read
abbrev pub IsTooDeep : NodeMap → Type 0
IsTooDeep m = NestsWithin max_depth m → ⊥

-- `IsAssignError old tokens v e`: `e` is why assigning `v` at the tokens in the text `old` fails, unless an allocation
-- failed. Of a value `v` whose keys are sorted, as those of each value that is read, `TooDeep` says that the new
-- document is too deep
abbrev pub IsAssignError : Text → List Text → Data → StepError AssignError → Type 0
IsAssignError old tokens v NotJson = read old ≡ None
IsAssignError old tokens v (Refused e) = (d : Data) × (read old ≡ Some d) × RefusesAssign (nodes d) tokens e
IsAssignError old tokens v TooDeep =
    (d : Data) × (m : NodeMap) × (replaced : Option NodeMap)
    × (read old ≡ Some d) × Assigns (nodes d) tokens (nodes v) m replaced × (HasSortedKeys v → IsTooDeep m)
IsAssignError old tokens v (Memory e) = ⊤

-- `DeletesInText old tokens new`: the texts read as documents, the tokens name a path of the first one, and deleting there
-- turns it into the second
abbrev pub DeletesInText : Text → List Text → Text → Type 0
DeletesInText old tokens new =
    (d d2 : Data) × (read old ≡ Some d) × (read new ≡ Some d2)
    × ((w : Path) × Names (nodes d) tokens w) × Deletes (nodes d) tokens (nodes null) (nodes d2)

-- `LacksInText old tokens`: the text reads as a document of which the tokens name no path
abbrev pub LacksInText : Text → List Text → Type 0
LacksInText old tokens = (d : Data) × (read old ≡ Some d) × ((w : Path) → Names (nodes d) tokens w → ⊥)

-- `edit_of_read e`: the error of editing a text that is not read because of `e`
abbrev pub edit_of_read : {E : Type 0} → ReadError → StepError E
edit_of_read unread.NotJson = NotJson
edit_of_read (unread.Memory e) = Memory e
