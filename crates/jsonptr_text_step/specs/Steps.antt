-- One edit of a text, in one piece: what becomes of the document, and which bytes change.
use Rattle.std.specs.Prelude.{◌≡◌, List, Some, string_bytes}
use Rattle.json.specs.Lex.{tokens as lexed}
use Rattle.serde_json.specs.Data.{Data}
use Rattle.serde_json.specs.Read.{read}
use Rattle.jsonptr.specs.Text.{Text}
use Rattle.jsonptr.specs.Pointer.{tokens}
use Rattle.jsonptr.specs.Node.{NodeMap}
use Rattle.jsonptr.specs.Json.{nodes}
use Rattle.jsonptr.specs.Resolve.{PutsAt}
use Rattle.jsonptr_patch.specs.Adding.{Adds}
use Rattle.jsonptr_patch.specs.Operating.{PassesBy}
use Rattle.jsonptr_patch.specs.declared.comparison.Comparison.TheVariants.{Numeric}
use Rattle.jsonptr_text_value.specs.Raw.{value_of_raw}
use Rattle.jsonptr_text_step.specs.Bytes.{ReplacesBytes, DeletesBytes}
use Rattle.jsonptr_text_step.specs.EditInText.{AssignsInText, DeletesInText}
use Rattle.jsonptr_text_step.specs.Giving.{AssignsGiven}
use Rattle.jsonptr_text_step.specs.PatchInText.{AddsAtBytes, added_text}
use Rattle.jsonptr_text_step.specs.Renaming.{RenamesInText, RenamesBytes}
use Rattle.jsonptr_text_step.specs.declared.step.Step.{Step}
use Rattle.jsonptr_text_step.specs.declared.step.Step.TheVariants.{Assign, Delete, Add, Replace, Rename}

-- `AddsInText old tokens flat new`: the texts read as documents, and adding the value of the text `flat` at the tokens turns the
-- first document into the second
abbrev pub AddsInText : Text → List Text → Text → Text → Type 0
AddsInText old tokens flat new =
    (d d2 e : Data) × (read old ≡ Some d) × (read new ≡ Some d2) × (read flat ≡ Some e)
    × Adds (nodes d) tokens (nodes e) (nodes d2)

-- `ReplacesInText old tokens flat new`: the same of the value of the text `flat` that replaces the one to which the tokens lead
abbrev pub ReplacesInText : Text → List Text → Text → Text → Type 0
ReplacesInText old tokens flat new =
    (d d2 e : Data) × (read old ≡ Some d) × (read new ≡ Some d2) × (read flat ≡ Some e)
    × PutsAt (nodes d) tokens (nodes e) (nodes d2)

-- `AddsAtByText old tokens flat new`: which bytes change where the value of the text `flat` is added. What is put into the text
-- as the value has the JSON tokens of that text
abbrev pub AddsAtByText : Text → List Text → Text → Text → Type 0
AddsAtByText old tokens flat new =
    (e : Data) × (read flat ≡ Some e) × (b : AddsAtBytes old tokens e new) × (lexed (added_text old tokens e new b) ≡ lexed flat)

-- `ReplacesByText old new tokens flat`: the value that `tokens` identify is replaced by that of the text `flat`, with its
-- JSON tokens
abbrev pub ReplacesByText : Text → Text → List Text → Text → Type 0
ReplacesByText old new tokens flat =
    (e : Data) × (read flat ≡ Some e) × (b : ReplacesBytes old new tokens e) × (lexed b.piece ≡ lexed flat)

-- `PassesInText text tokens v`: the test that the value at `tokens` equals `v` passes. Numbers are compared by their values
abbrev pub PassesInText : Text → List Text → NodeMap → Type 0
PassesInText text tokens v = (d : Data) × (read text ≡ Some d) × PassesBy Numeric (nodes d) tokens v

-- `StepsText old step new`: the texts read as documents, and the step turns the first document into the second
abbrev pub StepsText : Text → Step → Text → Type 0
StepsText old (Assign pointer raw) new = AssignsInText old (tokens pointer) (nodes (value_of_raw raw.now)) new
StepsText old (Delete pointer) new = DeletesInText old (tokens pointer) new
StepsText old (Add pointer printed) new = AddsInText old (tokens pointer) (string_bytes printed.now.flat) new
StepsText old (Replace pointer printed) new = ReplacesInText old (tokens pointer) (string_bytes printed.now.flat) new
StepsText old (Rename pointer key) new = RenamesInText old (tokens pointer) key.now new

-- `StepBytes old step new`: which bytes of the text `old` the step changes, and that the value which it brings has its own
-- tokens
abbrev pub StepBytes : Text → Step → Text → Type 0
StepBytes old (Assign pointer raw) new = AssignsGiven old (tokens pointer) raw.now new
StepBytes old (Delete pointer) new = DeletesBytes old (tokens pointer) new
StepBytes old (Add pointer printed) new = AddsAtByText old (tokens pointer) (string_bytes printed.now.flat) new
StepBytes old (Replace pointer printed) new = ReplacesByText old new (tokens pointer) (string_bytes printed.now.flat)
StepBytes old (Rename pointer key) new = RenamesBytes old (tokens pointer) key.now new
