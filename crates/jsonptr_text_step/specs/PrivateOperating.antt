-- Words of private clauses: one operation of a patch, in a text.
use Rattle.std.specs.Prelude.{◌≡◌, List, [], ◌∷◌, ◌++◌, Some, None}
use Rattle.serde_json.specs.Data.{Data}
use Rattle.serde_json.specs.Read.{read}
use Rattle.jsonptr.specs.Text.{Text}
use Rattle.jsonptr.specs.Node.{NodeMap}
use Rattle.jsonptr.specs.Json.{nodes}
use Rattle.jsonptr.specs.Resolve.{PutsAt}
use Rattle.jsonptr_text_search.specs.Search.{Choice}
use Rattle.jsonptr_text_resolve.specs.InText.{FindsInText}
use Rattle.jsonptr_text_resolve.specs.Selecting.{IsChoiceOf, AreChoicesOf}
use Rattle.jsonptr_text_check.specs.Editing.{AddsElement}
use Rattle.jsonptr_patch.specs.Adding.{Adds}
use Rattle.jsonptr_patch.specs.Operating.{AppliesBy, Moves, Copies}
use Rattle.jsonptr_patch.specs.declared.operation.Operation.{Operation}
use Rattle.jsonptr_patch.specs.declared.comparison.Comparison.TheVariants.{Numeric}

-- `OperatesInText old o new`: the texts read as documents, and the operation `o` turns the first into the second
abbrev pub OperatesInText : Text → Operation → Text → Type 0
OperatesInText old o new =
    (d d2 : Data) × (read old ≡ Some d) × (read new ≡ Some d2) × AppliesBy Numeric (nodes d) o (nodes d2)

-- `PutsInText old tokens v new`: the same for a value that is replaced by `v`
abbrev pub PutsInText : Text → List Text → NodeMap → Text → Type 0
PutsInText old tokens v new =
    (d d2 : Data) × (read old ≡ Some d) × (read new ≡ Some d2) × PutsAt (nodes d) tokens v (nodes d2)

-- `AddsValueInText old tokens v new`: the same for a value `v` that is added
abbrev pub AddsValueInText : Text → List Text → NodeMap → Text → Type 0
AddsValueInText old tokens v new =
    (d d2 : Data) × (read old ≡ Some d) × (read new ≡ Some d2) × Adds (nodes d) tokens v (nodes d2)

-- `FindsText old tokens piece`: `tokens` identify the value of the text `piece`
abbrev pub FindsText : Text → List Text → Text → Type 0
FindsText old tokens piece = (e : Data) × (read piece ≡ Some e) × FindsInText old tokens e

-- `MovesInText`, `CopiesInText`: the same for a value that is moved, and for one that is copied
abbrev pub MovesInText : Text → List Text → List Text → Text → Type 0
MovesInText old from path new =
    (d d2 : Data) × (read old ≡ Some d) × (read new ≡ Some d2) × Moves (nodes d) from path (nodes d2)

abbrev pub CopiesInText : Text → List Text → List Text → Text → Type 0
CopiesInText old from path new =
    (d d2 : Data) × (read old ≡ Some d) × (read new ≡ Some d2) × Copies (nodes d) from path (nodes d2)

-- `ElementInserted x piece d d2`: `d2` is the array `d` with the value of the text `piece` as an element more, at the index `x`
abbrev pub ElementInserted : Text → Text → Data → Data → Type 0
ElementInserted x piece d d2 =
    (e : Data) × (c : Choice) × (read piece ≡ Some e) × IsChoiceOf x c × AddsElement c e d d2

-- `AreMemberChoices tokens x cs`: `cs` are the selectors of `tokens`, and one of the member with the key `x`
abbrev pub AreMemberChoices : List Text → Text → List Choice → Type 0
AreMemberChoices tokens x cs =
    (front : List Choice) × (cs ≡ front ++ (x, None) ∷ []) × AreChoicesOf tokens front
