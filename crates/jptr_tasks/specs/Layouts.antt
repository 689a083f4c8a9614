-- The text of a value in each layout.
use Rattle.std.specs.Prelude.{◌≡◌, Some, MatchOption, ⊤}
use Rattle.serde_json.specs.Data.{Data}
use Rattle.serde_json.specs.Find.{as_str}
use Rattle.serde_json.specs.Read.{read}
use Rattle.jsonptr.specs.Text.{Text}
use Rattle.jsonptr_value.specs.JsonText.{IsCompact, IsPretty}
use Rattle.jsonptr_text_resolve.specs.Format.{IsFormatted}
use Rattle.jsonptr_text_resolve.specs.declared.format.Format.TheVariants as format
use Rattle.jptr_tasks.specs.declared.layout.Layout.{Layout}
use Rattle.jptr_tasks.specs.declared.layout.Layout.TheVariants.{Kept, Compact, Pretty, Sorted, SortedPretty, Raw}

-- `ShowsInLayout layout value text`: `text` is what is printed for a `value` that has no text of its own, in this layout
abbrev pub ShowsInLayout : Layout → Data → Text → Type 0
ShowsInLayout Kept value text = IsCompact value text
ShowsInLayout Compact value text = IsCompact value text
ShowsInLayout Pretty value text = IsPretty value text
ShowsInLayout Sorted value text = IsCompact value text
ShowsInLayout SortedPretty value text = IsPretty value text
ShowsInLayout Raw value text = MatchOption (as_str value) (IsCompact value text) (λ s. text ≡ s)

-- `Lays layout text out`: `out` is the JSON text `text` in this layout: as it is, with its tokens laid out anew, one for one,
-- with its members sorted, or as the string that it is
abbrev pub Lays : Layout → Text → Text → Type 0
Lays Kept text out = out ≡ text
Lays Compact text out = IsFormatted format.Compact text out
Lays Pretty text out = IsFormatted format.Pretty text out
Lays Sorted text out = (value : Data) × (read text ≡ Some value) × IsCompact value out
Lays SortedPretty text out = (value : Data) × (read text ≡ Some value) × IsPretty value out
Lays Raw text out = (value : Data) × (read text ≡ Some value) × MatchOption (as_str value) (out ≡ text) (λ s. out ≡ s)

-- `ReadsBack layout value text`: `text` is read as `value`, unless it is that of a string without quotes
abbrev pub ReadsBack : Layout → Data → Text → Type 0
ReadsBack Kept value text = read text ≡ Some value
ReadsBack Compact value text = read text ≡ Some value
ReadsBack Pretty value text = read text ≡ Some value
ReadsBack Sorted value text = read text ≡ Some value
ReadsBack SortedPretty value text = read text ≡ Some value
ReadsBack Raw value text = MatchOption (as_str value) (read text ≡ Some value) (λ s. text ≡ s)

-- `CanBreak layout`: a text in this layout may contain a line feed
abbrev pub CanBreak : Layout → Type 0
CanBreak Kept = ⊥
CanBreak Compact = ⊥
CanBreak Pretty = ⊤
CanBreak Sorted = ⊥
CanBreak SortedPretty = ⊤
CanBreak Raw = ⊤
