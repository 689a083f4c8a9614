-- Finding, changing and listing values in the text of a TOML document.
use Rattle.std.specs.Prelude.{◌≡◌, ◌<◌, ◌≤◌, ◌⊎◌, suc, List, Option, Some, None, length, false, ⊤}
use Rattle.toml.specs.Data.{Data, table, no_members, Members, members_depth, members_have_valid_dates}
use Rattle.toml.specs.Parse.{parse_document}
use Rattle.toml.specs.Text.{IsDocumentText}
use Rattle.toml_parser.specs.Strings.{recursion_limit as max_depth}
use Rattle.jsonptr.specs.Text.{Text}
use Rattle.jsonptr.specs.Node.{Path, NodeMap, Names}
use Rattle.jsonptr.specs.TomlValue.{nodes, FindsValue}
use Rattle.jsonptr.specs.Assigning.{Assigns}
use Rattle.jsonptr.specs.Removing.{Deletes}
use Rattle.jsonptr.specs.Resolve.{Refuses}
use Rattle.jsonptr.specs.Assign.{RefusesAssign}
use Rattle.jsonptr_text_paths.specs.TomlListing.{ListsToml}
use Rattle.jsonptr_text_paths.specs.declared.listing.Listed.{Listed}
use Rattle.std.specs.declared.convert.Infallible.{Infallible}
use Rattle.jsonptr.specs.declared.assign.Error.{Error as AssignError}
use Rattle.jsonptr_toml.specs.declared.error.ReadTomlError.{ReadTomlError}
use Rattle.jsonptr_toml.specs.declared.error.ReadTomlError.TheVariants as reading
use Rattle.jsonptr_toml.specs.declared.error.PrintTomlError.{PrintTomlError}
use Rattle.jsonptr_toml.specs.declared.error.PrintTomlError.TheVariants as printing
use Rattle.jsonptr_toml.specs.declared.error.InTomlError.{InTomlError}
use Rattle.jsonptr_toml.specs.declared.error.InTomlError.TheVariants as finding
use Rattle.jsonptr_toml.specs.declared.error.EditTomlError.{EditTomlError}
use Rattle.jsonptr_toml.specs.declared.error.EditTomlError.TheVariants as editing

-- `ReadsAsToml text d`: the document that `text` contains is the table `d`, whose values nest at most 80 deep
abbrev pub ReadsAsToml : Text → Data → Type 0
ReadsAsToml text d = (ms : Members) × (parse_document text ≡ Some ms) × (d ≡ table ms) × (members_depth ms ≤ max_depth)

-- `IsDeep text`: the values of the document that `text` contains nest deeper
abbrev pub IsDeep : Text → Type 0
IsDeep text = (ms : Members) × (parse_document text ≡ Some ms) × (max_depth < members_depth ms)

-- `PrintsAs d text`: `d` is a table, and `text` a document of it, which is read as `d`
abbrev pub PrintsAs : Data → Text → Type 0
PrintsAs d text = (ms : Members) × (d ≡ table ms) × IsDocumentText false ms text × ReadsAsToml text d

-- `HasDeepValues d`: `d` is a table whose values nest deeper than 80
abbrev pub HasDeepValues : Data → Type 0
HasDeepValues d = (ms : Members) × (d ≡ table ms) × (max_depth < members_depth ms)

-- `HasNoText d`: `d` is not a table, or has a date-time that TOML has no text for
abbrev pub HasNoText : Data → Type 0
HasNoText d = (ms : Members) → d ≡ table ms → members_have_valid_dates ms ≡ false

-- `AssignsTo text ts v d2`: assigning `v` at the tokens turns the document of `text` into `d2`
abbrev pub AssignsTo : Text → List Text → Data → Data → Type 0
AssignsTo text ts v d2 =
    (d : Data) × ReadsAsToml text d
    × ((replaced : Option NodeMap) × Assigns (nodes d) ts (nodes v) (nodes d2) replaced)

-- `DeletesTo text ts d2`: the tokens identify a value in the document of `text`, and deleting it turns the document into
-- `d2`. Deleting the root leaves an empty table
abbrev pub DeletesTo : Text → List Text → Data → Type 0
DeletesTo text ts d2 =
    (d : Data) × ReadsAsToml text d
    × ((v : Data) × FindsValue d ts v) × Deletes (nodes d) ts (nodes (table no_members)) (nodes d2)

-- `FindsInToml text ts v`: the tokens identify the value `v` in the document of `text`
abbrev pub FindsInToml : Text → List Text → Data → Type 0
FindsInToml text ts v = (d : Data) × ReadsAsToml text d × FindsValue d ts v

-- `AssignsAndPrintsToml text ts v new`: assigning `v` at the tokens turns the document of `text` into that of `new`
abbrev pub AssignsAndPrintsToml : Text → List Text → Data → Text → Type 0
AssignsAndPrintsToml text ts v new = (d2 : Data) × AssignsTo text ts v d2 × PrintsAs d2 new

-- `DeletesAndPrintsToml text ts new`: deleting the value that the tokens identify turns the document of `text` into that of
-- `new`
abbrev pub DeletesAndPrintsToml : Text → List Text → Text → Type 0
DeletesAndPrintsToml text ts new = (d2 : Data) × DeletesTo text ts d2 × PrintsAs d2 new

-- `LacksInToml text ts`: the tokens identify no value in the document of `text`
abbrev pub LacksInToml : Text → List Text → Type 0
LacksInToml text ts = (d : Data) × ReadsAsToml text d × ((w : Path) → Names (nodes d) ts w → ⊥)

-- `ListsInToml which text out`: `out` lists the nodes, or the leaves, of the document of `text`
abbrev pub ListsInToml : Listed → Text → Text → Type 0
ListsInToml which text out = (d : Data) × ReadsAsToml text d × ListsToml which d out

-- `IsReadTomlError text e`: `e` is why `text` is not read, unless an allocation failed
abbrev pub IsReadTomlError : Text → ReadTomlError → Type 0
IsReadTomlError text reading.NotToml = parse_document text ≡ None
IsReadTomlError text reading.DocumentTooDeep = IsDeep text
IsReadTomlError text (reading.Memory f) = ⊤

-- `IsPrintTomlError d e`: `e` is why the value `d` is not printed as a document, unless an allocation failed. A value
-- that nests too deep is not looked at further
abbrev pub IsPrintTomlError : Data → PrintTomlError → Type 0
IsPrintTomlError d printing.TooDeep = HasDeepValues d
IsPrintTomlError d printing.NoText = (HasDeepValues d → ⊥) × HasNoText d
IsPrintTomlError d (printing.Memory f) = ⊤

-- `IsInTomlError text ts e`: `e` is why no value is found, unless an allocation failed
abbrev pub IsInTomlError : Text → List Text → InTomlError → Type 0
IsInTomlError text ts finding.NotToml = parse_document text ≡ None
IsInTomlError text ts finding.DocumentTooDeep = IsDeep text
IsInTomlError text ts (finding.Resolve f) = (d : Data) × ReadsAsToml text d × Refuses (nodes d) ts f
IsInTomlError text ts (finding.Memory f) = ⊤

-- `IsAssignAndPrintError text ts v e`: `e` is why `v` is not assigned at the tokens, unless an allocation failed
abbrev pub IsAssignAndPrintError : Text → List Text → Data → EditTomlError AssignError → Type 0
IsAssignAndPrintError text ts v editing.NotToml = parse_document text ≡ None
IsAssignAndPrintError text ts v editing.DocumentTooDeep = IsDeep text
IsAssignAndPrintError text ts v (editing.Refused f) =
    (d : Data) × ReadsAsToml text d × (length ts ≤ suc max_depth) × RefusesAssign (nodes d) ts f
IsAssignAndPrintError text ts v editing.TooDeep =
    (((d : Data) × ReadsAsToml text d) × (suc max_depth < length ts))
    ⊎ ((d2 : Data) × AssignsTo text ts v d2 × IsPrintTomlError d2 printing.TooDeep)
IsAssignAndPrintError text ts v editing.NoText =
    (d2 : Data) × AssignsTo text ts v d2 × IsPrintTomlError d2 printing.NoText
IsAssignAndPrintError text ts v (editing.Memory f) = ⊤

-- `IsDeleteAndPrintError text ts e`: `e` is why nothing is deleted, unless an allocation failed
abbrev pub IsDeleteAndPrintError : Text → List Text → EditTomlError Infallible → Type 0
IsDeleteAndPrintError text ts editing.NotToml = parse_document text ≡ None
IsDeleteAndPrintError text ts editing.DocumentTooDeep = IsDeep text
IsDeleteAndPrintError text ts (editing.Refused f) = ⊥
IsDeleteAndPrintError text ts editing.TooDeep = (d2 : Data) × DeletesTo text ts d2 × IsPrintTomlError d2 printing.TooDeep
IsDeleteAndPrintError text ts editing.NoText = (d2 : Data) × DeletesTo text ts d2 × IsPrintTomlError d2 printing.NoText
IsDeleteAndPrintError text ts (editing.Memory f) = ⊤
