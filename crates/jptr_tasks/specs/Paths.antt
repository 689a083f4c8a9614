-- What is printed for the nodes of a document, and for the lines of one.
use Rattle.std.specs.Prelude.{◌≡◌, ℕ, List, [], ◌∷◌, ◌++◌, Option, Some, None, ⊤}
use Rattle.std.specs.Io.KnownBytes.{Appends, Keeps}
use Rattle.std.specs.Str.{IsUtf8}
use Rattle.serde_json.specs.Data.{Data}
use Rattle.serde_json.specs.Read.{read}
use Rattle.jsonptr.specs.Text.{Text}
use Rattle.jsonptr.specs.Json.{nodes, HasSortedKeys}
use Rattle.jsonptr_io.specs.Streams.{ForInput, AppendsPrefix}
use Rattle.jsonptr_text_paths.specs.Listing.{Lists}
use Rattle.jsonptr_text_paths.specs.Building.{Builds, StopsBuilding}
use Rattle.jsonptr_text_paths.specs.declared.listing.Listed.{Listed}
use Rattle.jsonptr_text_paths.specs.declared.build.BuildError.TheVariants.{Line}
use Rattle.jptr_tasks.specs.Layouts.{ShowsInLayout, ReadsBack}
use Rattle.jptr_tasks.specs.declared.task_error.TaskError.{TaskError}
use Rattle.jptr_tasks.specs.declared.task_error.TaskError.TheVariants.{NotJson, NotUtf8, BadLine, Memory, Read, Write}
use Rattle.jptr_tasks.specs.declared.layout.Layout.{Layout}

-- `ListsText which bytes out`: `out` lists the nodes, or the leaves, of the document `bytes`
abbrev pub ListsText : Listed → List ℕ → Text → Type 0
ListsText which bytes out = (d : Data) × IsUtf8 bytes × (read bytes ≡ Some d) × Lists which d out

-- `FailsToList bytes e`: `e` is why the document `bytes` is not listed, unless an allocation failed
abbrev pub FailsToList : List ℕ → TaskError → Type 0
FailsToList bytes NotJson = IsUtf8 bytes → read bytes ≡ None
FailsToList bytes (Memory f) = ⊤
FailsToList bytes e = ⊥

-- `BuildsText layout bytes out`: `out` is a line with the document that the lines `bytes` build, in this layout and with
-- its keys sorted. It is read as that document
abbrev pub BuildsText : Layout → List ℕ → Text → Type 0
BuildsText layout bytes out =
    (d : Data) × (shown : Text)
    × IsUtf8 bytes × Builds bytes (nodes d) × HasSortedKeys d × ShowsInLayout layout d shown × ReadsBack layout d shown
    × (out ≡ shown ++ 10 ∷ [])

-- `FailsToBuild bytes e`: `e` is why the lines `bytes` build no document, unless an allocation failed
abbrev pub FailsToBuild : List ℕ → TaskError → Type 0
FailsToBuild bytes NotUtf8 = IsUtf8 bytes → ⊥
FailsToBuild bytes (BadLine number e) = IsUtf8 bytes × StopsBuilding bytes (Line number e)
FailsToBuild bytes (Memory f) = ⊤
FailsToBuild bytes e = ⊥

-- `PutsText P known w0 w1`: some `out` with `P bytes out` is written, for the bytes of the input
abbrev pub PutsText : (List ℕ → Text → Type 0) → Option (List ℕ) → Option (List ℕ) → Option (List ℕ) → Type 0
PutsText P known w0 w1 = ForInput known (λ bytes. (out : Text) × P bytes out × Appends w0 w1 out)

-- `StopsText P F known w0 w1 e`: the run fails with `e`. Nothing is written and `F bytes e` holds of the bytes of the
-- input, or `e` is a failed read, or `e` is a failed write and a prefix of some `out` with `P bytes out` is written
abbrev pub StopsText : (List ℕ → Text → Type 0) → (List ℕ → TaskError → Type 0) → Option (List ℕ) → Option (List ℕ) → Option (List ℕ) → TaskError → Type 0
StopsText P F known w0 w1 Write = ForInput known (λ bytes. (out : Text) × P bytes out × AppendsPrefix w0 w1 out)
StopsText P F known w0 w1 Read = Keeps w0 w1
StopsText P F known w0 w1 e = Keeps w0 w1 × ForInput known (λ bytes. F bytes e)
