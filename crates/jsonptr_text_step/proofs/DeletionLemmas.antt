-- A deletion makes no document deeper, so its text is read again.
use Rattle.std.proofs.Common.{◌≡◌, ◌≤◌, List, Some, arith}
use Rattle.serde_json.specs.Data.{Data, null, depth}
use Rattle.serde_json.specs.Read.{read, max_depth}
use Rattle.serde_json.proofs.Nesting.{depth-read}
use Rattle.jsonptr.specs.Text.{Text}
use Rattle.jsonptr.specs.Node.{Path, Names}
use Rattle.jsonptr.specs.Json.{nodes, HasSortedKeys}
use Rattle.jsonptr.specs.Removing.{Deletes}
use Rattle.jsonptr_value.specs.Nesting.{NestsWithin}
use Rattle.jsonptr_value.proofs.LevelLemmas.{NestsWithin-depth, depth-within}
use Rattle.jsonptr_value.proofs.NestingLemmas.{NestsWithin-more, Deletes-within}
use Rattle.jsonptr_text_step.specs.EditInText.{DeletesInText}

-- what is left of a document that is read nests within the levels of a text
left_depth : (old : Text) (tokens : List Text) (d d2 : Data) (w : Path) → read old ≡ Some d → Names (nodes d) tokens w → Deletes (nodes d) tokens (nodes null) (nodes d2) → HasSortedKeys d2 → depth d2 ≤ max_depth
left_depth old tokens d d2 w reads named deleted sorted =
    let before : NestsWithin max_depth (nodes d) = NestsWithin-more (depth d) max_depth (nodes d) (depth-read old d reads) (NestsWithin-depth d) in
    let blank : NestsWithin max_depth (nodes null) = NestsWithin-more 0 max_depth (nodes null) (omega arith) (NestsWithin-depth null) in
    let after : NestsWithin max_depth (nodes d2) = Deletes-within max_depth (nodes d) tokens (nodes null) (nodes d2) w deleted named before blank in
    depth-within d2 max_depth sorted after

-- so the text that is printed of it reads as it
pub deleted_then : (old new : Text) (tokens : List Text) (d d2 : Data) (w : Path) → read old ≡ Some d → Names (nodes d) tokens w → Deletes (nodes d) tokens (nodes null) (nodes d2) → HasSortedKeys d2 → (depth d2 ≤ max_depth → read new ≡ Some d2) → DeletesInText old tokens new
deleted_then old new tokens d d2 w reads named deleted sorted printed = (d, d2, reads, printed (left_depth old tokens d d2 w reads named deleted sorted), (w, named), deleted)
