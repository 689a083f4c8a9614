use Rattle.std.proofs.Common.{◌+◌, ◌≤◌, length}
use denote.Text.{Utf8}
use denote.Shadow.{shadow}
use Rattle.serde_json.specs.Read.{max_depth}
use Rattle.serde_json.specs.View.{view}
use Rattle.jsonptr.specs.Json.{nodes, HasSortedKeys}
use Rattle.jsonptr_value.specs.Nesting.{NestsWithin}
use Rattle.jsonptr_text_paths.specs.PrivateBuilding.{Progress}
use Rattle.jsonptr_text_paths.proofs.build.build.Given as goal

abbrev pub invariant-loop-rest : goal.invariant-loop-rest
invariant-loop-rest l =
    shadow (Utf8 l.rest)
    × Progress l.text l.rest l.number (nodes (view l.document))
    × (l.number + length l.rest ≤ length l.text)
    × HasSortedKeys (view l.document)
    × NestsWithin max_depth (nodes (view l.document))

abbrev pub decreases-loop-rest : goal.decreases-loop-rest
decreases-loop-rest l = length l.rest
