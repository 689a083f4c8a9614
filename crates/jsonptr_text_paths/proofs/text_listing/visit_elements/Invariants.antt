use Rattle.std.proofs.Common.{◌≡◌, ◌+◌, ◌≤◌, ◌-◌, List, length}
use Rattle.serde_json.specs.Read.{max_depth}
use Rattle.serde_json.specs.Data.{Data}
use Rattle.jsonptr_text_search.specs.PrivateReading.{ItemsSoFar}
use Rattle.jsonptr_text_paths.specs.PrivateElements.{VisitsElements}
use Rattle.jsonptr_text_paths.proofs.text_listing.visit_elements.Given as goal

abbrev pub invariant-elements : goal.invariant-elements
invariant-elements g l =
    (before : List Data)
    × ItemsSoFar (max_depth - 1) l.fn.reader l.reader before
    × (l.len ≡ length before)
    × (length before + length l.reader ≤ length l.fn.reader)
    × VisitsElements g.T.Visitor.visits before l.fn.visitor l.visitor

abbrev pub decreases-elements : goal.decreases-elements
decreases-elements g l = length l.reader
