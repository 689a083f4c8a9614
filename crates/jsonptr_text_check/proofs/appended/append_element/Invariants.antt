use Rattle.std.proofs.Common.{◌≡◌, ◌≤◌, List, length}
use Rattle.serde_json.specs.Data.{Data}
use Rattle.jsonptr_text_search.specs.PrivateReading.{ItemsSoFar}
use Rattle.jsonptr_text_check.proofs.appended.append_element.Given as goal

abbrev pub invariant-elements : goal.invariant-elements
invariant-elements l =
    (before : List Data)
    × ItemsSoFar l.depth l.initial.readers.one l.readers.one before
    × ItemsSoFar l.depth l.initial.readers.two l.readers.two before
    × (l.count ≡ length before)
    × (length l.readers.one ≤ length l.initial.readers.one)
    × (length l.readers.two ≤ length l.initial.readers.two)

abbrev pub decreases-elements : goal.decreases-elements
decreases-elements l = length l.readers.one
