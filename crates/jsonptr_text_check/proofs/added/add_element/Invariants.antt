use Rattle.std.proofs.Common.{◌≡◌, ◌≤◌, List, length}
use Rattle.serde_json.specs.Data.{Data}
use Rattle.jsonptr_text_search.specs.PrivateReading.{ItemsSoFar}
use Rattle.jsonptr_text_check.specs.PrivateEditing.{ItemsAdded}
use Rattle.jsonptr_text_check.proofs.added.add_element.Given as goal

abbrev pub invariant-elements : goal.invariant-elements
invariant-elements l =
    (ds ds2 : List Data)
    × ItemsSoFar l.depth l.initial.readers.one l.readers.one ds
    × ItemsSoFar l.depth l.initial.readers.two l.readers.two ds2
    × (l.count ≡ length ds2)
    × ItemsAdded l.is_done l.index l.json ds ds2
    × (length l.readers.one ≤ length l.initial.readers.one)
    × (length l.readers.two ≤ length l.initial.readers.two)

abbrev pub decreases-elements : goal.decreases-elements
decreases-elements l = length l.readers.two
