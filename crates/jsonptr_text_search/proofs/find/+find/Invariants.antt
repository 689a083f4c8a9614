use Rattle.std.proofs.Common.{◌≡◌, ◌+◌, ◌*◌, ◌≤◌, List, length}
use Rattle.serde_json.specs.Data.{Data, Members, no_items}
use Rattle.serde_json.specs.Find.{get_member}
use Rattle.jsonptr_text_search.specs.PrivateReading.{with_items_before, ItemsSoFar, MembersSoFar}
use Rattle.jsonptr_text_search.specs.Search.{choices, element, IsChildOutcome}
use Rattle.jsonptr_text_search.proofs.find.+find.Given as goal

abbrev pub decreases-find : goal.decreases-find
decreases-find l = 3 * l.depth

abbrev pub decreases-visit : goal.decreases-visit
decreases-visit l = 3 * l.depth + 1

abbrev pub decreases-find_element : goal.decreases-find_element
decreases-find_element l = 3 * l.depth + 2

abbrev pub decreases-find_member : goal.decreases-find_member
decreases-find_member l = 3 * l.depth + 2

abbrev pub invariant-find_element-elements : goal.invariant-find_element-elements
invariant-find_element-elements l =
    (before : List Data)
    × ItemsSoFar l.depth l.initial.reader l.reader before
    × (l.len ≡ length before)
    × (length before + length l.reader ≤ length l.initial.reader)
    × IsChildOutcome (element l.index (with_items_before before no_items)) (choices l.selectors) l.found

abbrev pub decreases-find_element-elements : goal.decreases-find_element-elements
decreases-find_element-elements l = length l.reader

abbrev pub invariant-find_member-members : goal.invariant-find_member-members
invariant-find_member-members l =
    (old : Members)
    × MembersSoFar l.depth l.initial.reader l.reader old
    × (length l.reader ≤ length l.initial.reader)
    × IsChildOutcome (get_member l.key old) (choices l.selectors) l.found

abbrev pub decreases-find_member-members : goal.decreases-find_member-members
decreases-find_member-members l = length l.reader
