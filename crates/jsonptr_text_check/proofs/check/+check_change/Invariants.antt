use Rattle.std.proofs.Common.{◌≡◌, ◌+◌, ◌*◌, ◌≤◌, List, length}
use Rattle.serde_json.specs.Data.{Data, Members}
use Rattle.jsonptr_text_search.specs.Search.{choices}
use Rattle.jsonptr_text_search.specs.PrivateReading.{ItemsSoFar, MembersSoFar}
use Rattle.jsonptr_text_check.specs.Editing.{ChangesAt, Makes}
use Rattle.jsonptr_text_check.specs.PrivateEditing.{ItemsSo, MembersSo}
use Rattle.jsonptr_text_check.proofs.check.+check_change.Given as goal

abbrev pub decreases-check_change : goal.decreases-check_change
decreases-check_change l = 3 * l.depth

abbrev pub decreases-visit : goal.decreases-visit
decreases-visit l = 3 * l.depth + 1

abbrev pub decreases-change_element : goal.decreases-change_element
decreases-change_element l = 3 * l.depth + 2

abbrev pub decreases-change_member : goal.decreases-change_member
decreases-change_member l = 3 * l.depth + 2

abbrev pub invariant-change_element-elements : goal.invariant-change_element-elements
invariant-change_element-elements l =
    (ds ds2 : List Data)
    × ItemsSoFar l.depth l.initial.readers.one l.readers.one ds
    × ItemsSoFar l.depth l.initial.readers.two l.readers.two ds2
    × (l.count ≡ length ds)
    × ItemsSo l.is_done l.index (ChangesAt (choices l.at.selectors.now) (Makes l.at.change.now)) ds ds2
    × (length l.readers.one ≤ length l.initial.readers.one)
    × (length l.readers.two ≤ length l.initial.readers.two)

abbrev pub decreases-change_element-elements : goal.decreases-change_element-elements
decreases-change_element-elements l = length l.readers.one

abbrev pub invariant-change_member-members : goal.invariant-change_member-members
invariant-change_member-members l =
    (ms ms2 : Members)
    × MembersSoFar l.depth l.initial.readers.one l.readers.one ms
    × MembersSoFar l.depth l.initial.readers.two l.readers.two ms2
    × MembersSo l.is_done l.member.key.now (ChangesAt (choices l.at.selectors.now) (Makes l.at.change.now)) ms ms2
    × (length l.readers.one ≤ length l.initial.readers.one)
    × (length l.readers.two ≤ length l.initial.readers.two)

abbrev pub decreases-change_member-members : goal.decreases-change_member-members
decreases-change_member-members l = length l.readers.one
