use Rattle.std.proofs.Common.{◌≡◌, ◌+◌, ◌*◌, ◌≤◌, List, length}
use Rattle.serde_json.specs.Data.{Data, Members, no_items}
use Rattle.serde_json.specs.Find.{get_member, get_item}
use Rattle.jsonptr_text_search.specs.Search.{choices}
use Rattle.jsonptr_text_search.specs.PrivateReading.{ItemsSoFar, MembersSoFar, with_items_before}
use Rattle.jsonptr_text_check.specs.PrivateLeading.{ChildLeadsIf, ElementsPlaced, MembersPlaced}
use Rattle.jsonptr_text_check.proofs.lead.+pass.Given as goal

abbrev pub decreases-pass : goal.decreases-pass
decreases-pass l = 3 * l.depth

abbrev pub decreases-visit : goal.decreases-visit
decreases-visit l = 3 * l.depth + 1

abbrev pub decreases-pass_element : goal.decreases-pass_element
decreases-pass_element l = 3 * l.depth + 2

abbrev pub decreases-pass_member : goal.decreases-pass_member
decreases-pass_member l = 3 * l.depth + 2

abbrev pub invariant-pass_element-elements : goal.invariant-pass_element-elements
invariant-pass_element-elements l =
    (ds : List Data)
    × ItemsSoFar l.depth l.initial.readers.one l.readers.one ds
    × (l.count ≡ length ds)
    × ChildLeadsIf l.is_done (get_item l.index (with_items_before ds no_items)) (choices l.target.selectors.now) l.target.value.now
    × (length l.readers.one ≤ length l.initial.readers.one)
    × ElementsPlaced l.is_done l.count l.index (choices l.target.selectors.now) l.target.value.now l.initial.readers.one l.readers.one l.initial.readers.two l.readers.two

abbrev pub decreases-pass_element-elements : goal.decreases-pass_element-elements
decreases-pass_element-elements l = length l.readers.one

abbrev pub invariant-pass_member-members : goal.invariant-pass_member-members
invariant-pass_member-members l =
    (ms : Members)
    × MembersSoFar l.depth l.initial.readers.one l.readers.one ms
    × ChildLeadsIf l.is_done (get_member l.member.key.now ms) (choices l.target.selectors.now) l.target.value.now
    × (length l.readers.one ≤ length l.initial.readers.one)
    × MembersPlaced l.is_done l.member.key.now (choices l.target.selectors.now) l.target.value.now l.initial.readers.one l.readers.one l.initial.readers.two l.readers.two

abbrev pub decreases-pass_member-members : goal.decreases-pass_member-members
decreases-pass_member-members l = length l.readers.one
