use Rattle.std.proofs.Common.{◌+◌, ◌*◌, ◌≤◌, List, length}
use Rattle.serde_json.specs.Data.{Data, Members}
use Rattle.jsonptr_text_search.specs.PrivateReading.{ItemsSoFar, MembersSoFar}
use Rattle.jsonptr_text_check.specs.Alike.{AreAlike}
use Rattle.jsonptr_text_check.proofs.same.+same.Given as goal

abbrev pub decreases-same : goal.decreases-same
decreases-same l = 2 * l.one_depth

abbrev pub decreases-same_elements : goal.decreases-same_elements
decreases-same_elements l = 2 * l.one_depth + 1

abbrev pub decreases-same_members : goal.decreases-same_members
decreases-same_members l = 2 * l.one_depth + 1

abbrev pub invariant-same_elements-elements : goal.invariant-same_elements-elements
invariant-same_elements-elements l =
    (before : List Data)
    × ItemsSoFar l.one_depth l.initial.one l.one before
    × ItemsSoFar l.two_depth l.initial.two l.two before
    × (length l.one ≤ length l.initial.one)
    × (length l.two ≤ length l.initial.two)
    × AreAlike l.initial.one l.one l.initial.two l.two

abbrev pub decreases-same_elements-elements : goal.decreases-same_elements-elements
decreases-same_elements-elements l = length l.one

abbrev pub invariant-same_members-members : goal.invariant-same_members-members
invariant-same_members-members l =
    (found : Members)
    × MembersSoFar l.one_depth l.initial.one l.one found
    × MembersSoFar l.two_depth l.initial.two l.two found
    × (length l.one ≤ length l.initial.one)
    × (length l.two ≤ length l.initial.two)
    × AreAlike l.initial.one l.one l.initial.two l.two

abbrev pub decreases-same_members-members : goal.decreases-same_members-members
decreases-same_members-members l = length l.one
