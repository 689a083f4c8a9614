use Rattle.std.proofs.Common.{◌≤◌, length}
use Rattle.serde_json.specs.Data.{Members}
use Rattle.jsonptr_text_search.specs.PrivateReading.{MembersSoFar}
use Rattle.jsonptr_text_check.specs.PrivateEditing.{MembersAdded}
use Rattle.jsonptr_text_check.proofs.added.add_member.Given as goal

abbrev pub invariant-members : goal.invariant-members
invariant-members l =
    (ms ms2 : Members)
    × MembersSoFar l.depth l.initial.readers.one l.readers.one ms
    × MembersSoFar l.depth l.initial.readers.two l.readers.two ms2
    × MembersAdded l.is_done l.member.key.now l.json ms ms2
    × (length l.readers.one ≤ length l.initial.readers.one)
    × (length l.readers.two ≤ length l.initial.readers.two)

abbrev pub decreases-members : goal.decreases-members
decreases-members l = length l.readers.two
