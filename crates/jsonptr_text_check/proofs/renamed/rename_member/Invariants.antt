use Rattle.std.proofs.Common.{◌≤◌, length}
use Rattle.serde_json.specs.Data.{Members}
use Rattle.jsonptr_text_search.specs.PrivateReading.{MembersSoFar}
use Rattle.jsonptr_text_check.specs.PrivateRenaming.{MembersRenamed}
use Rattle.jsonptr_text_check.proofs.renamed.rename_member.Given as goal

abbrev pub invariant-members : goal.invariant-members
invariant-members l =
    (ms ms2 : Members)
    × MembersSoFar l.depth l.initial.readers.one l.readers.one ms
    × MembersSoFar l.depth l.initial.readers.two l.readers.two ms2
    × MembersRenamed l.is_done l.from l.to ms ms2
    × (length l.readers.one ≤ length l.initial.readers.one)
    × (length l.readers.two ≤ length l.initial.readers.two)

abbrev pub decreases-members : goal.decreases-members
decreases-members l = length l.readers.one
