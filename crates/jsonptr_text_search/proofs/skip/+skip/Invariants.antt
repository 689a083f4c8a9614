use Rattle.std.proofs.Common.{◌+◌, ◌*◌, ◌≤◌, List, length}
use Rattle.serde_json.specs.Data.{Data, Members}
use Rattle.jsonptr_text_search.specs.PrivateReading.{ItemsSoFar, MembersSoFar}
use Rattle.jsonptr_text_search.proofs.skip.+skip.Given as goal

abbrev pub decreases-skip : goal.decreases-skip
decreases-skip l = 2 * l.depth

abbrev pub decreases-skip_elements : goal.decreases-skip_elements
decreases-skip_elements l = 2 * l.depth + 1

abbrev pub decreases-skip_members : goal.decreases-skip_members
decreases-skip_members l = 2 * l.depth + 1

abbrev pub invariant-skip_elements-elements : goal.invariant-skip_elements-elements
invariant-skip_elements-elements l = (before : List Data) × ItemsSoFar l.depth l.initial.reader l.reader before × (length l.reader ≤ length l.initial.reader)

abbrev pub decreases-skip_elements-elements : goal.decreases-skip_elements-elements
decreases-skip_elements-elements l = length l.reader

abbrev pub invariant-skip_members-members : goal.invariant-skip_members-members
invariant-skip_members-members l = (found : Members) × MembersSoFar l.depth l.initial.reader l.reader found × (length l.reader ≤ length l.initial.reader)

abbrev pub decreases-skip_members-members : goal.decreases-skip_members-members
decreases-skip_members-members l = length l.reader
