use Rattle.std.proofs.Common.{◌+◌, ◌*◌, ◌≤◌, length}
use Rattle.jsonptr_text_relayout.proofs.tree.+read.Given as goal

abbrev pub decreases-read_node : goal.decreases-read_node
decreases-read_node l = 3 * l.depth + 2

abbrev pub decreases-read_parts : goal.decreases-read_parts
decreases-read_parts l = 3 * l.depth + 1

abbrev pub decreases-read_elements : goal.decreases-read_elements
decreases-read_elements l = 3 * l.depth + 3

abbrev pub decreases-read_members : goal.decreases-read_members
decreases-read_members l = 3 * l.depth + 3

abbrev pub invariant-read_elements-elements : goal.invariant-read_elements-elements
invariant-read_elements-elements l = length l.reader ≤ length l.initial.reader

abbrev pub decreases-read_elements-elements : goal.decreases-read_elements-elements
decreases-read_elements-elements l = length l.reader

abbrev pub invariant-read_members-members : goal.invariant-read_members-members
invariant-read_members-members l = length l.reader ≤ length l.initial.reader

abbrev pub decreases-read_members-members : goal.decreases-read_members-members
decreases-read_members-members l = length l.reader
