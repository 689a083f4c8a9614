use Rattle.std.proofs.Common.{◌+◌, ◌*◌, ◌≤◌, length}
use Rattle.jsonptr_text_layout.proofs.place.+find.Given as goal

abbrev pub decreases-find : goal.decreases-find
decreases-find l = 2 * l.depth

abbrev pub decreases-find_element : goal.decreases-find_element
decreases-find_element l = 2 * l.depth + 1

abbrev pub decreases-find_member : goal.decreases-find_member
decreases-find_member l = 2 * l.depth + 1

abbrev pub invariant-find_element-elements : goal.invariant-find_element-elements
invariant-find_element-elements l = length l.search.reader ≤ length l.initial.search.reader

abbrev pub decreases-find_element-elements : goal.decreases-find_element-elements
decreases-find_element-elements l = length l.search.reader

abbrev pub invariant-find_member-members : goal.invariant-find_member-members
invariant-find_member-members l = length l.search.reader ≤ length l.initial.search.reader

abbrev pub decreases-find_member-members : goal.decreases-find_member-members
decreases-find_member-members l = length l.search.reader
