use Rattle.std.proofs.Common.{◌+◌, ◌*◌}
use Rattle.jsonptr_value.proofs.json_nested.+discarding.Given as goal

abbrev pub decreases-discard_value : goal.decreases-discard_value
decreases-discard_value l = 2 * l.levels

abbrev pub decreases-discard_elements : goal.decreases-discard_elements
decreases-discard_elements l = 2 * l.levels + 1

abbrev pub decreases-discard_members : goal.decreases-discard_members
decreases-discard_members l = 2 * l.levels + 1
