use Rattle.std.proofs.Common.{◌+◌, ◌*◌}
use Rattle.jsonptr_text_relayout.proofs.lay.Layer.+lay.Given as goal

abbrev pub decreases-lay : goal.decreases-lay
decreases-lay l = 4 * l.depth

abbrev pub decreases-lay_children : goal.decreases-lay_children
decreases-lay_children l = 4 * l.depth + 3

abbrev pub decreases-lay_child : goal.decreases-lay_child
decreases-lay_child l = 4 * l.depth + 2

abbrev pub decreases-keep_child : goal.decreases-keep_child
decreases-keep_child l = 4 * l.depth + 1
