use Rattle.std.proofs.Common.{◌+◌, ◌*◌}
use Rattle.jsonptr_text_relayout.proofs.lay.Layer.+fresh.Given as goal

abbrev pub decreases-fresh : goal.decreases-fresh
decreases-fresh l = 2 * l.depth

abbrev pub decreases-fresh_lines : goal.decreases-fresh_lines
decreases-fresh_lines l = 2 * l.depth + 1

abbrev pub decreases-fresh_line : goal.decreases-fresh_line
decreases-fresh_line l = 2 * l.depth + 1
