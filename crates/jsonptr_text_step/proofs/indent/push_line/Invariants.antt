use Rattle.std.proofs.Common.{length}
use Rattle.jsonptr_text_step.proofs.indent.push_line.Given as goal

abbrev pub decreases-levels : goal.decreases-levels
decreases-levels l = length l.rest
