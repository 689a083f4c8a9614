use Rattle.std.proofs.Common.{length}
use Rattle.jsonptr_text_step.proofs.at_offset.path_to.Given as goal

abbrev pub decreases-tokens : goal.decreases-tokens
decreases-tokens l = length l.reader
