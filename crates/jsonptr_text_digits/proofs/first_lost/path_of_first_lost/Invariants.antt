use Rattle.std.proofs.Common.{length}
use Rattle.jsonptr_text_digits.proofs.first_lost.path_of_first_lost.Given as goal

abbrev pub decreases-loop-token : goal.decreases-loop-token
decreases-loop-token l = length l.reader
