use Rattle.std.proofs.Common.{length}
use Rattle.jsonptr_text_value.proofs.spans.spans_in.Given as goal

abbrev pub decreases-operations : goal.decreases-operations
decreases-operations l = length l.reader
