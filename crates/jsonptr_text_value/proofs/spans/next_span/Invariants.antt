use Rattle.std.proofs.Common.{◌<◌, length}
use Rattle.jsonptr_text_value.proofs.spans.next_span.Given as goal

abbrev pub invariant-members : goal.invariant-members
invariant-members l = length l.reader < length l.fn.reader

abbrev pub decreases-members : goal.decreases-members
decreases-members l = length l.reader
