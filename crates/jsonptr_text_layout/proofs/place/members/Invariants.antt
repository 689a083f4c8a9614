use Rattle.std.proofs.Common.{length}
use Rattle.jsonptr_text_layout.proofs.place.members.Given as goal

abbrev pub decreases-members : goal.decreases-members
decreases-members l = length l.reader
