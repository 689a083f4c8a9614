use Rattle.std.proofs.Common.{length}
use Rattle.jsonptr_text_layout.proofs.place.elements.Given as goal

abbrev pub decreases-elements : goal.decreases-elements
decreases-elements l = length l.reader
