use Rattle.jsonptr_document.proofs.ChildLemmas.{no_index_place}
use Rattle.jsonptr_document.proofs.child.index_in.Goals as goal

pub returns-in-Err-clause-no_index : goal.returns-in-Err-clause-no_index
returns-in-Err-clause-no_index c = no_index_place _ _ _ c.ranges.length.fits c.in-Err.ensures.decoded
