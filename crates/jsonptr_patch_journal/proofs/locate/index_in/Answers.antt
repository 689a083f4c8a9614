use Rattle.jsonptr_document.proofs.ChildLemmas.{no_index_place, beyond_place}
use Rattle.jsonptr_patch_journal.proofs.locate.index_in.Goals as goal

pub returns-in-Err-for_len : goal.returns-in-Err-for_len
returns-in-Err-for_len c = (beyond_place _ _ _ _ c.in-Ok.ensures.decoded c.in-Err-for_len.ensures).none

pub returns-in-Err : goal.returns-in-Err
returns-in-Err c = (no_index_place _ _ _ c.ranges.length.fits c.in-Err.ensures.decoded).none
