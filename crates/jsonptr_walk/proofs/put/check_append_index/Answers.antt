use Rattle.jsonptr_walk.proofs.AssignLemmas.{no_index_place, above_place}
use Rattle.jsonptr_walk.proofs.put.check_append_index.Goals as goal

pub returns-in-Err-for_len_incl-clause-refused : goal.returns-in-Err-for_len_incl-clause-refused
returns-in-Err-for_len_incl-clause-refused c = record {
  none = above_place c.args.length c.args.token.now c.in-Ok.index c.in-Err-for_len_incl.source c.in-Ok.ensures.decoded c.in-Err-for_len_incl.ensures;
  position_is = c.count.ensures;
  offset_is = c.len.ensures.tokens;
  why = (c.in-Ok.index, c.in-Ok.ensures.decoded, c.in-Err-for_len_incl.ensures);
}

pub returns-in-Err-clause-refused : goal.returns-in-Err-clause-refused
returns-in-Err-clause-refused c = record {
  none = no_index_place c.args.length c.args.token.now c.in-Err.source c.ranges.length.fits c.in-Err.ensures.decoded;
  position_is = c.count-in-Err.ensures;
  offset_is = c.len-in-Err.ensures.tokens;
  why = c.in-Err.ensures.decoded;
}
