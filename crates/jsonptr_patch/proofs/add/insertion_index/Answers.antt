use Rattle.std.proofs.Common.{ap, sym, ◌∙◌, length}
use Rattle.jsonptr_patch.proofs.AddingLemmas.{no_index, above_length}
use Rattle.jsonptr_patch.proofs.add.insertion_index.Goals as goal

pub returns-in-Err-for_len_incl-clause-refused : goal.returns-in-Err-for_len_incl-clause-refused
returns-in-Err-for_len_incl-clause-refused c = λ n w named array. above_length n _ _ w _ _ _ c.in-Ok.index _ named array c.in-Ok.ensures.decoded c.in-Err-for_len_incl.ensures c.count.ensures (c.len.ensures ∙ ap length (sym c.args.array.inner.valid))

pub returns-in-Err-clause-refused : goal.returns-in-Err-clause-refused
returns-in-Err-clause-refused c = λ n w named array. no_index n _ _ w _ _ _ _ c.ranges.length.fits named array c.in-Err.ensures.decoded c.count-in-Err.ensures (c.len-in-Err.ensures ∙ ap length (sym c.args.array.inner.valid))
