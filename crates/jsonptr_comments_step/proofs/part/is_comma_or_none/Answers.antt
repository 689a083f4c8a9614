use Rattle.std.proofs.Common.{slice_index, eqb-true}
use Rattle.jsonptr_comments_step.proofs.CheckLemmas.{comma_from}
use Rattle.jsonptr_comments_step.proofs.part.is_comma_or_none.Goals as goal

pub returns : goal.returns
returns c = λ t.
    comma_from c.args.part.text.now c.in-Some.rest.now c.args.part.from c.args.part.to c.in-Some.ensures.span c.in-Some.ensures.rest c.if-part-ne1.false (eqb-true (slice_index c.in-Some.rest.now 0) 44 t)
