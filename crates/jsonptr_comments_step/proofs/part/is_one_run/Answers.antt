use Rattle.std.proofs.Common.{◌-◌, refl, sym}
use Rattle.jsonptr_comments_step.proofs.CheckLemmas.{one_run_from}
use Rattle.jsonptr_comments_step.proofs.part.is_one_run.Goals as goal

pub returns : goal.returns
returns c = λ t.
    let one = c.args.one in
    let two = c.args.two in
    one_run_from one.text.now c.in-Some.rest.now one.from one.to two.text.now c.in-Some-from_part.other.now two.from two.to (one.to - one.from)
    c.in-Some.ensures.span c.in-Some-from_part.ensures.span c.in-Some.ensures.rest c.in-Some-from_part.ensures.rest refl (sym c.if-two-length.false) (c.common_pieces.ensures t)
