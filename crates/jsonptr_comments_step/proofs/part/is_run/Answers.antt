use Rattle.jsonptr_comments_step.proofs.CheckLemmas.{run_from}
use Rattle.jsonptr_comments_step.proofs.part.is_run.Goals as goal

pub returns : goal.returns
returns c = λ t.
    run_from c.args.allowed c.args.part.text.now c.in-Some.rest.now c.args.part.from c.args.part.to c.in-Some.ensures.span c.in-Some.ensures.rest (c.are_pieces.ensures t)
