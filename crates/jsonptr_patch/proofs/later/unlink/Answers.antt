use Rattle.jsonptr_patch.proofs.LaterLemmas.{next_reached, next_removed}
use Rattle.jsonptr_patch.proofs.later.unlink.Goals as goal

pub unlink_one-requires : goal.unlink_one-requires
unlink_one-requires c = next_reached c.loop-one.document _ _ c.in-Some.one c.requires.0 c.in-Some.ensures.steps.0 (c.loop-one.invariant.pending c.requires.0 c.requires.1)

pub loop-one-preserved : goal.loop-one-preserved
loop-one-preserved c = record {
  pending = λ n p. next_removed c.loop-one.document c.unlink_one.new.document c.unlink_one.ensures.removed.0 _ _ c.in-Some.one n c.in-Some.ensures.steps.0 c.unlink_one.ensures.removed.1 (c.loop-one.invariant.pending n p);
  ordered = λ s. c.unlink_one.ensures.sorted (c.loop-one.invariant.ordered s);
}
