use Rattle.std.proofs.Common.{rules, arith}
use Rattle.jsonptr_syntax.proofs.CutFirst.{begins_valid}
use Rattle.jsonptr_syntax.proofs.CutCount.{skipped_none, skipped_begins, skipped_more, skipped_few, skipped_all, skipped_shorter}
use Rattle.jsonptr_syntax.proofs.boundary.end_of.Goals as goal

pub loop-init : goal.loop-init
loop-init c = record { utf8 = search rules; so_far = skipped_none _ c.requires }

pub split_first-requires : goal.split_first-requires
split_first-requires c = begins_valid _ (skipped_begins _ c.requires _ _ c.loop.invariant.so_far)

pub returns-in_err-after : goal.returns-in_err-after
returns-in_err-after c = rw c.from_residual.ensures (skipped_few _ c.requires _ _ _ c.loop.invariant.so_far c.in_err-after.ensures (omega arith))

pub loop-preserved : goal.loop-preserved
loop-preserved c = record { utf8 = search rules; so_far = skipped_more _ c.requires _ _ _ _ c.loop.invariant.so_far c.in_ok-after.ensures }

pub overflow_sub-result : goal.overflow_sub-result
overflow_sub-result c = skipped_shorter _ _ _ c.loop.invariant.so_far

pub returns : goal.returns
returns c = skipped_all _ _ _ _ c.loop.invariant.so_far (omega arith)
