use Rattle.std.proofs.Common.{◌∙◌, arith}
use Rattle.jsonptr_text_digits.proofs.DigitLemmas.{one_zero}
use Rattle.jsonptr_text_digits.proofs.digits.without_zeros.Goals as goal

pub loop-end-preserved : goal.loop-end-preserved
loop-end-preserved c = (omega arith, c.loop-end.invariant.1 ∙ one_zero c.args.digits.now c.loop-end.end (omega arith) (omega arith) (omega arith))
