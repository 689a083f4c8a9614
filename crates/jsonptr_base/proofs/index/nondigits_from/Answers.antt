use Rattle.std.proofs.Common.{ap, sym, ◌∙◌, arith, not}
use Rattle.std.specs.Char.{is_ascii_digit}
use Rattle.jsonptr_base.proofs.CountLemmas.{counted_start, counted_more, counted_stop, counted_end}
use Rattle.jsonptr_base.proofs.index.nondigits_from.Goals.{then-loop-end-test+else-not-is_ascii_digit, else-loop-end-test}
use Rattle.jsonptr_base.proofs.index.nondigits_from.Goals as goal

pub loop-end-init : goal.loop-end-init
loop-end-init c = counted_start (λ b. not (is_ascii_digit b)) c.args.text.now c.args.offset

pub loop-end-preserved : goal.loop-end-preserved
loop-end-preserved c = counted_more (λ b. not (is_ascii_digit b)) c.args.text.now c.args.offset _ c.loop-end.invariant c.loop-end-test.true (ap not (sym c.is_ascii_digit.ensures.value ∙ c.if-not-is_ascii_digit.true))

pub overflow_sub-result : goal.overflow_sub-result
overflow_sub-result c = c.loop-end.invariant.upto

pub returns : goal.returns
returns c = elim c.loop-end-test.branch [
  | then-loop-end-test+else-not-is_ascii_digit w ↦ counted_stop (λ b. not (is_ascii_digit b)) c.args.text.now c.args.offset _ c.loop-end.invariant w.loop-end-test.true (ap not (sym w.is_ascii_digit.ensures.value ∙ w.if-not-is_ascii_digit.false))
  | else-loop-end-test w ↦ counted_end (λ b. not (is_ascii_digit b)) c.args.text.now c.args.offset _ c.loop-end.invariant (omega (arith, w.loop-end-test.false))
]
