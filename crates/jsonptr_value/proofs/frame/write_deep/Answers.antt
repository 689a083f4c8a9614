use Rattle.std.proofs.Common.{List, sym, ap, ◌∙◌, subst, arith}
use Rattle.jsonptr_value.specs.declared.frame.Frame.{Frame}
use Rattle.jsonptr_value.specs.PrivateFrames.{WritesStack, stack_length}
use Rattle.jsonptr_value.proofs.StackLemmas.{back_last, stack_length-push}
use Rattle.jsonptr_value.proofs.frame.write_deep.Goals as goal

pub loop-frame-smaller : goal.loop-frame-smaller
loop-frame-smaller c = omega (arith, c.in_ok-step.ensures.smaller, ap stack_length c.in-Some.ensures.items, stack_length-push c.pop.new.self.items c.in-Some.frame)

pub loop-frame-preserved : goal.loop-frame-preserved
loop-frame-preserved c = (
  c.step.ensures.before ∙ c.loop-frame.invariant.0,
  λ end h.
      let m = c.in_ok-step.ensures.written end h in
      c.loop-frame.invariant.1 end (subst (λ (fs : List Frame). WritesStack fs c.loop-frame.out.tokens end) (sym c.in-Some.ensures.items)
      (back_last c.pop.new.self.items c.in-Some.frame _ m.0 end m.1 m.2)),
)
