use Rattle.std.proofs.Common.{◌≡◌, ◌+◌, ◌<◌, Result, IfOk, OnOk, sym, ap, ◌∙◌, subst, arith}
use Rattle.serde_json.specs.View.{view}
use Rattle.std.specs.declared.alloc.AllocError.{AllocError}
use Rattle.jsonptr_value.specs.declared.partial.Step.{Step}
use Rattle.jsonptr_value.specs.declared.partial.Step.TheVariants.{Copy}
use Rattle.jsonptr_value.specs.PrivatePartial.{ArePartial, filled, partial_length, data_of, completed, step_length, copies_length}
use Rattle.jsonptr_value.proofs.PartialLemmas.{completed-push, partial-pop, copies_length-push}
use Rattle.jsonptr_value.proofs.partial.copy_deep.Goals as goal
use Rattle.jsonptr_value.proofs.partial.copy_deep.Goals.{in-Copy, in-Attach+in-Some}

pub resume-requires : goal.resume-requires
resume-requires c = (partial-pop c.pop.new.self.items c.in-Some.partial (subst ArePartial c.in-Some.ensures.items c.loop-step.invariant.1)).1

pub loop-step-smaller : goal.loop-step-smaller
loop-step-smaller c = elim c.match-step.branch [
  | in-Copy w ↦
      let new = w.begin-next.new.stack.items in
      let old = c.loop-step.stack.items in
      let less : step_length c.in-Ok.next + copies_length new < step_length (Copy w.in-Copy.value) + copies_length old =
      subst (λ (r : Result Step AllocError). IfOk r (λ step. step_length step + copies_length new < step_length (Copy w.in-Copy.value) + copies_length old)) (sym w.next-is ∙ c.in-Ok.is) w.begin-next.ensures.smaller in
      omega (arith, less, ap (λ s. copies_length s.items) w.stack-is, ap step_length w.in-Copy.is)
  | in-Attach+in-Some w ↦
      let new = w.resume.new.stack.items in
      let old = w.pop.new.self.items in
      let less : step_length c.in-Ok.next + copies_length new < 1 + partial_length w.in-Some.partial + copies_length old =
      subst (λ (r : Result Step AllocError). IfOk r (λ step. step_length step + copies_length new < 1 + partial_length w.in-Some.partial + copies_length old)) (sym w.next-is ∙ c.in-Ok.is) w.resume.ensures.smaller in
      omega (arith, less, ap (λ s. copies_length s.items) w.stack-is, ap step_length w.in-Attach.is, ap copies_length w.in-Some.ensures.items, copies_length-push old w.in-Some.partial)
]

pub loop-step-preserved : goal.loop-step-preserved
loop-step-preserved c = elim c.match-step.branch [
  | in-Copy w ↦
      let new = w.begin-next.new.stack.items in
      let old = c.loop-step.stack.items in
      let same : completed new (data_of c.in-Ok.next) ≡ completed old (view w.in-Copy.value.now) =
      subst (λ (r : Result Step AllocError). IfOk r (λ step. completed new (data_of step) ≡ completed old (view w.in-Copy.value.now))) (sym w.next-is ∙ c.in-Ok.is) w.begin-next.ensures.completed in
      let kept : ArePartial old → ArePartial new = subst (λ (r : Result Step AllocError). OnOk r (ArePartial old → ArePartial new)) (sym w.next-is ∙ c.in-Ok.is) w.begin-next.ensures.partial in
      rw w.stack-is (
        same ∙ ap (λ t. completed old (data_of t)) (sym w.in-Copy.is) ∙ c.loop-step.invariant.0,
        kept c.loop-step.invariant.1,
      )
  | in-Attach+in-Some w ↦
      let new = w.resume.new.stack.items in
      let old = w.pop.new.self.items in
      let d = view w.in-Attach.copied in
      let partial = partial-pop old w.in-Some.partial (subst ArePartial w.in-Some.ensures.items c.loop-step.invariant.1) in
      let same : completed new (data_of c.in-Ok.next) ≡ completed old (filled w.in-Some.partial d) =
      subst (λ (r : Result Step AllocError). IfOk r (λ step. completed new (data_of step) ≡ completed old (filled w.in-Some.partial d))) (sym w.next-is ∙ c.in-Ok.is) w.resume.ensures.completed in
      let kept : ArePartial old → ArePartial new = subst (λ (r : Result Step AllocError). OnOk r (ArePartial old → ArePartial new)) (sym w.next-is ∙ c.in-Ok.is) w.resume.ensures.partial in
      rw w.stack-is (
        same ∙ sym (completed-push old w.in-Some.partial d) ∙ ap (λ hs. completed hs d) (sym w.in-Some.ensures.items)
            ∙ ap (λ t. completed c.loop-step.stack.items (data_of t)) (sym w.in-Attach.is) ∙ c.loop-step.invariant.0,
        kept partial.0,
      )
]
