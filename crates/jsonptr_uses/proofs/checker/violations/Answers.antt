use Rattle.std.proofs.Common.{sym, ap, subst, ◌∙◌}
use Rattle.std.proofs.lemmas.Bool.{false≢true}
use Rattle.std.proofs.lemmas.List.{take_all}
use Rattle.serde_json.specs.View.{view}
use Rattle.jsonptr_uses.specs.Checking.{IsMet, AreFailing}
use Rattle.jsonptr_uses.proofs.CheckingLemmas.{failing_met_at, failing_at, none_failing}
use Rattle.jsonptr_uses.proofs.checker.violations.Goals as goal
use Rattle.jsonptr_uses.proofs.checker.violations.Goals.{then-not-branch+in_ok-push, else-not-branch}

pub loop-requirement-preserved : goal.loop-requirement-preserved
loop-requirement-preserved c =
    let answer_of = c.in_ok-is_met.ensures in
    elim c.if-not-branch.branch [
      | then-not-branch+in_ok-push w ↦ failing_at (IsMet (view c.args.document.now)) c.args.required.now c.loop-requirement.requirement-index c.requirement-item.result _ _ c.loop-requirement-test.true c.requirement-item.is c.loop-requirement.invariant (λ met. false≢true (sym w.if-not-branch.true ∙ answer_of.1 met)) (ap (λ v. v.items) w.failing-is ∙ w.in_ok-push.ensures.items)
      | else-not-branch w ↦ failing_met_at (IsMet (view c.args.document.now)) c.args.required.now c.loop-requirement.requirement-index c.requirement-item.result _ _ c.loop-requirement-test.true c.requirement-item.is c.loop-requirement.invariant (answer_of.0 w.if-not-branch.false) (ap (λ v. v.items) w.failing-is)
    ]

pub returns-clause-none : goal.returns-clause-none
returns-clause-none c =
    let P = IsMet (view c.args.document.now) in
    none_failing P c.args.required.now c.loop-requirement.failing.items
    (subst (λ xs. AreFailing P xs c.loop-requirement.failing.items) (take_all c.loop-requirement.requirement-index c.args.required.now c.loop-requirement-test.false) c.loop-requirement.invariant)
