use Rattle.std.proofs.Common.{List, sym, subst}
use Rattle.serde_json.specs.View.{view}
use Rattle.jsonptr.specs.Pointer.{tokens}
use Rattle.jsonptr_patch_journal.specs.declared.location.LocationStep.{LocationStep}
use Rattle.jsonptr_patch_journal.proofs.LocatingLemmas.{Reaches, reaches_more, reaches_nothing}
use Rattle.jsonptr_patch_journal.proofs.locate.find.Goals as goal

pub returns-in_default-2 : goal.returns-in_default-2
returns-in_default-2 c = reaches_nothing _ _ _ _ _ _ (rw c.in-Some.ensures at c.loop-token.invariant) (rw c.in_default-2.is at c.in_ok-child.ensures)

pub loop-token-preserved-in_ok-push : goal.loop-token-preserved-in_ok-push
loop-token-preserved-in_ok-push c =
    let child = rw c.in-Some-2.is at c.in_ok-child.ensures in
    subst (λ (ps : List LocationStep). Reaches (view c.args.document.now) (tokens c.args.pointer) (tokens c.in-Some.after) ps (view c.in-Some-2.child.node.now)) (sym c.in_ok-push.ensures.items)
    (reaches_more _ _ _ _ _ _ (rw c.in-Some.ensures at c.loop-token.invariant) c.in-Some-2.child.step (view c.in-Some-2.child.node.now) child.named child.there)

pub loop-token-preserved : goal.loop-token-preserved
loop-token-preserved c =
    let child = rw c.in-Some-2.is at c.in_ok-child.ensures in
    subst (λ (ps : List LocationStep). Reaches (view c.args.document.now) (tokens c.args.pointer) (tokens c.in-Some.after) ps (view c.in-Some-2.child.node.now)) (sym c.in_ok-push.ensures.items)
    (reaches_more _ _ _ _ _ _ (rw c.in-Some.ensures at c.loop-token.invariant) c.in-Some-2.child.step (view c.in-Some-2.child.node.now) child.named child.there)
