use Rattle.std.proofs.Common.{Option, IfSome, Bor, subst, arith}
use Rattle.jsonptr.specs.Text.{Text}
use Rattle.jsonptr.specs.Pointer.{tokens}
use Rattle.jsonptr_text_step.specs.Locating.{IsLocated}
use Rattle.jsonptr_text_step.specs.declared.located.Located.{Located}
use Rattle.jsonptr_comments_step.specs.PrivateChecking.{IsExactChild}
use Rattle.jsonptr_comments_step.proofs.CheckLemmas.{child_at}
use Rattle.jsonptr_comments_step.proofs.child.is_child_at.Goals as goal

pub returns : goal.returns
returns c = λ t.
    let bare = c.args.draft.now.bare.now in
    let path = tokens c.args.draft.now.pointer in
    let span = c.args.child.now.at.span in
    let cut = c.in-Some.cut in
    let value = c.in-Some-2.value.now in
    let l = c.in-Some-3.located in
    let exact = subst (λ (o : Option (Bor Text)). IfSome o (λ v. IsExactChild cut.child.now v.now)) c.in-Some-2.is c.in_ok-value.ensures in
    let located = subst (λ (o : Option Located). IfSome o (λ x. IsLocated bare path x.before.now x.value.now x.after.now)) c.in-Some-3.is c.in_ok-located.ensures in
    child_at bare path c.args.draft.now.replaced.from span.from span.to c.args.draft.now.replaced.to cut.before.now cut.lead.now cut.child.now cut.trail.now cut.after.now value l.before.now l.value.now l.after.now
    c.in-Some.ensures (c.have_one_comma.ensures c.if-not-have_one_comma.false) exact located (omega (arith, (c.is_at.ensures t).0, c.saturating_sub-from.ensures)) (omega (arith, (c.is_at.ensures t).1, c.saturating_sub-from.ensures))
