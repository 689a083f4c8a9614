use Rattle.std.proofs.Common.{◌≡◌, refl, Option, IfSome, ◌∙◌, subst}
use Rattle.serde_json.specs.Data.{string}
use Rattle.jsonptr.specs.Text.{Text}
use Rattle.jsonptr.specs.Pointer.{tokens}
use Rattle.jsonptr_text_check.specs.Child.{IsValueText}
use Rattle.jsonptr_text_step.specs.Locating.{IsLocated}
use Rattle.jsonptr_text_step.specs.declared.located.Located.{Located}
use Rattle.jsonptr_comments_step.proofs.CheckLemmas.{if_so, name_at}
use Rattle.jsonptr_comments_step.proofs.name.is_name_at.Goals as goal

pub returns : goal.returns
returns c =
    let bare = c.args.draft.now.bare.now in
    let path = tokens c.args.draft.now.pointer in
    let cut = c.in-Some-cut_name.cut in
    let l = c.in-Some-2.located in
    let located = subst (λ (o : Option Located). IfSome o (λ x. IsLocated bare path x.before.now x.value.now x.after.now)) c.in-Some-2.is c.in_ok-located.ensures in
    let key : c.as_str.result.now ≡ c.in-Some.last = c.as_str.ensures.value ∙ c.in_ok-key.ensures.text in
    if_so _ _ c.is_name.result
    (λ named. name_at bare path _ c.in-Some.last _ _ _ _ _ _ _ _ _ _ c.in-Some.ensures c.in-Some-cut_name.ensures (c.is_colon.ensures c.if-not-is_colon.false)
    (subst (λ (y : Text). IsValueText (string y) cut.name.now) key named) located refl)
    c.is_name.ensures
