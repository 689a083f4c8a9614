use Rattle.std.proofs.Common.{◌≡◌, [], ◌∷◌, ◌++◌, Option, IfSome, option_map, Bor, string_bytes, sym, ap, ◌∙◌, subst}
use Rattle.serde_json.specs.Data.{Data}
use Rattle.jsonptr.specs.Text.{Text}
use Rattle.jsonptr.specs.Pointer.{tokens}
use Rattle.jsonptr_text_check.specs.Child.{IsReadAs}
use Rattle.jsonptr_text_check.specs.PrivateChild.{IsCutChild}
use Rattle.jsonptr_text_check.specs.declared.one_child.ChildText.{ChildText}
use Rattle.jsonptr_text_step.proofs.BytesLemmas.{child_cut}
use Rattle.jsonptr_text_step.proofs.remove.cut_child.Goals as goal

pub returns : goal.returns
returns c =
    let old = c.args.text.now in
    let cut = c.in-Some-cut_at.cut in
    let before = cut.before.now in
    let middle = cut.middle.now in
    let after = cut.after.now in
    let parts = c.in-Some-2.parts in
    let key = option_map (λ (k : Bor Text). k.now) c.args.removed.key in
    let given = option_map (λ (t : Bor Text). t.now) c.args.removed.value in
    let path = tokens c.args.removed.at.pointer ++ c.args.removed.at.token.now ∷ [] in
    let is : old ≡ before ++ (middle ++ after) = sym c.in-Some-cut_at.ensures ∙ cut.whole in
    let whole = subst (λ (o : Option ChildText). IfSome o (λ p. middle ≡ p.lead.now ++ (p.name.now ++ (p.value.now ++ p.trail.now)))) c.in-Some-2.is c.in_ok-parts.ensures.whole in
    let child = subst (λ (o : Option ChildText). IfSome o (λ p. (e : Data) × IsReadAs given e × IsCutChild key e middle p.value.now p.trail.now)) c.in-Some-2.is c.in_ok-parts.ensures.child in
    let there : old ≡ before ++ ((parts.lead.now ++ (parts.name.now ++ (parts.value.now ++ parts.trail.now))) ++ after) = is ∙ ap (λ (p : Text). before ++ (p ++ after)) whole in
    (child.0, child.1, child_cut old (string_bytes c.in_ok-text.text) before middle after parts.value.now parts.trail.now path key child.0 is c.in_ok-text.ensures child.2 (c.in_ok-is_child_after.ensures after there c.if-not-branch.false))
