use Rattle.std.proofs.Common.{◌≡◌, ◌++◌, Option, IfSome, option_map, sym, ap, ◌∙◌, subst}
use Rattle.jsonptr_text_check.specs.PrivateChild.{IsNameIf}
use Rattle.jsonptr_text_check.specs.declared.one_child.NamedValue.{NamedValue}
use Rattle.jsonptr_text_check.proofs.ChildTextLemmas.{child_parts}
use Rattle.jsonptr_text_check.proofs.one_child.one_child.Goals as goal

pub returns-clause-child : goal.returns-clause-child
returns-clause-child c =
    let p = c.in-Some.parts in
    let child = c.in-Some-2.child in
    let key = option_map (λ k. k.now) c.args.key in
    let whole = subst (λ (o : Option NamedValue). IfSome o (λ n. p.middle.now ≡ n.name.now ++ n.value.now)) c.in-Some-2.is c.in_ok-child.ensures.whole in
    let named = subst (λ (o : Option NamedValue). IfSome o (λ n. IsNameIf key n.name.now)) c.in-Some-2.is c.in_ok-child.ensures.named in
    let v = c.in_ok-is_value.ensures.value c.if-not-branch.false in
    (v.0, v.1, child_parts key v.0 c.args.text.now p.before.now child.name.now child.value.now p.after.now (sym c.in-Some.ensures ∙ p.whole ∙ ap (λ m. p.before.now ++ (m ++ p.after.now)) whole) (c.have_one_comma.ensures c.if-not-have_one_comma.false) named v.2)
