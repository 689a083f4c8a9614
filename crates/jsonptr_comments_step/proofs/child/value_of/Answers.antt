use Rattle.std.proofs.Common.{◌≡◌, ◌++◌, Option, None, option_map, IfSome, Bor, sym, ◌∙◌, subst}
use Rattle.serde_json.specs.Data.{Data}
use Rattle.jsonptr.specs.Text.{Text}
use Rattle.jsonptr_text_check.specs.Child.{IsReadAs}
use Rattle.jsonptr_text_check.specs.PrivateChild.{IsCutChild}
use Rattle.jsonptr_text_check.specs.declared.one_child.ChildText.{ChildText}
use Rattle.jsonptr_comments_step.proofs.CheckLemmas.{exact_child, empty_text}
use Rattle.jsonptr_comments_step.proofs.child.value_of.Goals as goal

pub returns-then-begins_child : goal.returns-then-begins_child
returns-then-begins_child c =
    let text = c.args.text.now in
    let parts = c.in-Some-2.parts in
    let key = option_map (λ (k : Bor Text). k.now) c.match-child.key in
    let whole = subst (λ (o : Option ChildText). IfSome o (λ p. text ≡ p.lead.now ++ (p.name.now ++ (p.value.now ++ p.trail.now)))) c.in-Some-2.is c.in_ok-parts.ensures.whole in
    let child = subst (λ (o : Option ChildText). IfSome o (λ p. (e : Data) × IsReadAs None e × IsCutChild key e text p.value.now p.trail.now)) c.in-Some-2.is c.in_ok-parts.ensures.child in
    exact_child key child.0 text parts.lead.now parts.name.now parts.value.now parts.trail.now child.2 whole (empty_text parts.trail.now (sym c.is_empty.ensures ∙ c.if-is_empty.true)) (c.begins_child.ensures c.if-begins_child.true)
