use Rattle.std.proofs.Common.{◌≡◌, [], ◌∷◌, ◌++◌, Option, Some, String, IfSome, option_map, Bor, string_bytes, sym, ap, ◌∙◌, subst, arith}
use Rattle.std.specs.declared.alloc.Global.{Global}
use Rattle.json.specs.Lex.{tokens as lexed}
use Rattle.serde_json.specs.Data.{Data}
use Rattle.serde_json.specs.Read.{read}
use Rattle.jsonptr.specs.Text.{Text}
use Rattle.jsonptr.specs.Pointer.{tokens}
use Rattle.jsonptr_text_check.specs.PrivateChild.{IsCutChild}
use Rattle.jsonptr_text_check.specs.declared.one_child.ChildText.{ChildText}
use Rattle.jsonptr_text_step.specs.Placing.{IsAt}
use Rattle.jsonptr_text_step.proofs.BytesLemmas.{piece_added}
use Rattle.jsonptr_text_step.proofs.insert.put_child.Goals as goal

pub returns-then-branch-clause-bytes : goal.returns-then-branch-clause-bytes
returns-then-branch-clause-bytes c =
    let old = c.args.site.now.text.now in
    let cut = c.in-Some.cut in
    let before = cut.before.now in
    let after = cut.after.now in
    let piece = c.as_str-added.result.now in
    let parts = c.in-Some-2.parts in
    let new = string_bytes c.in-Some-3.new in
    let flat = c.args.child.value.now in
    let key = option_map (λ (k : Bor Text). k.now) c.args.child.key in
    let path = tokens c.args.site.now.pointer ++ c.args.child.token.now ∷ [] in
    let whole = subst (λ (o : Option ChildText). IfSome o (λ p. piece ≡ p.lead.now ++ (p.name.now ++ (p.value.now ++ p.trail.now)))) c.in-Some-2.is c.in_ok-parts.ensures.whole in
    let child = subst (λ (o : Option ChildText). IfSome o (λ p. (e : Data) × (read flat ≡ Some e) × IsCutChild key e piece p.value.now p.trail.now)) c.in-Some-2.is c.in_ok-parts.ensures.child in
    let same = subst (λ (o : Option ChildText). IfSome o (λ p. lexed p.value.now ≡ lexed flat)) c.in-Some-2.is c.in_ok-parts.ensures.same in
    let made = subst (λ (o : Option (String Global)). IfSome o (λ s. string_bytes s ≡ before ++ (piece ++ after))) c.in-Some-3.is c.in_ok-new.ensures.spliced in
    let there : c.as_str.result.now ≡ before ++ ((parts.lead.now ++ (parts.name.now ++ (parts.value.now ++ parts.trail.now))) ++ after) = c.as_str.ensures.value ∙ made ∙ ap (λ (p : Text). before ++ (p ++ after)) whole in
    piece_added old new before cut.middle.now after piece parts.value.now parts.trail.now flat path key (sym c.in-Some.ensures ∙ cut.whole) made (c.is_blank.ensures (grind arith)) child same
    (subst (λ (t : Text). IsAt t path parts.value.now (parts.trail.now ++ after)) c.as_str.ensures.value (c.in_ok-is_child_after.ensures after there c.if-branch.true))
