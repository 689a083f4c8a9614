use Rattle.std.proofs.Common.{◌≡◌, ◌++◌, [], List, IfOk, IfSome, inl, inr, string_bytes, sym, ap, ◌∙◌, subst, append-nil, arith}
use Rattle.jsonptr.specs.Text.{Text}
use Rattle.jsonptr.specs.Pointer.{tokens}
use Rattle.jsonptr.specs.Json.{nodes}
use Rattle.jsonptr_text_value.specs.Raw.{value_of_raw}
use Rattle.jsonptr_text_step.specs.EditInText.{AssignsInText}
use Rattle.jsonptr_text_step.specs.Giving.{AssignsGiven}
use Rattle.jsonptr_text_step.specs.PrivateGiving.{ReplacesWith, ExpandsWith, AddsWith}
use Rattle.jsonptr_text_step.proofs.EditLemmas.{if_new}
use Rattle.jsonptr_text_step.proofs.assign.assign_from.Goals as goal

pub returns-clause-assigned : goal.returns-clause-assigned
returns-clause-assigned c =
    subst (λ (ts : List Text). IfOk c.assign_scalar.result (λ o. IfSome o (λ s. AssignsInText c.args.site.now.text.now (tokens c.args.site.now.pointer ++ ts) (nodes (value_of_raw c.args.raw.now)) (string_bytes s.text)))) (sym c.in-Some.ensures)
    (c.assign_scalar.ensures.assigned c.in-Some.token (tokens c.in-Some.after) c.in-Some.ensures)

pub returns-in_default-clause-assigned : goal.returns-in_default-clause-assigned
returns-in_default-clause-assigned c =
    let root : tokens c.args.rest ≡ [] = grind arith in
    subst (λ (ts : List Text). IfOk c.assign_there.result (λ o. IfSome o (λ s. AssignsInText c.args.site.now.text.now ts (nodes (value_of_raw c.args.raw.now)) (string_bytes s.text))))
    (sym (ap (λ (ts : List Text). tokens c.args.site.now.pointer ++ ts) root ∙ append-nil (tokens c.args.site.now.pointer)))
    c.assign_there.ensures.assigned

pub returns-then-starts_with-2-clause-bytes : goal.returns-then-starts_with-2-clause-bytes
returns-then-starts_with-2-clause-bytes c =
    let old = c.args.site.now.text.now in
    let front = tokens c.args.site.now.pointer in
    let x = c.in-Some.token in
    let after = tokens c.in-Some.after in
    let raw = c.args.raw.now in
    if_new c.assign_child.result
    (λ s. AddsWith raw old (string_bytes s.text) front x after)
    (λ s. AssignsGiven old (front ++ tokens c.args.rest) raw (string_bytes s.text))
    (λ s h. (inr (front, x, after, ap (λ (ts : List Text). front ++ ts) c.in-Some.ensures, inr h.0), h.1))
    c.assign_child.ensures.bytes

pub returns-clause-bytes : goal.returns-clause-bytes
returns-clause-bytes c =
    let old = c.args.site.now.text.now in
    let front = tokens c.args.site.now.pointer in
    let x = c.in-Some.token in
    let after = tokens c.in-Some.after in
    let raw = c.args.raw.now in
    if_new c.assign_scalar.result
    (λ s. ExpandsWith raw old (string_bytes s.text) front (tokens c.args.rest))
    (λ s. AssignsGiven old (front ++ tokens c.args.rest) raw (string_bytes s.text))
    (λ s h. let k = subst (λ (ts : List Text). ExpandsWith raw old (string_bytes s.text) front ts) c.in-Some.ensures h in
    (inr (front, x, after, ap (λ (ts : List Text). front ++ ts) c.in-Some.ensures, inl k.0), k.1))
    c.assign_scalar.ensures.bytes

pub returns-in_default-clause-bytes : goal.returns-in_default-clause-bytes
returns-in_default-clause-bytes c =
    let old = c.args.site.now.text.now in
    let front = tokens c.args.site.now.pointer in
    let raw = c.args.raw.now in
    let root : tokens c.args.rest ≡ [] = grind arith in
    let all : front ++ tokens c.args.rest ≡ front = ap (λ (ts : List Text). front ++ ts) root ∙ append-nil front in
    if_new c.assign_there.result
    (λ s. ReplacesWith raw old (string_bytes s.text) front)
    (λ s. AssignsGiven old (front ++ tokens c.args.rest) raw (string_bytes s.text))
    (λ s h. let k = subst (λ (ts : List Text). ReplacesWith raw old (string_bytes s.text) ts) (sym all) h in (inl k.0, k.1))
    c.assign_there.ensures.bytes
