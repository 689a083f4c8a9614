use Rattle.std.proofs.Common.{◌≡◌, [], ◌∷◌, ◌++◌, rules, true≢false, sym, ap, ◌∙◌, append_assoc}
use Rattle.std.specs.BTreeMap.{get_by_text}
use Rattle.serde_json.proofs.Views.{Entry}
use Rattle.jsonptr_patch_diff.proofs.MemberLemmas.{same_has, same_value}
use Rattle.jsonptr_patch_diff.proofs.similarity.members_are_alike.Goals as goal

pub loop-key-init : goal.loop-key-init
loop-key-init c = record {
  done = [];
  rest = search rules;
}

pub loop-key-preserved : goal.loop-key-preserved
loop-key-preserved c =
    let done = c.loop-key.invariant.done in
    let e : Entry = (c.in-Some.key.now, c.in-Some.member.now) in
    let all : c.args.left.now.entries ≡ done ++ e ∷ c.next.new.self = c.loop-key.invariant.rest ∙ ap (λ es. done ++ es) c.in-Some.ensures.steps in
    record { done = done ++ e ∷ []; rest = all ∙ sym (append_assoc done (e ∷ []) c.next.new.self) }

pub loop-key-preserved-else-not-is_same : goal.loop-key-preserved-else-not-is_same
loop-key-preserved-else-not-is_same c =
    let done = c.loop-key.invariant.done in
    let e : Entry = (c.in-Some.key.now, c.in-Some.member.now) in
    let all : c.args.left.now.entries ≡ done ++ e ∷ c.next.new.self = c.loop-key.invariant.rest ∙ ap (λ es. done ++ es) c.in-Some.ensures.steps in
    record { done = done ++ e ∷ []; rest = all ∙ sym (append_assoc done (e ∷ []) c.next.new.self) }

pub returns-in_default : goal.returns-in_default
returns-in_default c = λ same.
    let done = c.loop-key.invariant.done in
    let e : Entry = (c.in-Some.key.now, c.in-Some.member.now) in
    let all : c.args.left.now.entries ≡ done ++ e ∷ c.next.new.self = c.loop-key.invariant.rest ∙ ap (λ es. done ++ es) c.in-Some.ensures.steps in
    absurd (same_has c.args.left.now c.args.right.now done e c.next.new.self all c.iter-key-items.ensures.ordered (sym (c.in_default.ensures.value ∙ ap (get_by_text c.args.right.now) c.as_str.ensures.value)) same)

pub returns-then-not-is_same : goal.returns-then-not-is_same
returns-then-not-is_same c = λ same.
    let done = c.loop-key.invariant.done in
    let e : Entry = (c.in-Some.key.now, c.in-Some.member.now) in
    let all : c.args.left.now.entries ≡ done ++ e ∷ c.next.new.self = c.loop-key.invariant.rest ∙ ap (λ es. done ++ es) c.in-Some.ensures.steps in
    let here = same_value c.args.left.now c.args.right.now done e c.next.new.self all c.iter-key-items.ensures.ordered c.in-Some-get.other.now (sym (c.in-Some-get.ensures.value ∙ ap (get_by_text c.args.right.now) c.as_str.ensures.value)) same in
    absurd (true≢false (sym (c.is_same.ensures.1 here) ∙ c.if-not-is_same.true))
