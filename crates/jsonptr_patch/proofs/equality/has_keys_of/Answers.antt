use Rattle.std.proofs.Common.{◌≡◌, [], ◌∷◌, ◌++◌, sym, ap, ◌∙◌, append_assoc, append-nil}
use Rattle.serde_json.proofs.Views.{Entry}
use Rattle.jsonptr_patch.proofs.TestingLemmas.{keys_push, key_there, key_lacks, keys_all}
use Rattle.jsonptr_patch.proofs.equality.has_keys_of.Goals as goal

pub returns-then-not-contains_key : goal.returns-then-not-contains_key
returns-then-not-contains_key c =
    let done = c.loop-key.invariant.0 in
    let e : Entry = (c.in-Some.key.now, c.in-Some._other.now) in
    let left = c.next.new.self in
    let all : c.args.others.now.entries ≡ done ++ e ∷ left = c.loop-key.invariant.1 ∙ ap (λ es. done ++ es) c.in-Some.ensures.steps in
    key_lacks c.args.members.now c.args.others.now done e left _ _ all c.iter-key-items.ensures.ordered c.as_str.ensures.value c.contains_key.ensures c.if-not-contains_key.true

pub loop-key-preserved : goal.loop-key-preserved
loop-key-preserved c =
    let done = c.loop-key.invariant.0 in
    let e : Entry = (c.in-Some.key.now, c.in-Some._other.now) in
    let left = c.next.new.self in
    let all : c.args.others.now.entries ≡ done ++ e ∷ left = c.loop-key.invariant.1 ∙ ap (λ es. done ++ es) c.in-Some.ensures.steps in
    (done ++ e ∷ [], all ∙ sym (append_assoc done (e ∷ []) left), keys_push c.args.members.now done e c.loop-key.invariant.2 (key_there c.args.members.now _ _ _ c.as_str.ensures.value c.contains_key.ensures c.if-not-contains_key.false))

pub returns : goal.returns
returns c =
    let done = c.loop-key.invariant.0 in
    let all : c.args.others.now.entries ≡ done = c.loop-key.invariant.1 ∙ ap (λ es. done ++ es) c.in-None.ensures.steps.0 ∙ append-nil done in
    keys_all c.args.members.now c.args.others.now done all c.loop-key.invariant.2
