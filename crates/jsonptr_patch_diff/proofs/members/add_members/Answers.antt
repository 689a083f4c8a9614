use Rattle.std.proofs.Common.{◌≡◌, [], ◌∷◌, ◌++◌, sym, ap, ◌∙◌, append_assoc, append-nil, rules}
use Rattle.serde_json.proofs.Views.{Entry}
use Rattle.serde_json.specs.View.{view}
use Rattle.serde_json.specs.declared.value.Value.{Object}
use Rattle.jsonptr_patch.proofs.TestingLemmas.{key_there}
use Rattle.jsonptr_patch_diff.specs.PrivateDiff.{tokens_of, IsChangeBelow, object_map, mixed}
use Rattle.jsonptr_patch_diff.proofs.MemberLemmas.{members_start, member_added, member_stays, members_added, member_come, key_missing}
use Rattle.jsonptr_patch_diff.proofs.ChangeLemmas.{appends_none, appends_join}
use Rattle.jsonptr_patch_diff.proofs.members.add_members.Goals as goal

pub loop-key-init : goal.loop-key-init
loop-key-init c = record {
  done = [];
  rest = search rules;
  turns = members_start (view (Object c.args.new.now)) c.args.patch.now.items (tokens_of c.args.at.now) (mixed c.args.old.now.entries (object_map c.args.old.now) (object_map c.args.new.now)) (object_map c.args.new.now);
  changes = appends_none (IsChangeBelow (tokens_of c.args.at.now) (object_map c.args.old.now) (object_map c.args.new.now)) c.args.patch.now.items;
}

pub loop-key-preserved-in-Continue-1 : goal.loop-key-preserved-in-Continue-1
loop-key-preserved-in-Continue-1 c =
    let done = c.loop-key.invariant.done in
    let e : Entry = (c.in-Some.key.now, c.in-Some.member.now) in
    let left = c.next.new.self in
    let all : c.args.new.now.entries ≡ done ++ e ∷ left = c.loop-key.invariant.rest ∙ ap (λ es. done ++ es) c.in-Some.ensures.steps in
    record {
      done = done ++ e ∷ [];
      rest = all ∙ sym (append_assoc done (e ∷ []) left);
      turns = member_added c.args.old.now c.args.new.now c.args.patch.now.items c.loop-key.patch.items c.add.new.patch.items (tokens_of c.args.at.now) done e left c.as_str-then-not-contains_key.result.now c.as_str-then-not-contains_key.ensures.value all c.iter-key-items.ensures.ordered (key_missing c.args.old.now _ _ _ c.as_str.ensures.value c.contains_key.ensures c.if-not-contains_key.true) c.loop-key.invariant.turns c.in_ok-add.ensures;
      changes = appends_join (IsChangeBelow (tokens_of c.args.at.now) (object_map c.args.old.now) (object_map c.args.new.now)) c.args.patch.now.items c.loop-key.patch.items c.add.new.patch.items c.loop-key.invariant.changes
          (member_come c.args.old.now c.args.new.now c.loop-key.patch.items c.add.new.patch.items (tokens_of c.args.at.now) done e left c.as_str-then-not-contains_key.result.now c.as_str-then-not-contains_key.ensures.value all c.iter-key-items.ensures.ordered (key_missing c.args.old.now _ _ _ c.as_str.ensures.value c.contains_key.ensures c.if-not-contains_key.true) c.in_ok-add.ensures);
    }

pub loop-key-preserved : goal.loop-key-preserved
loop-key-preserved c =
    let done = c.loop-key.invariant.done in
    let e : Entry = (c.in-Some.key.now, c.in-Some.member.now) in
    let left = c.next.new.self in
    let all : c.args.new.now.entries ≡ done ++ e ∷ left = c.loop-key.invariant.rest ∙ ap (λ es. done ++ es) c.in-Some.ensures.steps in
    record {
      done = done ++ e ∷ [];
      rest = all ∙ sym (append_assoc done (e ∷ []) left);
      turns = member_stays c.args.old.now c.args.new.now (view (Object c.args.new.now)) c.args.patch.now.items c.loop-key.patch.items (tokens_of c.args.at.now) done e (key_there c.args.old.now _ _ _ c.as_str.ensures.value c.contains_key.ensures c.if-not-contains_key.false) c.loop-key.invariant.turns;
      changes = c.loop-key.invariant.changes;
    }

pub returns-clause-turns : goal.returns-clause-turns
returns-clause-turns c =
    let done = c.loop-key.invariant.done in
    let all : c.args.new.now.entries ≡ done = c.loop-key.invariant.rest ∙ ap (λ es. done ++ es) c.in-None.ensures.steps.0 ∙ append-nil done in
    members_added c.args.old.now c.args.new.now (view (Object c.args.new.now)) c.args.patch.now.items c.loop-key.patch.items (tokens_of c.args.at.now) done all c.loop-key.invariant.turns

pub returns-clause-changes : goal.returns-clause-changes
returns-clause-changes c = c.loop-key.invariant.changes
