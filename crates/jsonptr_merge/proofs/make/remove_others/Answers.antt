use Rattle.std.proofs.Common.{◌≡◌, [], ◌∷◌, ◌++◌, string_bytes, sym, ap, ◌∙◌, append_assoc, append-nil}
use Rattle.serde_json.specs.declared.value.Value.{Null}
use Rattle.serde_json.proofs.Views.{Entry}
use Rattle.jsonptr_merge.proofs.ObjectLemmas.{found_under, entry_before, each_more, all_found, inserted, not_inserted}
use Rattle.jsonptr_merge.proofs.PatchLemmas.{null_sorted, has_key, lacks_key}
use Rattle.jsonptr_merge.proofs.MakeLemmas.{RemoveStep, remove_others_step, remove_passed, remove_made, remove_all}
use Rattle.jsonptr_merge.proofs.make.remove_others.Goals as goal

pub loop-key-preserved-in-Continue-1 : goal.loop-key-preserved-in-Continue-1
loop-key-preserved-in-Continue-1 c =
    let done = c.loop-key.invariant.done in
    let e : Entry = (c.in-Some.key.now, c.in-Some._member.now) in
    let left = c.next.new.self in
    let all : c.args.before.now.entries ≡ done ++ e ∷ left = c.loop-key.invariant.rest ∙ ap (λ es. done ++ es) c.in-Some.ensures.steps in
    let old = c.loop-key.made in
    let fresh = entry_before c.args.before.now done e left all c.iter-key-items.ensures.ordered in
    let new = c.insert_member.new.members in
    record {
      done = done ++ e ∷ [];
      rest = all ∙ sym (append_assoc done (e ∷ []) left);
      each = each_more (RemoveStep c.args.members.now c.args.made.now) old new done e fresh c.loop-key.invariant.each
          (λ k other o h. remove_others_step c.args.members.now c.args.made.now old new k o (not_inserted old new (string_bytes e.0) Null c.in_ok-insert_member.ensures.inserts k other) h)
          (λ h. remove_made c.args.members.now c.args.made.now new (string_bytes e.0) e.1 (lacks_key c.args.members.now (string_bytes e.0) c.as_str.result.now c.contains_key.result c.as_str.ensures.value c.contains_key.ensures c.if-not-contains_key.true) (inserted old new (string_bytes e.0) Null c.in_ok-insert_member.ensures.inserts));
      sorted = λ first. c.in_ok-insert_member.ensures.sorted null_sorted (c.loop-key.invariant.sorted first);
    }

pub loop-key-preserved : goal.loop-key-preserved
loop-key-preserved c =
    let done = c.loop-key.invariant.done in
    let e : Entry = (c.in-Some.key.now, c.in-Some._member.now) in
    let left = c.next.new.self in
    let all : c.args.before.now.entries ≡ done ++ e ∷ left = c.loop-key.invariant.rest ∙ ap (λ es. done ++ es) c.in-Some.ensures.steps in
    let old = c.loop-key.made in
    let fresh = entry_before c.args.before.now done e left all c.iter-key-items.ensures.ordered in
    record {
      done = done ++ e ∷ [];
      rest = all ∙ sym (append_assoc done (e ∷ []) left);
      each = each_more (RemoveStep c.args.members.now c.args.made.now) old old done e fresh c.loop-key.invariant.each (λ k other o h. h)
          (λ h. remove_passed c.args.members.now c.args.made.now old (string_bytes e.0) e.1 (has_key c.args.members.now (string_bytes e.0) c.as_str.result.now c.contains_key.result c.as_str.ensures.value c.contains_key.ensures c.if-not-contains_key.false) h);
      sorted = c.loop-key.invariant.sorted;
    }

pub returns-clause-removes : goal.returns-clause-removes
returns-clause-removes c =
    let done = c.loop-key.invariant.done in
    let all : c.args.before.now.entries ≡ done = c.loop-key.invariant.rest ∙ ap (λ es. done ++ es) c.in-None.ensures.steps.0 ∙ append-nil done in
    remove_all c.args.before.now c.args.members.now c.args.made.now c.loop-key.made (λ k. found_under k done) (λ k. all_found c.args.before.now done k all) c.loop-key.invariant.each
