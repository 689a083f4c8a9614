use Rattle.std.proofs.Common.{◌≡◌, [], ◌∷◌, ◌++◌, string_bytes, sym, ap, ◌∙◌, append_assoc, append-nil}
use Rattle.serde_json.specs.View.{view}
use Rattle.serde_json.proofs.Views.{Entry}
use Rattle.jsonptr_merge.proofs.ObjectLemmas.{found_under, entry_before, entry_sorted, each_more, all_found, inserted, not_inserted}
use Rattle.jsonptr_merge.proofs.PatchLemmas.{copy_sorted, KeepStep, keep_others, keep_passed, keep_kept, keeps_all, has_key, lacks_key}
use Rattle.jsonptr_merge.proofs.patch.keep_members.Goals as goal

pub loop-key-preserved-in-Continue-branch-2 : goal.loop-key-preserved-in-Continue-branch-2
loop-key-preserved-in-Continue-branch-2 c =
    let done = c.loop-key.invariant.done in
    let e : Entry = (c.in-Some.key.now, c.in-Some.member.now) in
    let left = c.next.new.self in
    let all : c.args.members.now.entries ≡ done ++ e ∷ left = c.loop-key.invariant.rest ∙ ap (λ es. done ++ es) c.in-Some.ensures.steps in
    let old = c.loop-key.made in
    let new = c.insert_member.new.members in
    let lacks = lacks_key c.args.changes.now (string_bytes e.0) c.as_str.result.now c.contains_key.result c.as_str.ensures.value c.contains_key.ensures c.if-not-contains_key.true in
    record {
      done = done ++ e ∷ [];
      rest = all ∙ sym (append_assoc done (e ∷ []) left);
      each = each_more (KeepStep c.args.changes.now c.args.made.now) old new done e (entry_before c.args.members.now done e left all c.iter-key-items.ensures.ordered)
          c.loop-key.invariant.each
          (λ k other o h. keep_others c.args.changes.now c.args.made.now old new k o (not_inserted old new (string_bytes e.0) c.in_ok-kept.kept c.in_ok-insert_member.ensures.inserts k other) h)
          (λ h. keep_kept c.args.changes.now c.args.made.now new (string_bytes e.0) e.1 c.in_ok-kept.kept lacks (inserted old new (string_bytes e.0) c.in_ok-kept.kept c.in_ok-insert_member.ensures.inserts) c.in_ok-kept.ensures);
      sorted = λ members first. c.in_ok-insert_member.ensures.sorted (copy_sorted c.in_ok-kept.kept (view e.1) c.in_ok-kept.ensures (entry_sorted c.args.members.now done e left all c.iter-key-items.ensures.ordered members)) (c.loop-key.invariant.sorted members first);
    }

pub loop-key-preserved : goal.loop-key-preserved
loop-key-preserved c =
    let done = c.loop-key.invariant.done in
    let e : Entry = (c.in-Some.key.now, c.in-Some.member.now) in
    let left = c.next.new.self in
    let all : c.args.members.now.entries ≡ done ++ e ∷ left = c.loop-key.invariant.rest ∙ ap (λ es. done ++ es) c.in-Some.ensures.steps in
    let made = c.loop-key.made in
    let has = has_key c.args.changes.now (string_bytes e.0) c.as_str.result.now c.contains_key.result c.as_str.ensures.value c.contains_key.ensures c.if-not-contains_key.false in
    record {
      done = done ++ e ∷ [];
      rest = all ∙ sym (append_assoc done (e ∷ []) left);
      each = each_more (KeepStep c.args.changes.now c.args.made.now) made made done e (entry_before c.args.members.now done e left all c.iter-key-items.ensures.ordered)
          c.loop-key.invariant.each
          (λ k other o h. h)
          (λ h. keep_passed c.args.changes.now c.args.made.now made (string_bytes e.0) e.1 has h);
      sorted = c.loop-key.invariant.sorted;
    }

pub returns-clause-keeps : goal.returns-clause-keeps
returns-clause-keeps c =
    let done = c.loop-key.invariant.done in
    let all : c.args.members.now.entries ≡ done = c.loop-key.invariant.rest ∙ ap (λ es. done ++ es) c.in-None.ensures.steps.0 ∙ append-nil done in
    keeps_all c.args.members.now c.args.changes.now c.args.made.now c.loop-key.made (λ k. found_under k done) (λ k. all_found c.args.members.now done k all) c.loop-key.invariant.each
