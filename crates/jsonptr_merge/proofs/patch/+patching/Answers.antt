use Rattle.std.proofs.Common.{◌≡◌, [], ◌∷◌, ◌++◌, string_bytes, sym, ap, ◌∙◌, append_assoc, append-nil}
use Rattle.serde_json.specs.View.{view}
use Rattle.serde_json.proofs.Views.{Entry}
use Rattle.jsonptr.specs.Json.{nodes, HasSortedKeys}
use Rattle.serde_json.specs.Data.{Data}
use Rattle.jsonptr_merge.specs.MergePatch.{patched}
use Rattle.jsonptr_merge.specs.PrivateObjects.{side_map, SortedSide}
use Rattle.jsonptr_merge.proofs.ObjectLemmas.{found_under, entry_before, entry_sorted, empty_sorted, each_more, all_found, inserted, not_inserted}
use Rattle.jsonptr_merge.proofs.PatchLemmas.{ChangeStep, change_others, change_removed, change_made, changes_made, side_found, side_sorted, copy_sorted, all_patched, patch_other, empty_lacks, ok_copy}
use Rattle.jsonptr_merge.proofs.patch.+patching.Goals as goal

pub change_members-loop-key-preserved-in-Continue-branch-2 : goal.change_members-loop-key-preserved-in-Continue-branch-2
change_members-loop-key-preserved-in-Continue-branch-2 t c =
    let done = c.loop-key.invariant.done in
    let e : Entry = (c.in-Some.key.now, c.in-Some.change.now) in
    let left = c.next.new.self in
    let all : c.args.changes.now.entries ≡ done ++ e ∷ left = c.loop-key.invariant.rest ∙ ap (λ es. done ++ es) c.in-Some.ensures.steps in
    let old = c.loop-key.made in
    let new = c.insert_member.new.members in
    record {
      done = done ++ e ∷ [];
      rest = all ∙ sym (append_assoc done (e ∷ []) left);
      each = each_more (ChangeStep c.args.members.now c.args.made.now) old new done e (entry_before c.args.changes.now done e left all c.iter-key-items.ensures.ordered)
          c.loop-key.invariant.each
          (λ k other o h. change_others c.args.members.now c.args.made.now old new k o (not_inserted old new (string_bytes e.0) c.in_ok-changed.changed c.in_ok-insert_member.ensures.inserts k other) h)
          (λ h. change_made c.args.members.now c.args.made.now new (string_bytes e.0) e.1 c.in_ok-changed.changed c.get.result c.is_null.result c.is_null.ensures c.if-not-is_null.true
          (inserted old new (string_bytes e.0) c.in_ok-changed.changed c.in_ok-insert_member.ensures.inserts) c.in_ok-changed.ensures.patched
          (side_found c.get.result c.args.members.now (string_bytes e.0) c.as_str.result.now c.as_str.ensures.value c.get.ensures.value));
      sorted = λ members changes first. c.in_ok-insert_member.ensures.sorted
          (c.in_ok-changed.ensures.sorted (side_sorted c.get.result c.args.members.now (string_bytes e.0) c.as_str.result.now c.as_str.ensures.value c.get.ensures.value members) (entry_sorted c.args.changes.now done e left all c.iter-key-items.ensures.ordered changes))
          (c.loop-key.invariant.sorted members changes first);
    }

pub change_members-loop-key-preserved : goal.change_members-loop-key-preserved
change_members-loop-key-preserved t c =
    let done = c.loop-key.invariant.done in
    let e : Entry = (c.in-Some.key.now, c.in-Some.change.now) in
    let left = c.next.new.self in
    let all : c.args.changes.now.entries ≡ done ++ e ∷ left = c.loop-key.invariant.rest ∙ ap (λ es. done ++ es) c.in-Some.ensures.steps in
    let made = c.loop-key.made in
    record {
      done = done ++ e ∷ [];
      rest = all ∙ sym (append_assoc done (e ∷ []) left);
      each = each_more (ChangeStep c.args.members.now c.args.made.now) made made done e (entry_before c.args.changes.now done e left all c.iter-key-items.ensures.ordered)
          c.loop-key.invariant.each
          (λ k other o h. h)
          (λ h. change_removed c.args.members.now c.args.made.now made (string_bytes e.0) e.1 c.is_null.result c.is_null.ensures c.if-not-is_null.false h);
      sorted = c.loop-key.invariant.sorted;
    }

pub change_members-returns-clause-changes : goal.change_members-returns-clause-changes
change_members-returns-clause-changes t c =
    let done = c.loop-key.invariant.done in
    let all : c.args.changes.now.entries ≡ done = c.loop-key.invariant.rest ∙ ap (λ es. done ++ es) c.in-None.ensures.steps.0 ∙ append-nil done in
    changes_made c.args.members.now c.args.changes.now c.args.made.now c.loop-key.made (λ k. found_under k done) (λ k. all_found c.args.changes.now done k all) c.loop-key.invariant.each

pub merge_changes-returns-clause-patched : goal.merge_changes-returns-clause-patched
merge_changes-returns-clause-patched t c =
    all_patched (side_map c.args.target) c.members_of-members.result.now c.args.changes.now c.new-made.result c.keep_members.new.made c.change_members.new.made
    c.members_of-members.ensures.members (empty_lacks c.new-made.result c.new-made.ensures.empty) c.in_ok-keep_members.ensures.keeps c.in_ok-change_members.ensures.changes

pub merge_changes-returns-clause-sorted : goal.merge_changes-returns-clause-sorted
merge_changes-returns-clause-sorted t c = λ target changes.
    let members = c.members_of-members.ensures.sorted target (empty_sorted c.new-none.result c.new-none.ensures.empty) in
    c.in_ok-change_members.ensures.sorted members changes (c.in_ok-keep_members.ensures.sorted members (empty_sorted c.new-made.result c.new-made.ensures.empty))

pub merge_into-returns-in_default-clause-patched : goal.merge_into-returns-in_default-clause-patched
merge_into-returns-in_default-clause-patched t c = ok_copy c.copy.result (view c.args.patch.now) (λ (d : Data). nodes d ≡ patched (side_map c.args.target) (nodes (view c.args.patch.now))) (λ v same. patch_other (side_map c.args.target) c.args.patch.now (view v) c.in_default.not-Object same) c.copy.ensures

pub merge_into-returns-in_default-clause-sorted : goal.merge_into-returns-in_default-clause-sorted
merge_into-returns-in_default-clause-sorted t c = ok_copy c.copy.result (view c.args.patch.now) (λ (d : Data). SortedSide c.args.target → HasSortedKeys (view c.args.patch.now) → HasSortedKeys d) (λ v same target sorted. copy_sorted v (view c.args.patch.now) same sorted) c.copy.ensures
