use Rattle.std.proofs.Common.{◌≡◌, [], ◌∷◌, ◌++◌, string_bytes, sym, ap, ◌∙◌, append_assoc, append-nil, true≢false}
use Rattle.std.specs.Prelude.{⊤}
use Rattle.std.proofs.lemmas.Result.{err_from_is_err_and}
use Rattle.serde_json.specs.View.{view}
use Rattle.serde_json.specs.declared.value.Value.{Value}
use Rattle.serde_json.proofs.Views.{Entry}
use Rattle.jsonptr_merge.specs.PrivateObjects.{Object, side_map, member_in}
use Rattle.jsonptr_merge.specs.Values.{map_in}
use Rattle.jsonptr_merge.specs.PrivateTrail.{tokens_of}
use Rattle.jsonptr.specs.Text.{Text}
use Rattle.jsonptr_merge.proofs.ObjectLemmas.{found_under, entry_before, entry_found, entry_sorted, empty_sorted, each_more, all_found, inserted, not_inserted}
use Rattle.jsonptr_merge.proofs.PatchLemmas.{side_found, empty_lacks}
use Rattle.jsonptr_merge.proofs.MakeLemmas.{first_here, first_under, first_of_all, refused_step, none_more, made_none, same_none, MakeStep, make_others, make_passed, make_made, make_all, makes, makes_other}
use Rattle.jsonptr_merge.proofs.make.+making.Goals as goal

pub make_changes-loop-key-preserved-in-Continue-branch-3 : goal.make_changes-loop-key-preserved-in-Continue-branch-3
make_changes-loop-key-preserved-in-Continue-branch-3 t c =
    let done = c.loop-key.invariant.done in
    let e : Entry = (c.in-Some.key.now, c.in-Some.member.now) in
    let left = c.next.new.self in
    let all : c.args.members.now.entries ≡ done ++ e ∷ left = c.loop-key.invariant.rest ∙ ap (λ es. done ++ es) c.in-Some.ensures.steps in
    let old = c.loop-key.made in
    let fresh = entry_before c.args.members.now done e left all c.iter-key-items.ensures.ordered in
    let new = c.insert_member.new.members in
    record {
      done = done ++ e ∷ [];
      rest = all ∙ sym (append_assoc done (e ∷ []) left);
      each = each_more (MakeStep c.args.before.now c.args.made.now) old new done e fresh c.loop-key.invariant.each
          (λ k other o h. make_others c.args.before.now c.args.made.now old new k o (not_inserted old new (string_bytes e.0) c.in_ok-change.change c.in_ok-insert_member.ensures.inserts k other) h)
          (λ h. make_made c.args.before.now c.args.made.now new (string_bytes e.0) e.1 c.in_ok-change.change c.get-was.result c.is_null.result c.is_null.ensures c.if-is_null.false (side_found c.get-was.result c.args.before.now (string_bytes e.0) c.as_str-name.result.now c.as_str-name.ensures.value c.get-was.ensures.value)
          (inserted old new (string_bytes e.0) c.in_ok-change.change c.in_ok-insert_member.ensures.inserts) c.in_ok-change.ensures.makes);
      sorted = λ members first. c.in_ok-insert_member.ensures.sorted (c.in_ok-change.ensures.sorted (entry_sorted c.args.members.now done e left all c.iter-key-items.ensures.ordered members)) (c.loop-key.invariant.sorted members first);
      none = none_more c.args.before.now c.args.members.now done e c.loop-key.invariant.none
          (λ ts. made_none (member_in c.args.before.now (string_bytes e.0)) (member_in c.args.members.now (string_bytes e.0)) e.1 c.in_ok-change.change c.get-was.result c.is_null.result ts c.is_null.ensures c.if-is_null.false
          (side_found c.get-was.result c.args.before.now (string_bytes e.0) c.as_str-name.result.now c.as_str-name.ensures.value c.get-was.ensures.value)
          (ap map_in (entry_found c.args.members.now done e left all c.iter-key-items.ensures.ordered)) c.in_ok-change.ensures.makes);
    }

pub make_changes-loop-key-preserved : goal.make_changes-loop-key-preserved
make_changes-loop-key-preserved t c =
    let done = c.loop-key.invariant.done in
    let e : Entry = (c.in-Some.key.now, c.in-Some.member.now) in
    let left = c.next.new.self in
    let all : c.args.members.now.entries ≡ done ++ e ∷ left = c.loop-key.invariant.rest ∙ ap (λ es. done ++ es) c.in-Some.ensures.steps in
    let old = c.loop-key.made in
    let fresh = entry_before c.args.members.now done e left all c.iter-key-items.ensures.ordered in
    record {
      done = done ++ e ∷ [];
      rest = all ∙ sym (append_assoc done (e ∷ []) left);
      each = each_more (MakeStep c.args.before.now c.args.made.now) old old done e fresh c.loop-key.invariant.each (λ k other o h. h)
          (λ h. make_passed c.args.before.now c.args.made.now old (string_bytes e.0) e.1 c.get-was.result (side_found c.get-was.result c.args.before.now (string_bytes e.0) c.as_str-name.result.now c.as_str-name.ensures.value c.get-was.ensures.value) (c.are_same_sides.ensures.0 c.if-not-are_same_sides.false) h);
      sorted = c.loop-key.invariant.sorted;
      none = none_more c.args.before.now c.args.members.now done e c.loop-key.invariant.none
          (λ ts. same_none (member_in c.args.before.now (string_bytes e.0)) (member_in c.args.members.now (string_bytes e.0)) ts
          (sym (side_found c.get-was.result c.args.before.now (string_bytes e.0) c.as_str-name.result.now c.as_str-name.ensures.value c.get-was.ensures.value) ∙ c.are_same_sides.ensures.0 c.if-not-are_same_sides.false ∙ sym (ap map_in (entry_found c.args.members.now done e left all c.iter-key-items.ensures.ordered))));
    }

pub make_changes-returns-clause-changes : goal.make_changes-returns-clause-changes
make_changes-returns-clause-changes t c =
    let done = c.loop-key.invariant.done in
    let all : c.args.members.now.entries ≡ done = c.loop-key.invariant.rest ∙ ap (λ es. done ++ es) c.in-None.ensures.steps.0 ∙ append-nil done in
    make_all c.args.before.now c.args.members.now c.args.made.now c.loop-key.made (λ k. found_under k done) (λ k. all_found c.args.members.now done k all) c.loop-key.invariant.each

pub make_members-returns-clause-makes : goal.make_members-returns-clause-makes
make_members-returns-clause-makes t c =
    makes (side_map c.args.old) c.members_of-before.result.now c.args.members.now c.new-made.result c.remove_others.new.made c.make_changes.new.made
    c.members_of-before.ensures.members (empty_lacks c.new-made.result c.new-made.ensures.empty) c.in_ok-remove_others.ensures.removes c.in_ok-make_changes.ensures.changes

pub make_members-returns-clause-sorted : goal.make_members-returns-clause-sorted
make_members-returns-clause-sorted t c = λ members.
    c.in_ok-make_changes.ensures.sorted members (c.in_ok-remove_others.ensures.sorted (empty_sorted c.new-made.result c.new-made.ensures.empty))

pub make_at-returns-in_ok-copy-in_default-clause-makes : goal.make_at-returns-in_ok-copy-in_default-clause-makes
make_at-returns-in_ok-copy-in_default-clause-makes t c = makes_other (side_map c.args.old) c.args.new.now (view c.in_ok-copy-in_default.field-0) c.in_default.not-Object c.in_ok-copy-in_default.ensures

pub make_changes-returns-then-is_null-clause-refused : goal.make_changes-returns-then-is_null-clause-refused
make_changes-returns-then-is_null-clause-refused t c =
    let done = c.loop-key.invariant.done in
    let e : Entry = (c.in-Some.key.now, c.in-Some.member.now) in
    let left = c.next.new.self in
    let all : c.args.members.now.entries ≡ done ++ e ∷ left = c.loop-key.invariant.rest ∙ ap (λ es. done ++ es) c.in-Some.ensures.steps in (
      string_bytes e.0,
      [],
      c.in_ok-path.ensures ∙ ap (λ (x : Text). tokens_of c.args.at.now ++ x ∷ []) c.as_str-name.ensures.value,
      first_here c.args.before.now c.args.members.now done e left all c.iter-key-items.ensures.ordered c.loop-key.invariant.none c.get-was.result c.is_null.result c.is_null.ensures c.if-is_null.true
          (side_found c.get-was.result c.args.before.now (string_bytes e.0) c.as_str-name.result.now c.as_str-name.ensures.value c.get-was.ensures.value)
          (λ same. true≢false (sym (c.are_same_sides.ensures.1 same) ∙ c.if-not-are_same_sides.true)),
    )

pub make_changes-returns-in_err-change-clause-refused : goal.make_changes-returns-in_err-change-clause-refused
make_changes-returns-in_err-change-clause-refused t c =
    let done = c.loop-key.invariant.done in
    let e : Entry = (c.in-Some.key.now, c.in-Some.member.now) in
    let left = c.next.new.self in
    let all : c.args.members.now.entries ≡ done ++ e ∷ left = c.loop-key.invariant.rest ∙ ap (λ es. done ++ es) c.in-Some.ensures.steps in
    let p = err_from_is_err_and c.from_residual-in_err-change.result c.from_residual-in_err-change.ensures.1 in
    rw (p.1, p.2) (refused_step Value ⊤ c.in_err-change.field-0.0 _ _
    (first_under c.args.before.now c.args.members.now done e left all c.iter-key-items.ensures.ordered c.loop-key.invariant.none (tokens_of c.args.at.now) c.as_str-name.result.now c.get-was.result c.is_null.result c.as_str-name.ensures.value c.is_null.ensures c.if-is_null.false
    (side_found c.get-was.result c.args.before.now (string_bytes e.0) c.as_str-name.result.now c.as_str-name.ensures.value c.get-was.ensures.value))
    c.in_err-change.ensures.refused)

pub make_members-returns-in_err-make_changes-clause-refused : goal.make_members-returns-in_err-make_changes-clause-refused
make_members-returns-in_err-make_changes-clause-refused t c =
    let p = err_from_is_err_and c.from_residual-in_err-make_changes.result c.from_residual-in_err-make_changes.ensures.1 in
    rw (p.1, p.2) (refused_step ⊤ Object c.in_err-make_changes.field-0.0 _ _
    (first_of_all (side_map c.args.old) c.members_of-before.result.now c.args.members.now c.members_of-before.ensures.members (tokens_of c.args.at.now))
    c.in_err-make_changes.ensures.refused)
