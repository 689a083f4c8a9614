use Rattle.std.proofs.Common.{◌≡◌, ℕ, get_or, subst, suc, ◌+◌, ◌-◌, ◌<◌, ◌≤◌, [], ◌∷◌, ◌++◌, length, refl, sym, ap, ◌∙◌, append_assoc, append-nil, arith, rules}
use Rattle.std.proofs.lemmas.Bool.{false≢true}
use Rattle.std.specs.BTreeMap.{get_by_text}
use Rattle.serde_json.proofs.Views.{Entry}
use Rattle.serde_json.specs.View.{view}
use Rattle.serde_json.specs.declared.value.Value.{Value, Null, Array, Object}
use Rattle.jsonptr.specs.Json.{nodes}
use Rattle.jsonptr.specs.Text.{dec}
use Rattle.jsonptr_patch.proofs.OperatingLemmas.{ok_all}
use Rattle.jsonptr_patch_diff.specs.PrivateDiff.{tokens_of, IsChangeBelow, IsPartBelow, object_map, mixed, array_map}
use Rattle.jsonptr_patch_diff.specs.PrivateSame.{IsSame, SameElements, AreSameFrom}
use Rattle.jsonptr_patch_diff.proofs.SameLemmas.{twin_same, twin_made, object_differs, array_differs}
use Rattle.jsonptr_patch_diff.proofs.ChangeLemmas.{ok_both, appends_none, appends_join, changes_replace, object_kind, array_kind, leaf_kind, parts_under, changes_kept, none_of_same}
use Rattle.jsonptr_patch_diff.proofs.TurningLemmas.{turns_further, turns_replace}
use Rattle.jsonptr_patch_diff.proofs.MemberLemmas.{mixed_root, members_start, member_turns, member_removed, members_turn, objects_turn, member_changes, member_gone, objects_change}
use Rattle.jsonptr_patch_diff.proofs.ElementLemmas.{element_read, element_like, array_is_array, array_of, splices_start, splices_keep, splices_put, splices_at, splices_end, arrays_turn, elements_change, arrays_change, same_from, same_first}
use Rattle.jsonptr_patch_diff.proofs.difference.+diff.Goals as goal
use Rattle.jsonptr_patch_diff.proofs.difference.+diff.Goals.{diff_gap-then-gap, diff_gap-else-gap, diff_elements-then-loop-from-test+else-to-new_end, diff_elements-else-loop-from-test}

pub diff_at-returns-in-None-clause-turns : goal.diff_at-returns-in-None-clause-turns
diff_at-returns-in-None-clause-turns t c = ok_all c.replace.result _ _
    (turns_replace c.args.patch.now.items c.replace.new.patch.items (tokens_of c.args.at.now) (nodes (view c.args.old.now)) (view c.args.new.now)
    (λ none. false≢true ((object_differs c.args.old.now c.args.new.now c.in-Object.members c.in-Object.is c.in-None.ensures).1 (twin_made _ _ none)))
    (object_kind c.args.old.now c.args.new.now c.in-Object.members c.in-Object.is c.in-None.ensures))
    c.replace.ensures

pub diff_at-returns-in-None-as_array-clause-turns : goal.diff_at-returns-in-None-as_array-clause-turns
diff_at-returns-in-None-as_array-clause-turns t c = ok_all c.replace-in-None-as_array.result _ _
    (turns_replace c.args.patch.now.items c.replace-in-None-as_array.new.patch.items (tokens_of c.args.at.now) (nodes (view c.args.old.now)) (view c.args.new.now)
    (λ none. false≢true ((array_differs c.args.old.now c.args.new.now c.in-Array.elements c.in-Array.is c.in-None-as_array.ensures).1 (twin_made _ _ none)))
    (array_kind c.args.old.now c.args.new.now c.in-Array.elements c.in-Array.is c.in-None-as_array.ensures))
    c.replace-in-None-as_array.ensures

pub diff_at-returns-in-Some-clause-turns : goal.diff_at-returns-in-Some-clause-turns
diff_at-returns-in-Some-clause-turns t c = ok_all c.diff_members.result _ _
    (objects_turn c.args.old.now c.args.new.now c.in-Object.members c.in-Some.others.now c.args.patch.now.items c.diff_members.new.patch.items (tokens_of c.args.at.now) c.in-Object.is c.in-Some.ensures)
    c.diff_members.ensures.turns

pub diff_at-returns-in-Some-as_array-clause-turns : goal.diff_at-returns-in-Some-as_array-clause-turns
diff_at-returns-in-Some-as_array-clause-turns t c = ok_all c.diff_elements.result _ _
    (arrays_turn c.args.old.now c.args.new.now c.in-Array.elements c.in-Some-as_array.others.now c.args.patch.now.items c.diff_elements.new.patch.items (tokens_of c.args.at.now) c.in-Array.is c.in-Some-as_array.ensures)
    c.diff_elements.ensures.turns

pub diff_members-returns-clause-turns : goal.diff_members-returns-clause-turns
diff_members-returns-clause-turns t c =
    let mid = mixed c.args.old.now.entries (object_map c.args.old.now) (object_map c.args.new.now) in
    ok_all c.add_members.result _ _
    (turns_further (view (Object c.args.new.now)) c.args.patch.now.items c.follow_members.new.patch.items c.add_members.new.patch.items (tokens_of c.args.at.now) (object_map c.args.old.now) mid (object_map c.args.new.now) (mixed_root c.args.old.now c.args.old.now.entries (object_map c.args.new.now)) c.in_ok-follow_members.ensures.turns)
    c.add_members.ensures.turns

pub follow_members-loop-key-init : goal.follow_members-loop-key-init
follow_members-loop-key-init t c = record {
  done = [];
  rest = search rules;
  turns = members_start (view (Object c.args.new.now)) c.args.patch.now.items (tokens_of c.args.at.now) (object_map c.args.old.now) (object_map c.args.new.now);
  changes = appends_none (IsChangeBelow (tokens_of c.args.at.now) (object_map c.args.old.now) (object_map c.args.new.now)) c.args.patch.now.items;
}

pub follow_members-loop-key-preserved-in-Continue-1 : goal.follow_members-loop-key-preserved-in-Continue-1
follow_members-loop-key-preserved-in-Continue-1 t c =
    let done = c.loop-key.invariant.done in
    let e : Entry = (c.in-Some.key.now, c.in-Some.member.now) in
    let left = c.next.new.self in
    let all : c.args.old.now.entries ≡ done ++ e ∷ left = c.loop-key.invariant.rest ∙ ap (λ es. done ++ es) c.in-Some.ensures.steps in
    record {
      done = done ++ e ∷ [];
      rest = all ∙ sym (append_assoc done (e ∷ []) left);
      turns = member_turns c.args.old.now c.args.new.now c.args.patch.now.items c.loop-key.patch.items c.diff_at.new.patch.items (tokens_of c.args.at.now) done e left c.as_str.result.now c.in-Some-get.other.now c.as_str.ensures.value all c.iter-key-items.ensures.ordered (sym (c.in-Some-get.ensures.value ∙ ap (get_by_text c.args.new.now) c.as_str-in-loop-key.ensures.value)) c.loop-key.invariant.turns c.in_ok-diff_at-in-Some-get.ensures.turns;
      changes = appends_join (IsChangeBelow (tokens_of c.args.at.now) (object_map c.args.old.now) (object_map c.args.new.now)) c.args.patch.now.items c.loop-key.patch.items c.diff_at.new.patch.items c.loop-key.invariant.changes
          (member_changes c.args.old.now c.args.new.now c.loop-key.patch.items c.diff_at.new.patch.items (tokens_of c.args.at.now) done e left c.as_str.result.now c.as_str.ensures.value c.in-Some-get.other.now all c.iter-key-items.ensures.ordered (sym (c.in-Some-get.ensures.value ∙ ap (get_by_text c.args.new.now) c.as_str-in-loop-key.ensures.value)) c.in_ok-diff_at-in-Some-get.ensures.changes);
    }

pub follow_members-loop-key-preserved : goal.follow_members-loop-key-preserved
follow_members-loop-key-preserved t c =
    let done = c.loop-key.invariant.done in
    let e : Entry = (c.in-Some.key.now, c.in-Some.member.now) in
    let left = c.next.new.self in
    let all : c.args.old.now.entries ≡ done ++ e ∷ left = c.loop-key.invariant.rest ∙ ap (λ es. done ++ es) c.in-Some.ensures.steps in
    record {
      done = done ++ e ∷ [];
      rest = all ∙ sym (append_assoc done (e ∷ []) left);
      turns = member_removed c.args.old.now c.args.new.now c.args.patch.now.items c.loop-key.patch.items c.remove.new.patch.items (tokens_of c.args.at.now) done e left c.as_str.result.now c.as_str.ensures.value all c.iter-key-items.ensures.ordered (sym (c.in-None-get.ensures.value ∙ ap (get_by_text c.args.new.now) c.as_str-in-loop-key.ensures.value)) c.loop-key.invariant.turns c.in_ok-remove-in-None-get.ensures;
      changes = appends_join (IsChangeBelow (tokens_of c.args.at.now) (object_map c.args.old.now) (object_map c.args.new.now)) c.args.patch.now.items c.loop-key.patch.items c.remove.new.patch.items c.loop-key.invariant.changes
          (member_gone c.args.old.now c.args.new.now c.loop-key.patch.items c.remove.new.patch.items (tokens_of c.args.at.now) done e left c.as_str.result.now c.as_str.ensures.value all c.iter-key-items.ensures.ordered (sym (c.in-None-get.ensures.value ∙ ap (get_by_text c.args.new.now) c.as_str-in-loop-key.ensures.value)) c.in_ok-remove-in-None-get.ensures);
    }

pub follow_members-returns-clause-turns : goal.follow_members-returns-clause-turns
follow_members-returns-clause-turns t c =
    let done = c.loop-key.invariant.done in
    let all : c.args.old.now.entries ≡ done = c.loop-key.invariant.rest ∙ ap (λ es. done ++ es) c.in-None.ensures.steps.0 ∙ append-nil done in
    members_turn c.args.old.now (object_map c.args.new.now) (view (Object c.args.new.now)) c.args.patch.now.items c.loop-key.patch.items (tokens_of c.args.at.now) done all c.loop-key.invariant.turns

pub diff_elements-loop-from-init : goal.diff_elements-loop-from-init
diff_elements-loop-from-init t c = record {
  old = omega arith;
  new = omega arith;
  spliced = λ left e. splices_at (view (Array c.args.new.now)) c.args.patch.now.items c.args.patch.now.items (tokens_of c.args.at.now) (array_map c.args.old.now) (array_map c.args.new.now) 0 0 (length c.args.old.now.items) 0 0 left refl refl (omega (arith, e))
      (splices_start (view (Array c.args.new.now)) c.args.patch.now.items (tokens_of c.args.at.now) (array_map c.args.old.now) (array_map c.args.new.now) (length c.args.old.now.items) (array_is_array c.args.old.now) (array_of c.args.new.now));
  parts = appends_none (IsPartBelow (tokens_of c.args.at.now)) c.args.patch.now.items;
  kept = λ same. (refl, refl);
}

pub diff_elements-loop-from-preserved-then-is_small_same : goal.diff_elements-loop-from-preserved-then-is_small_same
diff_elements-loop-from-preserved-then-is_small_same t c =
    let suffix = c.same_suffix-suffix.ensures in
    let inside : c.loop-from.from < length c.args.old.now.items = omega (arith, c.loop-from-test.true, c.len.ensures, suffix.within_first) in
    let within : c.loop-from.to < length c.args.new.now.items = omega (arith, c.if-to-new_end.true, c.len-2.ensures, suffix.within_second) in
    let same = element_read c.args.old.now c.loop-from.from c.index.result.now inside c.index.ensures ∙ twin_same _ _ (c.is_small_same.ensures c.if-is_small_same.true) ∙ sym (element_read c.args.new.now c.loop-from.to c.index-in-loop-from.result.now within c.index-in-loop-from.ensures) in
    record {
      old = omega (arith, c.loop-from-test.true);
      new = omega (arith, c.if-to-new_end.true);
      spliced = λ left e. splices_at (view (Array c.args.new.now)) c.args.patch.now.items c.loop-from.patch.items (tokens_of c.args.at.now) (array_map c.args.old.now) (array_map c.args.new.now) (suc c.loop-from.to) (suc c.loop-from.from) left (c.loop-from.to + 1) (c.loop-from.from + 1) left (omega arith) (omega arith) refl
          (splices_keep (view (Array c.args.new.now)) c.args.patch.now.items c.loop-from.patch.items (tokens_of c.args.at.now) (array_map c.args.old.now) (array_map c.args.new.now) c.loop-from.to c.loop-from.from left same (c.loop-from.invariant.spliced (suc left) (omega (arith, e))));
      parts = c.loop-from.invariant.parts;
      kept = λ all. let k = c.loop-from.invariant.kept all in (ap (λ n. n + 1) k.0, k.1);
    }

pub diff_elements-loop-from-preserved : goal.diff_elements-loop-from-preserved
diff_elements-loop-from-preserved t c =
    let gap = c.next_gap-gap.result in
    record {
      old = omega (arith, c.next_gap-gap.ensures.gap.removed, c.loop-from-test.true, c.deref.ensures.len);
      new = omega (arith, c.next_gap-gap.ensures.gap.added, c.if-to-new_end.true, c.deref-else-is_small_same.ensures.len);
      spliced = λ left e.
          c.in_ok-diff_gap.ensures.spliced c.args.patch.now.items left (omega (arith, e)) (c.loop-from.invariant.spliced (gap.removed + left) (omega (arith, e)));
      parts = appends_join (IsPartBelow (tokens_of c.args.at.now)) c.args.patch.now.items c.loop-from.patch.items c.diff_gap.new.patch.items c.loop-from.invariant.parts c.in_ok-diff_gap.ensures.parts;
      kept = λ all.
          let k = c.loop-from.invariant.kept all in
          let suffix = c.same_suffix-suffix.ensures in
          let inside : c.loop-from.from < length c.args.old.now.items = omega (arith, c.loop-from-test.true, c.len.ensures, suffix.within_first) in
          let one = c.next_gap-gap.ensures.same Null Null (same_first c.args.old.now.items c.args.new.now.items c.deref.result.now c.deref-else-is_small_same.result.now c.loop-from.from c.loop-from.to _ _ c.deref.ensures.value c.deref-else-is_small_same.ensures.value k.0 inside (omega (arith, c.loop-from-test.true)) (omega (arith, c.if-to-new_end.true)) all) in
          let there : c.loop-from.from + gap.removed ≤ length c.args.old.now.items = omega (arith, one.0, inside) in
          let same = subst (λ (n : ℕ). AreSameFrom c.args.old.now.items c.loop-from.from c.args.new.now.items n gap.removed) k.0 (same_from c.args.old.now.items c.args.new.now.items c.loop-from.from gap.removed all there) in (
            omega (arith, k.0, one.0, one.1),
            c.in_ok-diff_gap.ensures.kept (one.0 ∙ sym one.1) same ∙ k.1,
          );
    }

pub diff_elements-returns-clause-turns : goal.diff_elements-returns-clause-turns
diff_elements-returns-clause-turns t c =
    let whole = view (Array c.args.new.now) in
    let first = c.args.patch.now.items in
    let base = tokens_of c.args.at.now in
    let tail = c.same_suffix-suffix.result in
    let same = c.same_suffix-suffix.ensures in
    let old_end = c.len.result - tail in
    let new_end = c.len-2.result - tail in
    let from = c.loop-from.from in
    let gone = old_end - from in
    let all : from + (gone + tail) ≡ length c.args.old.now.items = omega (arith, same.within_first, c.len.ensures, c.loop-from.invariant.old) in
    let within : from + (gone + tail) ≤ length c.args.old.now.items = omega (arith, all) in
    let before : old_end + tail ≡ length c.args.old.now.items = omega (arith, same.within_first, c.len.ensures) in
    let after : new_end + tail ≡ length c.args.new.now.items = omega (arith, same.within_second, c.len-2.ensures) in
    let there : from + gone ≡ old_end = omega (arith, c.loop-from.invariant.old) in
    let removed = c.in_ok-remove_elements.ensures.spliced whole first (array_map c.args.old.now) (array_map c.args.new.now) (length c.args.old.now.items) from tail (array_is_array c.args.old.now) within (c.loop-from.invariant.spliced (gone + tail) all) in
    let left = splices_at whole first c.remove_elements.new.patch.items base (array_map c.args.old.now) (array_map c.args.new.now) c.loop-from.to (from + gone) tail c.loop-from.to old_end tail refl there refl removed in
    ok_all c.add_elements.result _ _
    (λ added. splices_end whole first c.add_elements.new.patch.items base c.args.old.now c.args.new.now new_end old_end tail same before after (added first (array_map c.args.old.now) old_end tail left))
    c.add_elements.ensures.spliced

pub diff_gap-returns-clause-spliced : goal.diff_gap-returns-clause-spliced
diff_gap-returns-clause-spliced t c =
    let whole = view (Array c.args.gap.new.now) in
    let base = tokens_of c.args.at.now in
    let old = array_map c.args.old.now in
    let new = array_map c.args.gap.new.now in
    let both = c.if-gap.both in
    let removed = c.args.gap.removed in
    let added = c.args.gap.added in
    let from = c.args.gap.from in
    let to = c.args.gap.to in
    let bound : both ≤ removed = elim c.if-gap.branch [
      | diff_gap-then-gap w ↦ omega (arith, w.both-is)
      | diff_gap-else-gap w ↦ omega (arith, w.both-is, w.if-gap.false)
    ] in
    ok_all c.add_elements.result _ _
    (λ more first left all s.
    let rest = (removed - both) + left in
    let split : removed + left ≡ both + rest = omega (arith, bound) in
    let before = splices_at whole first c.args.patch.now.items base old new to from (removed + left) to from (both + rest) refl refl split s in
    let followed = c.in_ok-follow_elements.ensures.spliced first rest (omega (arith, all, split)) before in
    let gone = c.in_ok-remove_elements.ensures.spliced whole first old new (length c.args.old.now.items) (from + both) left (array_is_array c.args.old.now) (omega (arith, all, bound)) followed in
    more first old (from + removed) left (splices_at whole first c.remove_elements.new.patch.items base old new (to + both) ((from + both) + (removed - both)) left (to + both) (from + removed) left refl (omega (arith, bound)) refl gone))
    c.add_elements.ensures.spliced

pub follow_elements-loop-done-preserved : goal.follow_elements-loop-done-preserved
follow_elements-loop-done-preserved t c = record {
  splices = λ first left togo all e s.
      let whole = view (Array c.args.pairs.new.now) in
      let base = tokens_of c.args.at.now in
      let old = array_map c.args.old.now in
      let new = array_map c.args.pairs.new.now in
      let from = c.args.pairs.from + c.loop-done.done in
      let to = c.args.pairs.to + c.loop-done.done in
      let inside : from < length c.args.old.now.items = omega (arith, c.loop-done-test.true, c.requires.old) in
      let within : to < length c.args.pairs.new.now.items = omega (arith, c.loop-done-test.true, c.requires.new) in
      let before = c.loop-done.invariant.splices first left (suc togo) all (omega (arith, e)) s in
      let here = splices_at whole first c.loop-done.patch.items base old new to from (suc togo + left) to from (suc (togo + left)) refl refl (omega arith) before in
      splices_at whole first c.diff_at.new.patch.items base old new (suc to) (suc from) (togo + left) (c.args.pairs.to + (c.loop-done.done + 1)) (c.args.pairs.from + (c.loop-done.done + 1)) (togo + left) (omega arith) (omega arith) refl
      (splices_put whole (view c.index-in-loop-done.result.now) first c.loop-done.patch.items c.diff_at.new.patch.items base old new to from (togo + left) (length c.args.old.now.items) (nodes (view c.index.result.now))
      (element_like c.args.pairs.new.now to c.index-in-loop-done.result.now within c.index-in-loop-done.ensures) (array_is_array c.args.old.now) inside
      (element_read c.args.old.now from c.index.result.now inside c.index.ensures) (element_read c.args.pairs.new.now to c.index-in-loop-done.result.now within c.index-in-loop-done.ensures)
      here c.in_ok-diff_at.ensures.turns);
  parts = appends_join (IsPartBelow (tokens_of c.args.at.now)) c.args.patch.now.items c.loop-done.patch.items c.diff_at.new.patch.items c.loop-done.invariant.parts (parts_under (tokens_of c.args.at.now) (dec (c.args.pairs.to + c.loop-done.done)) (nodes (view c.index.result.now)) (nodes (view c.index-in-loop-done.result.now)) c.loop-done.patch.items c.diff_at.new.patch.items c.in_ok-diff_at.ensures.changes);
  kept = λ same.
      let v = c.index.result.now in
      let w = c.index-in-loop-done.result.now in
      let here : IsSame v w = subst (λ (u : Value). IsSame u w) (sym c.index.ensures) (subst (λ (u : Value). IsSame (get_or c.args.old.now.items (c.args.pairs.from + c.loop-done.done) v) u) (sym c.index-in-loop-done.ensures) (same c.loop-done.done v w c.loop-done-test.true)) in
      changes_kept (tokens_of c.args.at.now ++ dec (c.args.pairs.to + c.loop-done.done) ∷ []) (nodes (view v)) (nodes (view w)) c.loop-done.patch.items c.diff_at.new.patch.items refl (none_of_same v w here) c.in_ok-diff_at.ensures.changes ∙ c.loop-done.invariant.kept same;
}

pub follow_elements-loop-done-init : goal.follow_elements-loop-done-init
follow_elements-loop-done-init t c = record {
  splices = λ first left togo all t s. splices_at (view (Array c.args.pairs.new.now)) first c.args.patch.now.items (tokens_of c.args.at.now) (array_map c.args.old.now) (array_map c.args.pairs.new.now) c.args.pairs.to c.args.pairs.from (c.args.pairs.count + left) (c.args.pairs.to + 0) (c.args.pairs.from + 0) (togo + left) (omega arith) (omega arith) (omega (arith, t)) s;
  parts = appends_none (IsPartBelow (tokens_of c.args.at.now)) c.args.patch.now.items;
  kept = λ same. refl;
}

pub follow_elements-returns-clause-parts : goal.follow_elements-returns-clause-parts
follow_elements-returns-clause-parts t c = c.loop-done.invariant.parts

pub follow_elements-returns-clause-kept : goal.follow_elements-returns-clause-kept
follow_elements-returns-clause-kept t c = c.loop-done.invariant.kept

pub follow_elements-returns-clause-spliced : goal.follow_elements-returns-clause-spliced
follow_elements-returns-clause-spliced t c = λ first left all s.
    let done : c.loop-done.done ≡ c.args.pairs.count = omega (arith, c.loop-done-test.false, c.loop-done.auto.done-end) in
    splices_at (view (Array c.args.pairs.new.now)) first c.loop-done.patch.items (tokens_of c.args.at.now) (array_map c.args.old.now) (array_map c.args.pairs.new.now) (c.args.pairs.to + c.loop-done.done) (c.args.pairs.from + c.loop-done.done) (0 + left) (c.args.pairs.to + c.args.pairs.count) (c.args.pairs.from + c.args.pairs.count) left (omega (arith, done)) (omega (arith, done)) (omega arith)
    (c.loop-done.invariant.splices first left 0 all (omega (arith, done)) s)

-- ---- which operations are appended

pub diff_at-returns-in-None-clause-changes : goal.diff_at-returns-in-None-clause-changes
diff_at-returns-in-None-clause-changes t c = ok_all c.replace.result _ _
    (λ replaced. changes_replace (tokens_of c.args.at.now) (nodes (view c.args.old.now)) (view c.args.new.now) c.args.patch.now.items c.replace.new.patch.items
    (λ none. false≢true ((object_differs c.args.old.now c.args.new.now c.in-Object.members c.in-Object.is c.in-None.ensures).1 (twin_made _ _ none)))
    (object_kind c.args.old.now c.args.new.now c.in-Object.members c.in-Object.is c.in-None.ensures) replaced)
    c.replace.ensures

pub diff_at-returns-in-None-as_array-clause-changes : goal.diff_at-returns-in-None-as_array-clause-changes
diff_at-returns-in-None-as_array-clause-changes t c = ok_all c.replace-in-None-as_array.result _ _
    (λ replaced. changes_replace (tokens_of c.args.at.now) (nodes (view c.args.old.now)) (view c.args.new.now) c.args.patch.now.items c.replace-in-None-as_array.new.patch.items
    (λ none. false≢true ((array_differs c.args.old.now c.args.new.now c.in-Array.elements c.in-Array.is c.in-None-as_array.ensures).1 (twin_made _ _ none)))
    (array_kind c.args.old.now c.args.new.now c.in-Array.elements c.in-Array.is c.in-None-as_array.ensures) replaced)
    c.replace-in-None-as_array.ensures

pub diff_at-returns-in-Some-clause-changes : goal.diff_at-returns-in-Some-clause-changes
diff_at-returns-in-Some-clause-changes t c = ok_all c.diff_members.result _ _
    (objects_change c.args.old.now c.args.new.now c.in-Object.members c.in-Some.others.now c.args.patch.now.items c.diff_members.new.patch.items (tokens_of c.args.at.now) c.in-Object.is c.in-Some.ensures)
    c.diff_members.ensures.changes

pub diff_at-returns-in-Some-as_array-clause-changes : goal.diff_at-returns-in-Some-as_array-clause-changes
diff_at-returns-in-Some-as_array-clause-changes t c = ok_all c.diff_elements.result _ _
    (arrays_change c.args.old.now c.args.new.now c.in-Array.elements c.in-Some-as_array.others.now c.args.patch.now.items c.diff_elements.new.patch.items (tokens_of c.args.at.now) c.in-Array.is c.in-Some-as_array.ensures)
    c.diff_elements.ensures.changes

pub diff_members-returns-clause-changes : goal.diff_members-returns-clause-changes
diff_members-returns-clause-changes t c = ok_all c.add_members.result _ _
    (appends_join (IsChangeBelow (tokens_of c.args.at.now) (object_map c.args.old.now) (object_map c.args.new.now)) c.args.patch.now.items c.follow_members.new.patch.items c.add_members.new.patch.items c.in_ok-follow_members.ensures.changes)
    c.add_members.ensures.changes

pub follow_members-returns-clause-changes : goal.follow_members-returns-clause-changes
follow_members-returns-clause-changes t c = c.loop-key.invariant.changes

pub diff_gap-returns-clause-parts : goal.diff_gap-returns-clause-parts
diff_gap-returns-clause-parts t c =
    let P = IsPartBelow (tokens_of c.args.at.now) in
    ok_all c.add_elements.result _ _
    (appends_join P c.args.patch.now.items c.remove_elements.new.patch.items c.add_elements.new.patch.items (appends_join P c.args.patch.now.items c.follow_elements.new.patch.items c.remove_elements.new.patch.items c.in_ok-follow_elements.ensures.parts c.in_ok-remove_elements.ensures.parts))
    c.add_elements.ensures.parts

pub diff_elements-returns-clause-changes : goal.diff_elements-returns-clause-changes
diff_elements-returns-clause-changes t c =
    let P = IsPartBelow (tokens_of c.args.at.now) in
    let tail = c.same_suffix-suffix.result in
    let suffix = c.same_suffix-suffix.ensures in
    let old_end = c.len.result - tail in
    let new_end = c.len-2.result - tail in
    let inv = c.loop-from.invariant in
    let ends : SameElements c.args.old.now.items c.args.new.now.items → (old_end - c.loop-from.from ≡ 0) × (c.loop-from.to ≡ new_end) = λ all.
    let k = inv.kept all in
    let both : old_end ≡ new_end = omega (arith, all.0, c.len.ensures, c.len-2.ensures) in
    let past : old_end ≤ c.loop-from.from = elim c.loop-from-test.branch [
      | diff_elements-then-loop-from-test+else-to-new_end w ↦ omega (arith, w.if-to-new_end.false, both, k.0)
      | diff_elements-else-loop-from-test w ↦ omega (arith, w.loop-from-test.false)
    ] in
    (omega (arith, past), omega (arith, past, both, k.0, inv.new)) in
    ok_both c.add_elements.result _ _ _
    (λ added kept. elements_change c.args.old.now c.args.new.now (tokens_of c.args.at.now) c.args.patch.now.items c.add_elements.new.patch.items
    (λ all. kept (ends all).1 ∙ c.in_ok-remove_elements.ensures.none (ends all).0 ∙ (inv.kept all).1)
    (appends_join P c.args.patch.now.items c.remove_elements.new.patch.items c.add_elements.new.patch.items (appends_join P c.args.patch.now.items c.loop-from.patch.items c.remove_elements.new.patch.items inv.parts c.in_ok-remove_elements.ensures.parts) added))
    c.add_elements.ensures.parts c.add_elements.ensures.none

pub diff_gap-returns-clause-kept : goal.diff_gap-returns-clause-kept
diff_gap-returns-clause-kept t c =
    let both = c.if-gap.both in
    ok_all c.add_elements.result _ _
    (λ kept even same.
    let all : both ≡ c.args.gap.removed = elim c.if-gap.branch [
      | diff_gap-then-gap w ↦ w.both-is
      | diff_gap-else-gap w ↦ w.both-is ∙ sym even
    ] in
    kept (ap (λ n. c.args.gap.to + n) (all ∙ even))
    ∙ c.in_ok-remove_elements.ensures.none (omega (arith, all))
    ∙ c.in_ok-follow_elements.ensures.kept (subst (λ (n : ℕ). AreSameFrom c.args.old.now.items c.args.gap.from c.args.gap.new.now.items c.args.gap.to n) (sym all) same))
    c.add_elements.ensures.none

pub diff_at-returns-in_default-clause-changes : goal.diff_at-returns-in_default-clause-changes
diff_at-returns-in_default-clause-changes t c = ok_all c.replace_other.result _ _ (λ h. h (leaf_kind c.args.old.now (nodes (view c.args.new.now) []) c.in_default.not-Object c.in_default.not-Array)) c.replace_other.ensures.changes

pub diff_at-returns-in_default-clause-turns : goal.diff_at-returns-in_default-clause-turns
diff_at-returns-in_default-clause-turns t c = ok_all c.replace_other.result _ _ (λ h. h (leaf_kind c.args.old.now (nodes (view c.args.new.now) []) c.in_default.not-Object c.in_default.not-Array)) c.replace_other.ensures.turns
