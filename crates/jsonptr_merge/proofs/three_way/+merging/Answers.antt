use Rattle.std.proofs.Common.{◌≡◌, Some, refl, IsSome, [], ◌∷◌, ◌++◌, string_bytes, Option, sym, ap, ◌∙◌, subst, append_assoc, append-nil, rules}
use Rattle.std.specs.BTreeMap.{get_by_text}
use Rattle.serde_json.specs.View.{view}
use Rattle.serde_json.specs.declared.value.Value.{Value, Object as an_object_of}
use Rattle.serde_json.proofs.Views.{Entry}
use Rattle.jsonptr.specs.Text.{Text}
use Rattle.jsonptr.specs.Json.{nodes, HasSortedKeys}
use Rattle.jsonptr_merge.specs.Values.{no_value, map_in}
use Rattle.jsonptr_merge.specs.PrivateObjects.{object_map, side_map, member_in, SortedSide, SortedObject}
use Rattle.jsonptr_merge.specs.PrivateTrail.{tokens_of}
use Rattle.jsonptr_merge.proofs.ObjectLemmas.{found_under, entry_before, all_found, empty_sorted}
use Rattle.jsonptr_merge.proofs.PatchLemmas.{side_found, side_sorted, empty_lacks, not_object}
use Rattle.jsonptr_merge.proofs.MergeLemmas.{apart_merges, objects_merges, merges_at, merge_more, merge_all}
use Rattle.jsonptr_merge.proofs.FindingLemmas.{one_found, under_start, under_as, found_more, members_found, none_some, ok_step, ok_all}
use Rattle.jsonptr_merge.proofs.three_way.+merging.Goals as goal

pub merge_members-loop-name-init : goal.merge_members-loop-name-init
merge_members-loop-name-init t c = record {
  names = c.in_ok-keys.keys;
  has = c.in_ok-keys.ensures;
  ordered = c.iter-name-items.ensures.ordered;
  done = [];
  rest = search rules;
  each = λ k. (λ some. absurd (none_some k some), λ is. empty_lacks c.new-made.result c.new-made.ensures.empty k);
  found = under_start (λ (k : Text). IsSome (found_under k [])) (tokens_of c.args.at.now) c.args.base.now c.args.ours.now c.args.theirs.now c.args.conflicts.now.items none_some;
  sorted = λ sides. empty_sorted c.new-made.result c.new-made.ensures.empty;
  conflicts_sorted = λ sides all. all;
}

pub merge_members-loop-name-preserved-in-Continue-branch-3 : goal.merge_members-loop-name-preserved-in-Continue-branch-3
merge_members-loop-name-preserved-in-Continue-branch-3 t c =
    let b = c.args.base.now in
    let o = c.args.ours.now in
    let u = c.args.theirs.now in
    let done = c.loop-name.invariant.done in
    let e : Entry = (c.in-Some.name.now, c.in-Some._null.now) in
    let left = c.next.new.self in
    let names = c.loop-name.invariant.names in
    let all : names.entries ≡ done ++ e ∷ left = c.loop-name.invariant.rest ∙ ap (λ es. done ++ es) c.in-Some.ensures.steps in
    let k = string_bytes e.0 in
    let s = c.as_str-key.result.now in
    let same = c.as_str-key.ensures.value in
    let n = nodes (view c.in-Some-get.member.now) in
    let base : n ≡ member_in b k = ap side_map (sym c.in-Some-get.is) ∙ side_found c.get.result b k s same c.get.ensures.value in
    let ours = side_found c.get-our.result o k s same c.get-our.ensures.value in
    let theirs = side_found c.get-their.result u k s same c.get-their.ensures.value in
    let our_sorted = side_sorted c.get-our.result o k s same c.get-our.ensures.value in
    let their_sorted = side_sorted c.get-their.result u k s same c.get-their.ensures.value in
    let base_sorted : SortedObject b → HasSortedKeys (view c.in-Some-get.member.now) = λ sorted. subst SortedSide c.in-Some-get.is (side_sorted c.get.result b k s same c.get.ensures.value sorted) in
    record {
      names = names;
      has = c.loop-name.invariant.has;
      ordered = c.loop-name.invariant.ordered;
      done = done ++ e ∷ [];
      rest = all ∙ sym (append_assoc done (e ∷ []) left);
      each = merge_more b o u c.loop-name.made c.insert_some.new.members done e (entry_before names done e left all c.loop-name.invariant.ordered)
          n (side_map c.get-our.result) (side_map c.get-their.result) c.in_ok-merged-in-Some-get.merged base ours theirs c.in_ok-insert_some-in-Some-get.ensures.inserts c.in_ok-merged-in-Some-get.ensures.merges c.loop-name.invariant.each;
      found = found_more b o u names (tokens_of c.args.at.now) c.args.conflicts.now.items c.loop-name.conflicts.items c.merge_at.new.conflicts.items done e left all c.loop-name.invariant.ordered
          n (side_map c.get-our.result) (side_map c.get-their.result) s same base ours theirs c.in_ok-merged-in-Some-get.ensures.finds c.loop-name.invariant.found;
      sorted = λ three. c.in_ok-insert_some-in-Some-get.ensures.sorted (c.in_ok-merged-in-Some-get.ensures.sorted (base_sorted three.base) (our_sorted three.ours) (their_sorted three.theirs)) (c.loop-name.invariant.sorted three);
      conflicts_sorted = λ three before. c.in_ok-merged-in-Some-get.ensures.conflicts_sorted (base_sorted three.base) (our_sorted three.ours) (their_sorted three.theirs) (c.loop-name.invariant.conflicts_sorted three before);
    }

pub merge_members-loop-name-preserved : goal.merge_members-loop-name-preserved
merge_members-loop-name-preserved t c =
    let b = c.args.base.now in
    let o = c.args.ours.now in
    let u = c.args.theirs.now in
    let done = c.loop-name.invariant.done in
    let e : Entry = (c.in-Some.name.now, c.in-Some._null.now) in
    let left = c.next.new.self in
    let names = c.loop-name.invariant.names in
    let all : names.entries ≡ done ++ e ∷ left = c.loop-name.invariant.rest ∙ ap (λ es. done ++ es) c.in-Some.ensures.steps in
    let k = string_bytes e.0 in
    let s = c.as_str-key.result.now in
    let same = c.as_str-key.ensures.value in
    let n = no_value in
    let base : n ≡ member_in b k = ap side_map (sym c.in-None-get.is) ∙ side_found c.get.result b k s same c.get.ensures.value in
    let ours = side_found c.get-our.result o k s same c.get-our.ensures.value in
    let theirs = side_found c.get-their.result u k s same c.get-their.ensures.value in
    let our_sorted = side_sorted c.get-our.result o k s same c.get-our.ensures.value in
    let their_sorted = side_sorted c.get-their.result u k s same c.get-their.ensures.value in
    record {
      names = names;
      has = c.loop-name.invariant.has;
      ordered = c.loop-name.invariant.ordered;
      done = done ++ e ∷ [];
      rest = all ∙ sym (append_assoc done (e ∷ []) left);
      each = merge_more b o u c.loop-name.made c.insert_some-in-None-get.new.members done e (entry_before names done e left all c.loop-name.invariant.ordered)
          n (side_map c.get-our.result) (side_map c.get-their.result) c.in_ok-merged-in-None-get.merged base ours theirs c.in_ok-insert_some-in-None-get.ensures.inserts c.in_ok-merged-in-None-get.ensures.merges c.loop-name.invariant.each;
      found = found_more b o u names (tokens_of c.args.at.now) c.args.conflicts.now.items c.loop-name.conflicts.items c.merge_added.new.conflicts.items done e left all c.loop-name.invariant.ordered
          n (side_map c.get-our.result) (side_map c.get-their.result) s same base ours theirs c.in_ok-merged-in-None-get.ensures.finds c.loop-name.invariant.found;
      sorted = λ three. c.in_ok-insert_some-in-None-get.ensures.sorted (c.in_ok-merged-in-None-get.ensures.sorted (our_sorted three.ours) (their_sorted three.theirs)) (c.loop-name.invariant.sorted three);
      conflicts_sorted = λ three before. c.in_ok-merged-in-None-get.ensures.conflicts_sorted (our_sorted three.ours) (their_sorted three.theirs) (c.loop-name.invariant.conflicts_sorted three before);
    }

pub merge_members-returns-clause-merges : goal.merge_members-returns-clause-merges
merge_members-returns-clause-merges t c =
    let done = c.loop-name.invariant.done in
    let keys = c.loop-name.invariant.names in
    let all : keys.entries ≡ done = c.loop-name.invariant.rest ∙ ap (λ es. done ++ es) c.in-None.ensures.steps.0 ∙ append-nil done in
    objects_merges c.args.base.now c.args.ours.now c.args.theirs.now c.loop-name.made
    (merge_all c.args.base.now c.args.ours.now c.args.theirs.now keys c.loop-name.made (λ k. found_under k done) (λ k. all_found keys done k all) c.loop-name.invariant.has c.loop-name.invariant.each)

pub merge_members-returns-clause-finds : goal.merge_members-returns-clause-finds
merge_members-returns-clause-finds t c =
    let done = c.loop-name.invariant.done in
    let keys = c.loop-name.invariant.names in
    let all : keys.entries ≡ done = c.loop-name.invariant.rest ∙ ap (λ es. done ++ es) c.in-None.ensures.steps.0 ∙ append-nil done in
    members_found c.args.base.now c.args.ours.now c.args.theirs.now (tokens_of c.args.at.now) keys c.args.conflicts.now.items c.loop-name.conflicts.items c.loop-name.invariant.has
    (under_as (λ (k : Text). IsSome (found_under k done)) (λ (k : Text). IsSome (get_by_text keys k)) (tokens_of c.args.at.now) c.args.base.now c.args.ours.now c.args.theirs.now c.args.conflicts.now.items c.loop-name.conflicts.items
    (λ k some. subst (λ (o : Option Value). IsSome o) (all_found keys done k all) some) (λ k some. subst (λ (o : Option Value). IsSome o) (sym (all_found keys done k all)) some) c.loop-name.invariant.found)

pub merge_changed-returns-in_default-clause-finds : goal.merge_changed-returns-in_default-clause-finds
merge_changed-returns-in_default-clause-finds t c =
    ok_step c.append_conflict.result _ _ (one_found (tokens_of c.args.at.now) (nodes (view c.args.base.now)) (side_map c.args.ours) (side_map c.args.theirs) c.args.conflicts.now.items c.append_conflict.new.conflicts.items c.requires (λ three. c.in_default.ensures.is three.1)) c.append_conflict.ensures.appends

pub merge_changed-returns-in_default-clause-merges : goal.merge_changed-returns-in_default-clause-merges
merge_changed-returns-in_default-clause-merges t c =
    ok_all c.append_conflict.result _ (λ m. apart_merges (nodes (view c.args.base.now)) (side_map c.args.ours) (side_map c.args.theirs) (map_in m) c.requires (λ three. c.in_default.ensures.is three.1))

pub merge_changed-returns-in_default-object_of-clause-finds : goal.merge_changed-returns-in_default-object_of-clause-finds
merge_changed-returns-in_default-object_of-clause-finds t c =
    ok_step c.append_conflict-in_default-object_of.result _ _ (one_found (tokens_of c.args.at.now) (nodes (view c.args.base.now)) (side_map c.args.ours) (side_map c.args.theirs) c.args.conflicts.now.items c.append_conflict-in_default-object_of.new.conflicts.items c.requires (λ three. c.in_default-object_of.ensures.is three.2)) c.append_conflict-in_default-object_of.ensures.appends

pub merge_changed-returns-in_default-object_of-clause-merges : goal.merge_changed-returns-in_default-object_of-clause-merges
merge_changed-returns-in_default-object_of-clause-merges t c =
    ok_all c.append_conflict-in_default-object_of.result _ (λ m. apart_merges (nodes (view c.args.base.now)) (side_map c.args.ours) (side_map c.args.theirs) (map_in m) c.requires (λ three. c.in_default-object_of.ensures.is three.2))

pub merge_changed-returns-in_default-base-clause-finds : goal.merge_changed-returns-in_default-base-clause-finds
merge_changed-returns-in_default-base-clause-finds t c =
    ok_step c.append_conflict-in_default-base.result _ _ (one_found (tokens_of c.args.at.now) (nodes (view c.args.base.now)) (side_map c.args.ours) (side_map c.args.theirs) c.args.conflicts.now.items c.append_conflict-in_default-base.new.conflicts.items c.requires (λ three. not_object c.args.base.now c.in_default-base.not-Object three.0)) c.append_conflict-in_default-base.ensures.appends

pub merge_changed-returns-in_default-base-clause-merges : goal.merge_changed-returns-in_default-base-clause-merges
merge_changed-returns-in_default-base-clause-merges t c =
    ok_all c.append_conflict-in_default-base.result _ (λ m. apart_merges (nodes (view c.args.base.now)) (side_map c.args.ours) (side_map c.args.theirs) (map_in m) c.requires (λ three. not_object c.args.base.now c.in_default-base.not-Object three.0))

pub merge_changed-returns-in_ok-made-in-Object-clause-merges : goal.merge_changed-returns-in_ok-made-in-Object-clause-merges
merge_changed-returns-in_ok-made-in-Object-clause-merges t c =
    let b = c.in-Object.members in
    let o = c.in-Some.our_members.now in
    let u = c.in-Some-object_of.their_members.now in
    let m = c.in_ok-made-in-Object.made in
    merges_at (object_map b) (object_map o) (object_map u) (object_map m) (nodes (view c.args.base.now)) (side_map c.args.ours) (side_map c.args.theirs) (map_in (Some (an_object_of m)))
    (sym (ap (λ (v : Value). nodes (view v)) c.in-Object.is)) (sym c.in-Some.ensures.is) (sym c.in-Some-object_of.ensures.is) refl
    c.in_ok-made-in-Object.ensures.merges
