-- The operations that turn one object into another, member by member.
use Rattle.std.proofs.Common.{◌≡◌, ◌≤◌, Bool, true, false, cond, is_eq, nat_cmp, List, ℕ, [], ◌∷◌, ◌++◌, Option, Some, None, inl, is_some, option_map, IsSome, true≢false, string_bytes, string_cmp, refl, sym, ap, ◌∙◌, subst, arith}
use Rattle.std.specs.Cmp.Lexicographic.{slice_cmp}
use Rattle.std.specs.BTreeMap.{get_by_text}
use Rattle.std.specs.List.Sorted.{IsStrictlySortedBy}
use Rattle.std.specs.Map.{keys_of}
use Rattle.serde_json.specs.Data.{Data, depth, members_depth}
use Rattle.serde_json.specs.Find.{as_object}
use Rattle.serde_json.specs.View.{view, members_view}
use Rattle.serde_json.specs.declared.value.Value.{Value, Object}
use Rattle.serde_json.proofs.Views.{Entry, view-Object}
use Rattle.jsonptr.specs.Text.{Text}
use Rattle.jsonptr.specs.Node.{key, Label, an_object, NodeMap, sub, NamesStep}
use Rattle.jsonptr.specs.Put.{put}
use Rattle.jsonptr.specs.Json.{nodes}
use Rattle.jsonptr_tree.proofs.JsonLemmas.{content_of, content_one, object_is, ascends_part}
use Rattle.jsonptr_tree.proofs.LevelLemmas.{content_at-Object}
use Rattle.jsonptr_document.proofs.JsonLevel.{object_at}
use Rattle.jsonptr_patch.specs.PrivateTesting as tested
use Rattle.jsonptr_patch.specs.declared.operation.Operation.{Operation}
use Rattle.jsonptr_patch.proofs.TestingLemmas.{found_under, object_label}
use Rattle.jsonptr_patch_diff.specs.Diff.{AreOfOneKind}
use Rattle.jsonptr_patch_diff.specs.PrivateSame.{IsSame, SameMember, SameMembers}
use Rattle.jsonptr_patch_diff.specs.PrivateDiff.{AppendsRemove, AppendsAdd, AppendsChanges, IsLike, Turns, object_map, mixed}
use Rattle.jsonptr_patch_diff.proofs.TurningLemmas.{turns_nowhere, turns_further, turns_as, turns_below, turns_remove_member, turns_add_member}
use Rattle.jsonptr_patch_diff.proofs.ChangeLemmas.{changes_under, changes_remove, changes_add}
use Rattle.jsonptr_patch_diff.proofs.MixedLemmas.{without-put, mixed_none, mixed_push, mixed_left, mixed_all, mixed_skip, member_map, no_member_map, entry_found, entry_before}

first_or_later : (e : Entry) (es : List Entry) (k : Text) (w : Value) (b : Bool) → (found_under k es ≡ Some w → depth (view w) ≤ members_depth (members_view es)) → cond b (Some e.1) (found_under k es) ≡ Some w → depth (view w) ≤ members_depth (members_view (e ∷ es))
first_or_later e es k w true later is =
    let same : e.1 ≡ w = cc in
    omega (arith, ap (λ (u : Value). depth (view u)) same)
first_or_later e es k w false later is = omega (arith, later is)

member_within : (es : List Entry) (k : Text) (w : Value) → found_under k es ≡ Some w → depth (view w) ≤ members_depth (members_view es)
member_within [] k w found = let none : ⊥ = cc in absurd none
member_within (e ∷ es) k w found = first_or_later e es k w (is_eq (slice_cmp nat_cmp k (string_bytes e.0))) (member_within es k w) found

-- the keys in a member of an object with sorted keys are sorted, and it nests less deep
pub member_like : (n : tested.Object) (k : Text) (w : Value) → get_by_text n k ≡ Some w → IsLike (view (Object n)) (view w)
member_like n k w found = record {
  sorted = λ sorted. ascends_part (key k ∷ []) (view (Object n)) (view w) sorted (content_at-Object content_of Object object_is n k ∙ ap (option_map content_of) found);
  shallow = omega (arith, member_within n.entries k w found, ap depth (view-Object n));
}

pub mixed_root : (m : tested.Object) (done : List Entry) (d : NodeMap) → IsSome (mixed done (object_map m) d [])
mixed_root m done d = subst (λ (l : Option Label). IsSome l) (sym (object_label m)) refl

-- no member yet
pub members_start : (goal : Data) (first : List Operation) (base : List Text) (c d : NodeMap) → Turns goal first first base c (mixed [] c d)
members_start goal first base c d = turns_nowhere goal first base c (mixed [] c d) (sym (mixed_none c d))

-- a member that both have
pub member_turns : (m n : tested.Object) (first before after : List Operation) (base : List Text) (done : List Entry) (e : Entry) (more : List Entry) (k : Text) (w : Value) → k ≡ string_bytes e.0 → m.entries ≡ done ++ e ∷ more → IsStrictlySortedBy string_cmp (keys_of m.entries) → get_by_text n (string_bytes e.0) ≡ Some w → Turns (view (Object n)) first before base (object_map m) (mixed done (object_map m) (object_map n)) → Turns (view w) before after (base ++ k ∷ []) (nodes (view e.1)) (nodes (view w)) → Turns (view (Object n)) first after base (object_map m) (mixed (done ++ e ∷ []) (object_map m) (object_map n))
member_turns m n first before after base done e more k w name is ordered found turns child =
    let l = string_bytes e.0 in
    let goal = view (Object n) in
    let mid = mixed done (object_map m) (object_map n) in
    let here : nodes (view e.1) ≡ sub mid (key l ∷ []) = sym (member_map m l e.1 (entry_found m done e more is ordered)) ∙ sym (mixed_left done l (object_map m) (object_map n) (entry_before m done e more is ordered)) in
    let root : mid [] ≡ Some an_object = object_label m in
    let kind : AreOfOneKind (mid []) (nodes goal []) = inl (object_label m, object_label n) in
    let step = turns_below goal (view w) before after base l (key l) mid (nodes (view e.1)) (nodes (view w)) (member_like n l w found) (sym (member_map n l w found)) (subst (λ (a : Option Label). NamesStep a l (key l)) (sym root) refl) (subst (λ (q : NodeMap). IsSome (q [])) here refl) here kind tt
    (subst (λ (t : Text). Turns (view w) before after (base ++ t ∷ []) (nodes (view e.1)) (nodes (view w))) name child) in
    turns_further goal first before after base (object_map m) mid (mixed (done ++ e ∷ []) (object_map m) (object_map n)) (mixed_root m done (object_map n)) turns
    (turns_as goal before after base mid (mixed (done ++ e ∷ []) (object_map m) (object_map n)) mid (put mid (key l ∷ []) (nodes (view w))) refl (mixed_push done e (object_map m) (object_map n) ∙ ap (put mid (key l ∷ [])) (member_map n l w found)) step)

-- a member that the second lacks
pub member_removed : (m n : tested.Object) (first before after : List Operation) (base : List Text) (done : List Entry) (e : Entry) (more : List Entry) (k : Text) → k ≡ string_bytes e.0 → m.entries ≡ done ++ e ∷ more → IsStrictlySortedBy string_cmp (keys_of m.entries) → get_by_text n (string_bytes e.0) ≡ None → Turns (view (Object n)) first before base (object_map m) (mixed done (object_map m) (object_map n)) → AppendsRemove before after (base ++ k ∷ []) → Turns (view (Object n)) first after base (object_map m) (mixed (done ++ e ∷ []) (object_map m) (object_map n))
member_removed m n first before after base done e more k name is ordered lacks turns removed =
    let l = string_bytes e.0 in
    let goal = view (Object n) in
    let mid = mixed done (object_map m) (object_map n) in
    let here : nodes (view e.1) ≡ sub mid (key l ∷ []) = sym (member_map m l e.1 (entry_found m done e more is ordered)) ∙ sym (mixed_left done l (object_map m) (object_map n) (entry_before m done e more is ordered)) in
    let kind : AreOfOneKind (mid []) (nodes goal []) = inl (object_label m, object_label n) in
    let step = turns_remove_member goal before after base l mid kind (ap (λ (q : NodeMap). q []) (no_member_map n l lacks)) (object_label m) (subst (λ (q : NodeMap). IsSome (q [])) here refl) (subst (λ (t : Text). AppendsRemove before after (base ++ t ∷ [])) name removed) in
    turns_further goal first before after base (object_map m) mid (mixed (done ++ e ∷ []) (object_map m) (object_map n)) (mixed_root m done (object_map n)) turns
    (turns_as goal before after base mid (mixed (done ++ e ∷ []) (object_map m) (object_map n)) mid _ refl (mixed_push done e (object_map m) (object_map n) ∙ ap (put mid (key l ∷ [])) (no_member_map n l lacks) ∙ sym (without-put l mid)) step)

-- a member that the first lacks
pub member_added : (m n : tested.Object) (first before after : List Operation) (base : List Text) (done : List Entry) (e : Entry) (more : List Entry) (k : Text) → k ≡ string_bytes e.0 → n.entries ≡ done ++ e ∷ more → IsStrictlySortedBy string_cmp (keys_of n.entries) → get_by_text m (string_bytes e.0) ≡ None → Turns (view (Object n)) first before base (mixed m.entries (object_map m) (object_map n)) (mixed done (mixed m.entries (object_map m) (object_map n)) (object_map n)) → AppendsAdd before after (base ++ k ∷ []) (view e.1) → Turns (view (Object n)) first after base (mixed m.entries (object_map m) (object_map n)) (mixed (done ++ e ∷ []) (mixed m.entries (object_map m) (object_map n)) (object_map n))
member_added m n first before after base done e more k name is ordered none turns added =
    let l = string_bytes e.0 in
    let goal = view (Object n) in
    let c = mixed m.entries (object_map m) (object_map n) in
    let mid = mixed done c (object_map n) in
    let found = entry_found n done e more is ordered in
    let kind : AreOfOneKind (mid []) (nodes goal []) = inl (object_label m, object_label n) in
    let missing = mixed_left done l c (object_map n) (entry_before n done e more is ordered) ∙ mixed_left m.entries l (object_map m) (object_map n) none ∙ no_member_map m l none in
    let step = turns_add_member goal before after base l mid (view e.1) (member_like n l e.1 found) kind (ap (λ (q : NodeMap). q []) missing) (sym (member_map n l e.1 found)) (object_label m) (subst (λ (t : Text). AppendsAdd before after (base ++ t ∷ []) (view e.1)) name added) in
    turns_further goal first before after base c mid (mixed (done ++ e ∷ []) c (object_map n)) (mixed_root m done (object_map n)) turns
    (turns_as goal before after base mid (mixed (done ++ e ∷ []) c (object_map n)) mid (put mid (key l ∷ []) (nodes (view e.1))) refl (mixed_push done e c (object_map n) ∙ ap (put mid (key l ∷ [])) (member_map n l e.1 found)) step)

-- a member that both have is there already
pub member_stays : (m n : tested.Object) (goal : Data) (first before : List Operation) (base : List Text) (done : List Entry) (e : Entry) → IsSome (get_by_text m (string_bytes e.0)) → Turns goal first before base (mixed m.entries (object_map m) (object_map n)) (mixed done (mixed m.entries (object_map m) (object_map n)) (object_map n)) → Turns goal first before base (mixed m.entries (object_map m) (object_map n)) (mixed (done ++ e ∷ []) (mixed m.entries (object_map m) (object_map n)) (object_map n))
member_stays m n goal first before base done e has turns =
    let c = mixed m.entries (object_map m) (object_map n) in
    turns_as goal first before base c (mixed (done ++ e ∷ []) c (object_map n)) c (mixed done c (object_map n)) refl (mixed_skip m done e (object_map m) (object_map n) has) turns

-- all members
pub members_turn : (m : tested.Object) (d : NodeMap) (goal : Data) (first last : List Operation) (base : List Text) (done : List Entry) → m.entries ≡ done → Turns goal first last base (object_map m) (mixed done (object_map m) d) → Turns goal first last base (object_map m) (mixed m.entries (object_map m) d)
members_turn m d goal first last base done is turns = subst (λ (es : List Entry). Turns goal first last base (object_map m) (mixed es (object_map m) d)) (sym is) turns

pub members_added : (m n : tested.Object) (goal : Data) (first last : List Operation) (base : List Text) (done : List Entry) → n.entries ≡ done → Turns goal first last base (mixed m.entries (object_map m) (object_map n)) (mixed done (mixed m.entries (object_map m) (object_map n)) (object_map n)) → Turns goal first last base (mixed m.entries (object_map m) (object_map n)) (object_map n)
members_added m n goal first last base done is turns =
    let c = mixed m.entries (object_map m) (object_map n) in
    turns_as goal first last base c (object_map n) c (mixed done c (object_map n)) refl (sym (mixed_all m n) ∙ ap (λ (es : List Entry). mixed es c (object_map n)) is) turns

-- objects, as values
pub objects_turn : (v w : Value) (m n : tested.Object) (first last : List Operation) (base : List Text) → v ≡ Object m → Some (members_view n.entries) ≡ as_object (view w) → Turns (view (Object n)) first last base (object_map m) (object_map n) → Turns (view w) first last base (nodes (view v)) (nodes (view w))
objects_turn v w m n first last base is other turns =
    let same : view w ≡ view (Object n) = content_one (view w) (view (Object n)) (object_at w n other) in
    subst (λ (d : Data). Turns d first last base (nodes (view v)) (nodes d)) (sym same) (turns_as (view (Object n)) first last base (nodes (view v)) (object_map n) (object_map m) (object_map n) (ap (λ (u : Value). nodes (view u)) is) refl turns)

-- ---- which operations are appended

module _ (m n : tested.Object) (before after : List Operation) (base : List Text) (done : List Entry) (e : Entry) (more : List Entry) (k : Text) (name : k ≡ string_bytes e.0) where
  map_under : (o : tested.Object) (v : Value) → get_by_text o (string_bytes e.0) ≡ Some v → sub (object_map o) (key k ∷ []) ≡ nodes (view v)
  map_under o v found = ap (λ (t : Text). sub (object_map o) (key t ∷ [])) name ∙ member_map o (string_bytes e.0) v found

  there_under : (o : tested.Object) (v : Value) → get_by_text o (string_bytes e.0) ≡ Some v → IsSome (object_map o (key k ∷ []))
  there_under o v found = subst (λ (q : NodeMap). IsSome (q [])) (sym (map_under o v found)) refl

  none_under : (o : tested.Object) → get_by_text o (string_bytes e.0) ≡ None → object_map o (key k ∷ []) ≡ None
  none_under o lacks = ap (λ (q : NodeMap). q []) (ap (λ (t : Text). sub (object_map o) (key t ∷ [])) name ∙ no_member_map o (string_bytes e.0) lacks)

  both_objects : AreOfOneKind (object_map m []) (object_map n [])
  both_objects = inl (object_label m, object_label n)

  -- a member that both have
  pub member_changes : (w : Value) → m.entries ≡ done ++ e ∷ more → IsStrictlySortedBy string_cmp (keys_of m.entries) → get_by_text n (string_bytes e.0) ≡ Some w → AppendsChanges (base ++ k ∷ []) (nodes (view e.1)) (nodes (view w)) before after → AppendsChanges base (object_map m) (object_map n) before after
  member_changes w is ordered found child = changes_under base (object_map m) (object_map n) (nodes (view e.1)) (nodes (view w)) k both_objects (map_under m e.1 (entry_found m done e more is ordered)) (map_under n w found) refl before after child

  -- a member that the second lacks
  pub member_gone : m.entries ≡ done ++ e ∷ more → IsStrictlySortedBy string_cmp (keys_of m.entries) → get_by_text n (string_bytes e.0) ≡ None → AppendsRemove before after (base ++ k ∷ []) → AppendsChanges base (object_map m) (object_map n) before after
  member_gone is ordered lacks removed = changes_remove base (object_map m) (object_map n) k before after both_objects (there_under m e.1 (entry_found m done e more is ordered)) (none_under n lacks) removed

  -- a member that the first lacks
  pub member_come : n.entries ≡ done ++ e ∷ more → IsStrictlySortedBy string_cmp (keys_of n.entries) → get_by_text m (string_bytes e.0) ≡ None → AppendsAdd before after (base ++ k ∷ []) (view e.1) → AppendsChanges base (object_map m) (object_map n) before after
  member_come is ordered lacks added = changes_add base (object_map m) (object_map n) k (view e.1) before after both_objects (none_under m lacks) (there_under n e.1 (entry_found n done e more is ordered)) added

no_value : {T : Type 0} (o : Option T) → is_some o ≡ false → o ≡ None
no_value None h = refl
no_value (Some v) h = absurd (true≢false h)

pub key_missing : (m : tested.Object) (k s : List ℕ) (b : Bool) → s ≡ k → b ≡ is_some (get_by_text m s) → b ≡ false → get_by_text m k ≡ None
key_missing m k s b same is lacks = no_value (get_by_text m k) (sym (ap (λ (l : List ℕ). is_some (get_by_text m l)) same) ∙ sym is ∙ lacks)

-- objects, as values
pub objects_change : (v w : Value) (m n : tested.Object) (first last : List Operation) (base : List Text) → v ≡ Object m → Some (members_view n.entries) ≡ as_object (view w) → AppendsChanges base (object_map m) (object_map n) first last → AppendsChanges base (nodes (view v)) (nodes (view w)) first last
objects_change v w m n first last base is other h =
    let same : view w ≡ view (Object n) = content_one (view w) (view (Object n)) (object_at w n other) in
    subst (λ (d : Data). AppendsChanges base (nodes (view v)) (nodes d) first last) (sym same) (subst (λ (u : Value). AppendsChanges base (nodes (view u)) (object_map n) first last) (sym is) h)

-- ---- members of objects that are the same

module _ (m n : tested.Object) (done : List Entry) (e : Entry) (more : List Entry) (is : m.entries ≡ done ++ e ∷ more) (ordered : IsStrictlySortedBy string_cmp (keys_of m.entries)) where
  same_member : SameMembers m n → SameMember (Some e.1) (get_by_text n (string_bytes e.0))
  same_member same = subst (λ (o : Option Value). SameMember o (get_by_text n (string_bytes e.0))) (entry_found m done e more is ordered) (same (string_bytes e.0))

  pub same_has : get_by_text n (string_bytes e.0) ≡ None → SameMembers m n → ⊥
  same_has lacks same = subst (λ (p : Option Value). SameMember (Some e.1) p) lacks (same_member same)

  pub same_value : (w : Value) → get_by_text n (string_bytes e.0) ≡ Some w → SameMembers m n → IsSame e.1 w
  same_value w found same = subst (λ (p : Option Value). SameMember (Some e.1) p) found (same_member same)
