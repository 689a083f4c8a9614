use Rattle.std.proofs.Common.{◌≡◌, [], ◌∷◌, ◌++◌, Some, string_bytes, true≢false, sym, ap, ◌∙◌, append_assoc, append-nil}
use Rattle.serde_json.proofs.Views.{Entry}
use Rattle.jsonptr_tree.proofs.JsonLemmas.{content_of, null_is, bool_is, number_is, string_is}
use Rattle.jsonptr_patch.proofs.TestingLemmas.{null_same, truth_same, truth_differs, text_same, text_differs, number_same, number_differs, array_same, array_differs, object_same, object_differs, same_push, member_differs, members_all, equal_there, none_there}
use Rattle.jsonptr_patch.proofs.equality.+equal.Goals as goal
use Rattle.jsonptr_patch.proofs.equality.+equal.Goals.{same_members-in-Some-get, same_members-in-None-get}
use Rattle.jsonptr_patch.specs.PrivateTesting.{SameMember}
use Rattle.std.specs.BTreeMap.{get_by_text}
use Rattle.std.proofs.lemmas.Slice.Eq.{bytes_eq-Decides}

pub is_equal-returns-in-Null : goal.is_equal-returns-in-Null
is_equal-returns-in-Null t c = null_same c.args.comparison _ _ _ (ap content_of c.in-Null.is ∙ null_is) c.is_null.ensures

pub is_equal-returns-in-Some : goal.is_equal-returns-in-Some
is_equal-returns-in-Some t c = truth_same c.args.comparison _ _ _ _ (ap content_of c.in-Bool.is ∙ bool_is _) c.in-Some.ensures

pub is_equal-returns-in-None : goal.is_equal-returns-in-None
is_equal-returns-in-None t c = truth_differs c.args.comparison _ _ _ (ap content_of c.in-Bool.is ∙ bool_is _) c.in-None.ensures

pub is_equal-returns-in-Some-as_number : goal.is_equal-returns-in-Some-as_number
is_equal-returns-in-Some-as_number t c = number_same c.args.comparison _ _ _ _ _ (ap content_of c.in-Number.is ∙ number_is _) c.in-Some-as_number.ensures c.same_number.ensures

pub is_equal-returns-in-None-as_number : goal.is_equal-returns-in-None-as_number
is_equal-returns-in-None-as_number t c = number_differs c.args.comparison _ _ _ (ap content_of c.in-Number.is ∙ number_is _) c.in-None-as_number.ensures

pub is_equal-returns-in-Some-as_str : goal.is_equal-returns-in-Some-as_str
is_equal-returns-in-Some-as_str t c =
    let by = bytes_eq-Decides c.as_str-in-Some-as_str.result.now c.in-Some-as_str.other.now in
    let same = c.as_str-in-Some-as_str.ensures.value in
    text_same c.args.comparison _ _ _ _ _ (ap content_of c.in-String.is ∙ string_is _) c.in-Some-as_str.ensures (λ h. sym same ∙ by.0 (sym c.eq.ensures ∙ h), λ h. c.eq.ensures ∙ by.1 (same ∙ h))

pub is_equal-returns-in-None-as_str : goal.is_equal-returns-in-None-as_str
is_equal-returns-in-None-as_str t c = text_differs c.args.comparison _ _ _ (ap content_of c.in-String.is ∙ string_is _) c.in-None-as_str.ensures

pub is_equal-returns-in-Some-as_array : goal.is_equal-returns-in-Some-as_array
is_equal-returns-in-Some-as_array t c = array_same c.args.comparison _ _ c.in-Array.elements c.in-Some-as_array.others.now _ c.in-Array.is c.in-Some-as_array.ensures c.same_elements.ensures

pub is_equal-returns-in-None-as_array : goal.is_equal-returns-in-None-as_array
is_equal-returns-in-None-as_array t c = array_differs c.args.comparison _ _ c.in-Array.elements c.in-Array.is c.in-None-as_array.ensures

pub is_equal-returns-in-Some-as_object : goal.is_equal-returns-in-Some-as_object
is_equal-returns-in-Some-as_object t c = object_same c.args.comparison _ _ c.in-Object.members c.in-Some-as_object.others.now _ c.in-Object.is c.in-Some-as_object.ensures c.same_members.ensures

pub is_equal-returns-in-None-as_object : goal.is_equal-returns-in-None-as_object
is_equal-returns-in-None-as_object t c = object_differs c.args.comparison _ _ c.in-Object.members c.in-Object.is c.in-None-as_object.ensures

pub same_members-loop-key-preserved : goal.same_members-loop-key-preserved
same_members-loop-key-preserved t c =
    let done = c.loop-key.invariant.0 in
    let e : Entry = (c.in-Some.key.now, c.in-Some.member.now) in
    let left = c.next.new.self in
    let all : c.args.left.now.entries ≡ done ++ e ∷ left = c.loop-key.invariant.1 ∙ ap (λ es. done ++ es) c.in-Some.ensures.steps in
    let same : SameMember c.args.comparison (Some e.1) (get_by_text c.args.right.now (string_bytes e.0)) = elim c.match-get.branch [
      | same_members-in-Some-get w ↦ (equal_there c.args.comparison c.args.right.now _ _ _ _ _ c.as_str.ensures.value w.in-Some-get.ensures.value w.is_equal-same.ensures).0 (sym w.same-is ∙ c.if-not-same.false)
      | same_members-in-None-get w ↦ absurd (true≢false (sym c.if-not-same.false ∙ w.same-is))
    ] in
    (done ++ e ∷ [], all ∙ sym (append_assoc done (e ∷ []) left), same_push c.args.comparison c.args.right.now done e c.loop-key.invariant.2 same)

pub same_members-returns : goal.same_members-returns
same_members-returns t c =
    let done = c.loop-key.invariant.0 in
    let all : c.args.left.now.entries ≡ done = c.loop-key.invariant.1 ∙ ap (λ es. done ++ es) c.in-None.ensures.steps.0 ∙ append-nil done in
    members_all c.args.comparison c.args.left.now c.args.right.now done _ all c.loop-key.invariant.2 c.has_keys_of.ensures

pub same_members-returns-then-not-same : goal.same_members-returns-then-not-same
same_members-returns-then-not-same t c =
    let done = c.loop-key.invariant.0 in
    let e : Entry = (c.in-Some.key.now, c.in-Some.member.now) in
    let left = c.next.new.self in
    let all : c.args.left.now.entries ≡ done ++ e ∷ left = c.loop-key.invariant.1 ∙ ap (λ es. done ++ es) c.in-Some.ensures.steps in
    let differs : SameMember c.args.comparison (Some e.1) (get_by_text c.args.right.now (string_bytes e.0)) → ⊥ = elim c.match-get.branch [
      | same_members-in-Some-get w ↦ λ h. true≢false (sym ((equal_there c.args.comparison c.args.right.now _ _ _ _ _ c.as_str.ensures.value w.in-Some-get.ensures.value w.is_equal-same.ensures).1 h) ∙ sym w.same-is ∙ c.if-not-same.true)
      | same_members-in-None-get w ↦ none_there c.args.comparison c.args.right.now _ _ _ c.as_str.ensures.value w.in-None-get.ensures.value
    ] in
    member_differs c.args.comparison c.args.left.now c.args.right.now done e left all c.iter-key-items.ensures.ordered differs
