use Rattle.std.proofs.Common.{◌≡◌, [], ◌∷◌, ◌++◌, true≢false, sym, ap, ◌∙◌, append_assoc, append-nil}
use Rattle.serde_json.proofs.Views.{Entry}
use Rattle.jsonptr_tree.proofs.JsonLemmas.{content_of, null_is, bool_is, number_is, string_is}
use Rattle.jsonptr_patch_diff.proofs.SameLemmas.{null_same, truth_same, truth_differs, text_same, text_differs, number_same, number_differs, array_same, array_differs, object_same, object_differs, same_push, members_all, length_differs, key_differs, value_differs, ends_early, equal_texts, other_texts}
use Rattle.jsonptr_patch.proofs.TestingLemmas.{always}
use Rattle.jsonptr_patch_diff.proofs.same.+same.Goals as goal
use Rattle.jsonptr_patch_diff.proofs.same.+same.Goals.{same_members-then-ne-via-then-ne, same_members-then-ne-via-else-ne+then-not-is_same}
use Rattle.std.proofs.lemmas.Slice.Eq.{bytes_eq-Decides}

pub is_same-returns-in-Null : goal.is_same-returns-in-Null
is_same-returns-in-Null t c = null_same _ _ _ (ap content_of c.in-Null.is ∙ null_is) c.is_null.ensures

pub is_same-returns-in-Some : goal.is_same-returns-in-Some
is_same-returns-in-Some t c = truth_same _ _ _ _ (ap content_of c.in-Bool.is ∙ bool_is _) c.in-Some.ensures

pub is_same-returns-in-None : goal.is_same-returns-in-None
is_same-returns-in-None t c = truth_differs _ _ _ (ap content_of c.in-Bool.is ∙ bool_is _) c.in-None.ensures

pub is_same-returns-in-Some-as_number : goal.is_same-returns-in-Some-as_number
is_same-returns-in-Some-as_number t c = number_same _ _ _ _ _ (ap content_of c.in-Number.is ∙ number_is _) c.in-Some-as_number.ensures c.is_same_number.ensures

pub is_same-returns-in-None-as_number : goal.is_same-returns-in-None-as_number
is_same-returns-in-None-as_number t c = number_differs _ _ _ (ap content_of c.in-Number.is ∙ number_is _) c.in-None-as_number.ensures

pub is_same-returns-in-Some-as_str : goal.is_same-returns-in-Some-as_str
is_same-returns-in-Some-as_str t c =
    let by = bytes_eq-Decides c.as_str-in-Some-as_str.result.now c.in-Some-as_str.other.now in
    let same = c.as_str-in-Some-as_str.ensures.value in
    text_same _ _ _ _ _ (ap content_of c.in-String.is ∙ string_is _) c.in-Some-as_str.ensures (λ h. sym same ∙ by.0 (sym c.eq.ensures ∙ h), λ h. c.eq.ensures ∙ by.1 (same ∙ h))

pub is_same-returns-in-None-as_str : goal.is_same-returns-in-None-as_str
is_same-returns-in-None-as_str t c = text_differs _ _ _ (ap content_of c.in-String.is ∙ string_is _) c.in-None-as_str.ensures

pub is_same-returns-in-Some-as_array : goal.is_same-returns-in-Some-as_array
is_same-returns-in-Some-as_array t c = array_same _ _ c.in-Array.elements c.in-Some-as_array.others.now _ c.in-Array.is c.in-Some-as_array.ensures c.same_elements.ensures

pub is_same-returns-in-None-as_array : goal.is_same-returns-in-None-as_array
is_same-returns-in-None-as_array t c = array_differs _ _ c.in-Array.elements c.in-Array.is c.in-None-as_array.ensures

pub is_same-returns-in-Some-as_object : goal.is_same-returns-in-Some-as_object
is_same-returns-in-Some-as_object t c = object_same _ _ c.in-Object.members c.in-Some-as_object.others.now _ c.in-Object.is c.in-Some-as_object.ensures c.same_members.ensures

pub is_same-returns-in-None-as_object : goal.is_same-returns-in-None-as_object
is_same-returns-in-None-as_object t c = object_differs _ _ c.in-Object.members c.in-Object.is c.in-None-as_object.ensures

pub same_members-returns-then-len : goal.same_members-returns-then-len
same_members-returns-then-len t c = length_differs c.args.left.now c.args.right.now c.len.ensures.ordered c.len-2.ensures.ordered (λ long. c.if-len.true (c.len.ensures.len ∙ long ∙ sym c.len-2.ensures.len))

pub same_members-returns-in_default : goal.same_members-returns-in_default
same_members-returns-in_default t c =
    let invariant = c.loop-key.invariant in
    ends_early _ c.args.left.now c.args.right.now invariant.done invariant.also c.next.new.self c.loop-key.others (c.in-Some.key.now, c.in-Some.member.now)
    (invariant.left ∙ ap (λ es. invariant.done ++ es) c.in-Some.ensures.steps) invariant.right c.in_default.ensures.steps.0 (sym c.len.ensures.len ∙ c.if-len.false ∙ c.len-2.ensures.len) invariant.same

pub same_members-returns-then-ne : goal.same_members-returns-then-ne
same_members-returns-then-ne t c =
    let invariant = c.loop-key.invariant in
    let e : Entry = (c.in-Some.key.now, c.in-Some.member.now) in
    let f : Entry = (c.in-Some-next.name.now, c.in-Some-next.other.now) in
    let left = invariant.left ∙ ap (λ es. invariant.done ++ es) c.in-Some.ensures.steps in
    let right = invariant.right ∙ ap (λ es. invariant.also ++ es) c.in-Some-next.ensures.steps in
    elim c.then-ne.branch [
      | same_members-then-ne-via-then-ne w ↦ key_differs c.args.left.now c.args.right.now invariant.done invariant.also c.next.new.self c.next-in-loop-key.new.self e f left right c.len.ensures.ordered c.len-2.ensures.ordered invariant.same
          (other_texts c.as_str.result.now c.as_str-in-loop-key.result.now _ _ c.ne.result c.as_str.ensures.value c.as_str-in-loop-key.ensures.value c.ne.ensures w.if-ne.true)
      | same_members-then-ne-via-else-ne+then-not-is_same w ↦ value_differs c.args.left.now c.args.right.now invariant.done invariant.also c.next.new.self c.next-in-loop-key.new.self e f left right c.len.ensures.ordered c.len-2.ensures.ordered
          (equal_texts c.as_str.result.now c.as_str-in-loop-key.result.now _ _ c.ne.result c.as_str.ensures.value c.as_str-in-loop-key.ensures.value c.ne.ensures w.if-ne.false)
          (λ same. true≢false (sym (w.is_same.ensures.1 same) ∙ w.if-not-is_same.true))
    ]

pub same_members-loop-key-preserved : goal.same_members-loop-key-preserved
same_members-loop-key-preserved t c =
    let invariant = c.loop-key.invariant in
    let e : Entry = (c.in-Some.key.now, c.in-Some.member.now) in
    let f : Entry = (c.in-Some-next.name.now, c.in-Some-next.other.now) in
    let left = invariant.left ∙ ap (λ es. invariant.done ++ es) c.in-Some.ensures.steps in
    let right = invariant.right ∙ ap (λ es. invariant.also ++ es) c.in-Some-next.ensures.steps in
    record {
      done = invariant.done ++ e ∷ [];
      also = invariant.also ++ f ∷ [];
      left = left ∙ sym (append_assoc invariant.done (e ∷ []) c.next.new.self);
      right = right ∙ sym (append_assoc invariant.also (f ∷ []) c.next-in-loop-key.new.self);
      same = same_push invariant.done invariant.also e f invariant.same
          (equal_texts c.as_str.result.now c.as_str-in-loop-key.result.now _ _ c.ne.result c.as_str.ensures.value c.as_str-in-loop-key.ensures.value c.ne.ensures c.if-ne.false)
          (c.is_same.ensures.0 c.if-not-is_same.false);
    }

pub same_members-returns : goal.same_members-returns
same_members-returns t c =
    let invariant = c.loop-key.invariant in
    let all : c.args.left.now.entries ≡ invariant.done = invariant.left ∙ ap (λ es. invariant.done ++ es) c.in-None.ensures.steps.0 ∙ append-nil invariant.done in
    always _ (members_all c.args.left.now c.args.right.now invariant.done invariant.also c.loop-key.others all invariant.right (sym c.len.ensures.len ∙ c.if-len.false ∙ c.len-2.ensures.len) invariant.same)
