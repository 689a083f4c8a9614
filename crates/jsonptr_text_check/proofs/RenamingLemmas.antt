-- One turn of reading an object beside the same object with one member under another key.
use Rattle.std.proofs.Common.{◌≡◌, ℕ, List, Bool, true, false, ◌||◌, IsTrue, ◌↔◌, None, true≢false, refl, sym, ap, ◌∙◌, subst}
use Rattle.serde_json.specs.Data.{Data, Members, put}
use Rattle.serde_json.specs.Find.{get_member}
use Rattle.serde_json.proofs.Views.{get_member-put, get_member-put_other}
use Rattle.jsonptr_text_check.specs.Editing.{RenamesKey}
use Rattle.jsonptr_text_check.specs.PrivateRenaming.{MayPass, IsKeyAfter, MembersRenamed}
use Rattle.jsonptr_text_check.proofs.ChildLemmas.{not_named, others_put}

-- the member with the old key
renamed_now : (from to : List ℕ) (ms : Members) (d : Data) → get_member from ms ≡ None → get_member to ms ≡ None → (to ≡ from → ⊥) → RenamesKey from to d (put from d ms) (put to d ms)
renamed_now from to ms d none free apart = record {
  was = get_member-put from d ms;
  free = get_member-put_other to from d ms apart ∙ free;
  is = get_member-put to d ms;
  gone = get_member-put_other from to d ms (λ e. apart (sym e)) ∙ none;
  others = λ l other others. get_member-put_other l to d ms others ∙ sym (get_member-put_other l from d ms other);
}

-- a member with neither key
kept_key : (from to name : List ℕ) (e d : Data) (ms ms2 : Members) → RenamesKey from to e ms ms2 → (from ≡ name → ⊥) → (to ≡ name → ⊥) → RenamesKey from to e (put name d ms) (put name d ms2)
kept_key from to name e d ms ms2 h other others = record {
  was = get_member-put_other from name d ms other ∙ h.was;
  free = get_member-put_other to name d ms others ∙ h.free;
  is = get_member-put_other to name d ms2 others ∙ h.is;
  gone = get_member-put_other from name d ms2 other ∙ h.gone;
  others = λ l x y. others_put from name l d ms ms2 (h.others l x y);
}

pub one_renamed : (done named taken : Bool) (from to name key : List ℕ) (ms ms2 : Members) (d : Data) → MembersRenamed done from to ms ms2 → (IsTrue named ↔ (name ≡ from)) → (IsTrue taken ↔ (name ≡ to)) → MayPass done named taken → IsKeyAfter named name to key
    → MembersRenamed (done || named) from to (put name d ms) (put key d ms2)
one_renamed false true taken from to name key ms ms2 d h iff also may after =
    let same : name ≡ from = iff.0 refl in
    let apart : to ≡ name → ⊥ = not_named taken name to also may.0 in (
      d,
      subst (λ (n : List ℕ). RenamesKey from to d (put n d ms) (put key d ms2)) (sym same)
          (subst (λ (n : List ℕ). RenamesKey from to d (put from d ms) (put n d ms2)) (sym after)
          (subst (λ (m : Members). RenamesKey from to d (put from d ms) (put to d m)) (sym h.2) (renamed_now from to ms d h.0 h.1 (λ e. apart (e ∙ sym same))))),
    )
one_renamed false false taken from to name key ms ms2 d h iff also may after =
    let other : from ≡ name → ⊥ = not_named false name from iff refl in
    let others : to ≡ name → ⊥ = not_named taken name to also may.0 in (
      get_member-put_other from name d ms other ∙ h.0,
      get_member-put_other to name d ms others ∙ h.1,
      ap (λ (n : List ℕ). put n d ms2) after ∙ ap (put name d) h.2,
    )
one_renamed true false taken from to name key ms ms2 d h iff also may after =
    let other : from ≡ name → ⊥ = not_named false name from iff refl in
    let others : to ≡ name → ⊥ = not_named taken name to also may.0 in (
      h.0,
      subst (λ (n : List ℕ). RenamesKey from to h.0 (put name d ms) (put n d ms2)) (sym after) (kept_key from to name h.0 d ms ms2 h.1 other others),
    )
one_renamed true true taken from to name key ms ms2 d h iff also may after = absurd (true≢false (may.1 refl))
