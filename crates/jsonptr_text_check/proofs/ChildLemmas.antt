-- Two arrays or objects that are read side by side, one child more at a time.
use Rattle.std.proofs.Common.{◌≡◌, ℕ, zero, suc, ◌+◌, ◌<◌, ◌≤◌, List, [], ◌∷◌, ◌++◌, length, Bool, true, false, ◌||◌, IsTrue, ◌↔◌, Some, true≢false, refl, sym, ap, ap₂, ◌∙◌, subst, arith, length-append}
use Rattle.std.specs.Str.{bytes_eq}
use Rattle.std.proofs.lemmas.Slice.Eq.{bytes_eq-Decides}
use Rattle.serde_json.specs.Data.{Data, no_items, Members, put}
use Rattle.serde_json.specs.Find.{get_member, get_item}
use Rattle.serde_json.specs.Read.{read}
use Rattle.serde_json.proofs.Views.{get_member-put, get_member-put_other}
use Rattle.jsonptr_text_search.specs.Search.{Choice}
use Rattle.jsonptr_text_search.specs.PrivateReading.{with_items_before}
use Rattle.jsonptr_text_check.specs.declared.change.Change.{Change}
use Rattle.jsonptr_text_check.specs.Editing.{OnlyItemDiffers, OnlyMemberDiffers, InsertsItem, InsertsMember, ChangesAt, Makes}
use Rattle.jsonptr_text_check.specs.PrivateEditing.{ChangesIf, ItemDiffers, ItemsSo, MembersSo, ItemAdded, ItemsAdded, MembersAdded, MayFollow}

-- ---- elements

one_more_last : (xs ys : List Data) (z : Data) → (xs ++ ys) ++ z ∷ [] ≡ xs ++ (ys ++ z ∷ [])
one_more_last [] ys z = refl
one_more_last (x ∷ xs) ys z = ap (λ (l : List Data). x ∷ l) (one_more_last xs ys z)

nothing_last : (xs : List Data) → xs ≡ xs ++ []
nothing_last [] = refl
nothing_last (x ∷ xs) = ap (λ (l : List Data). x ∷ l) (nothing_last xs)

pub one_item : (done wanted : Bool) (i : ℕ) (cs : List Choice) (change : Change) (ds ds2 : List Data) (d d2 : Data) → ItemsSo done i (ChangesAt cs (Makes change)) ds ds2 → ChangesIf wanted cs change d d2 → (IsTrue wanted → length ds ≡ i)
    → ItemsSo (done || wanted) i (ChangesAt cs (Makes change)) (ds ++ d ∷ []) (ds2 ++ d2 ∷ [])
one_item false false i cs change ds ds2 d d2 h v at = ap₂ (λ (l : List Data) (x : Data). l ++ x ∷ []) h v
one_item false true i cs change ds ds2 d d2 h v at = record {
  front = ds;
  back = [];
  at = d;
  at2 = d2;
  len = at refl;
  old = refl;
  new = ap (λ (l : List Data). l ++ d2 ∷ []) h;
  changes = v;
}
one_item true false i cs change ds ds2 d d2 h v at = record {
  front = h.front;
  back = h.back ++ d ∷ [];
  at = h.at;
  at2 = h.at2;
  len = h.len;
  old = ap (λ (l : List Data). l ++ d ∷ []) h.old ∙ one_more_last h.front (h.at ∷ h.back) d;
  new = ap₂ (λ (l : List Data) (x : Data). l ++ x ∷ []) h.new v ∙ one_more_last h.front (h.at2 ∷ h.back) d;
  changes = h.changes;
}
one_item true true i cs change ds ds2 d d2 h v at =
    let len : length ds ≡ length h.front + suc (length h.back) = ap (λ (l : List Data). length l) h.old ∙ length-append h.front (h.at ∷ h.back) in
    absurd (omega (arith, len, h.len, at refl))

differs_after : (x : Data) (front back : List Data) (at at2 : Data) → OnlyItemDiffers (length front) at at2 (with_items_before (front ++ at ∷ back) no_items) (with_items_before (front ++ at2 ∷ back) no_items)
    → OnlyItemDiffers (suc (length front)) at at2 (with_items_before ((x ∷ front) ++ at ∷ back) no_items) (with_items_before ((x ∷ front) ++ at2 ∷ back) no_items)
differs_after x front back at at2 below = record { same_len = ap suc below.same_len; was = below.was; is = below.is; others = others }
  where
    others : (j : ℕ) → (j ≡ suc (length front) → ⊥) → get_item j (with_items_before ((x ∷ front) ++ at2 ∷ back) no_items) ≡ get_item j (with_items_before ((x ∷ front) ++ at ∷ back) no_items)
    others zero h = refl
    others (suc j) h = below.others j (λ e. h (ap suc e))

differs_at : (front back : List Data) (at at2 : Data) → OnlyItemDiffers (length front) at at2 (with_items_before (front ++ at ∷ back) no_items) (with_items_before (front ++ at2 ∷ back) no_items)
differs_at [] back at at2 = record { same_len = refl; was = refl; is = refl; others = others }
  where
    others : (j : ℕ) → (j ≡ 0 → ⊥) → get_item j (with_items_before (at2 ∷ back) no_items) ≡ get_item j (with_items_before (at ∷ back) no_items)
    others zero h = absurd (h refl)
    others (suc j) h = refl
differs_at (x ∷ front) back at at2 = differs_after x front back at at2 (differs_at front back at at2)

pub only_differs : (i : ℕ) (R : Data → Data → Type 0) (ds ds2 : List Data) (h : ItemDiffers i R ds ds2) → OnlyItemDiffers i h.at h.at2 (with_items_before ds no_items) (with_items_before ds2 no_items)
only_differs i R ds ds2 h =
    subst (λ (l : List Data). OnlyItemDiffers i h.at h.at2 (with_items_before ds no_items) (with_items_before l no_items)) (sym h.new)
    (subst (λ (l : List Data). OnlyItemDiffers i h.at h.at2 (with_items_before l no_items) (with_items_before (h.front ++ h.at2 ∷ h.back) no_items)) (sym h.old)
    (subst (λ (n : ℕ). OnlyItemDiffers n h.at h.at2 (with_items_before (h.front ++ h.at ∷ h.back) no_items) (with_items_before (h.front ++ h.at2 ∷ h.back) no_items)) h.len (differs_at h.front h.back h.at h.at2)))

pub new_item : (done : Bool) (i : ℕ) (value : List ℕ) (ds ds2 : List Data) (e : Data) → ItemsAdded done i value ds ds2 → length ds2 ≡ i → read value ≡ Some e → ItemAdded i value ds (ds2 ++ e ∷ [])
new_item false i value ds ds2 e h at r = record {
  front = ds;
  back = [];
  e = e;
  len = ap (λ (l : List Data). length l) (sym h) ∙ at;
  old = nothing_last ds;
  new = ap (λ (l : List Data). l ++ e ∷ []) h;
  reads = r;
}
new_item true i value ds ds2 e h at r =
    let len : length ds2 ≡ length h.front + suc (length h.back) = ap (λ (l : List Data). length l) h.new ∙ length-append h.front (h.e ∷ h.back) in
    absurd (omega (arith, len, h.len, at))

pub old_item : (done : Bool) (i : ℕ) (value : List ℕ) (ds ds2 : List Data) (d : Data) → ItemsAdded done i value ds ds2 → ItemsAdded done i value (ds ++ d ∷ []) (ds2 ++ d ∷ [])
old_item false i value ds ds2 d h = ap (λ (l : List Data). l ++ d ∷ []) h
old_item true i value ds ds2 d h = record {
  front = h.front;
  back = h.back ++ d ∷ [];
  e = h.e;
  len = h.len;
  old = ap (λ (l : List Data). l ++ d ∷ []) h.old ∙ one_more_last h.front h.back d;
  new = ap (λ (l : List Data). l ++ d ∷ []) h.new ∙ one_more_last h.front (h.e ∷ h.back) d;
  reads = h.reads;
}

inserts_after : (x : Data) (front back : List Data) (e : Data) → InsertsItem (length front) e (with_items_before (front ++ back) no_items) (with_items_before (front ++ e ∷ back) no_items)
    → InsertsItem (suc (length front)) e (with_items_before ((x ∷ front) ++ back) no_items) (with_items_before ((x ∷ front) ++ e ∷ back) no_items)
inserts_after x front back e below = record { one_more = ap suc below.one_more; within = omega (arith, below.within); is = below.is; before = before; after = after }
  where
    before : (j : ℕ) → j < suc (length front) → get_item j (with_items_before ((x ∷ front) ++ e ∷ back) no_items) ≡ get_item j (with_items_before ((x ∷ front) ++ back) no_items)
    before zero h = refl
    before (suc j) h = below.before j (omega (arith, h))

    after : (j : ℕ) → suc (length front) ≤ j → get_item (suc j) (with_items_before ((x ∷ front) ++ e ∷ back) no_items) ≡ get_item j (with_items_before ((x ∷ front) ++ back) no_items)
    after zero h = absurd (omega (arith, h))
    after (suc j) h = below.after j (omega (arith, h))

inserts_at : (front back : List Data) (e : Data) → InsertsItem (length front) e (with_items_before (front ++ back) no_items) (with_items_before (front ++ e ∷ back) no_items)
inserts_at [] back e = record { one_more = refl; within = omega arith; is = refl; before = before; after = λ j h. refl }
  where
    before : (j : ℕ) → j < 0 → get_item j (with_items_before (e ∷ back) no_items) ≡ get_item j (with_items_before back no_items)
    before j h = absurd (omega arith)
inserts_at (x ∷ front) back e = inserts_after x front back e (inserts_at front back e)

pub inserts_item : (i : ℕ) (value : List ℕ) (ds ds2 : List Data) (h : ItemAdded i value ds ds2) → InsertsItem i h.e (with_items_before ds no_items) (with_items_before ds2 no_items)
inserts_item i value ds ds2 h =
    subst (λ (l : List Data). InsertsItem i h.e (with_items_before ds no_items) (with_items_before l no_items)) (sym h.new)
    (subst (λ (l : List Data). InsertsItem i h.e (with_items_before l no_items) (with_items_before (h.front ++ h.e ∷ h.back) no_items)) (sym h.old)
    (subst (λ (n : ℕ). InsertsItem n h.e (with_items_before (h.front ++ h.back) no_items) (with_items_before (h.front ++ h.e ∷ h.back) no_items)) h.len (inserts_at h.front h.back h.e)))

pub appends_item : (i : ℕ) (ds : List Data) (e : Data) → length ds ≡ i → InsertsItem i e (with_items_before ds no_items) (with_items_before (ds ++ e ∷ []) no_items)
appends_item i ds e len =
    subst (λ (n : ℕ). InsertsItem n e (with_items_before ds no_items) (with_items_before (ds ++ e ∷ []) no_items)) len
    (subst (λ (l : List Data). InsertsItem (length ds) e (with_items_before l no_items) (with_items_before (ds ++ e ∷ []) no_items)) (sym (nothing_last ds)) (inserts_at ds [] e))

-- ---- members

-- the other keys have equal values after the same member was put into both
pub others_put : (k name l : List ℕ) (d : Data) (ms ms2 : Members) → get_member l ms2 ≡ get_member l ms → get_member l (put name d ms2) ≡ get_member l (put name d ms)
others_put k name l d ms ms2 h = at (bytes_eq l name) refl
  where
    at : (b : Bool) → bytes_eq l name ≡ b → get_member l (put name d ms2) ≡ get_member l (put name d ms)
    at true e =
        let same : l ≡ name = (bytes_eq-Decides l name).0 e in
        ap (λ (q : List ℕ). get_member q (put name d ms2)) same ∙ get_member-put name d ms2 ∙ sym (ap (λ (q : List ℕ). get_member q (put name d ms)) same ∙ get_member-put name d ms)
    at false e =
        let other : l ≡ name → ⊥ = λ s. true≢false (sym ((bytes_eq-Decides l name).1 s) ∙ e) in
        get_member-put_other l name d ms2 other ∙ h ∙ sym (get_member-put_other l name d ms other)

pub not_named : (named : Bool) (name k : List ℕ) → (IsTrue named ↔ (name ≡ k)) → named ≡ false → k ≡ name → ⊥
not_named named name k iff off e = true≢false (sym (iff.1 (sym e)) ∙ off)

pub one_member : (done wanted named : Bool) (k name : List ℕ) (cs : List Choice) (change : Change) (ms ms2 : Members) (d d2 : Data) → MembersSo done k (ChangesAt cs (Makes change)) ms ms2 → ChangesIf wanted cs change d d2 → (IsTrue named ↔ (name ≡ k)) → MayFollow done wanted named
    → MembersSo (done || wanted) k (ChangesAt cs (Makes change)) (put name d ms) (put name d2 ms2)
one_member false false named k name cs change ms ms2 d d2 h v iff may = ap₂ (put name) v h
one_member false true named k name cs change ms ms2 d d2 h v iff may =
    let same : name ≡ k = iff.0 may in (
      d,
      d2,
      subst (λ (n : List ℕ). OnlyMemberDiffers k d d2 (put n d ms) (put n d2 ms2)) (sym same) (record {
        was = get_member-put k d ms;
        is = get_member-put k d2 ms2;
        others = λ l other. get_member-put_other l k d2 ms2 other ∙ ap (get_member l) h ∙ sym (get_member-put_other l k d ms other);
      }),
      v,
    )
one_member true false named k name cs change ms ms2 d d2 h v iff may =
    let other = not_named named name k iff may in
    let differs = h.2 in (
      h.0,
      h.1,
      subst (λ (x : Data). OnlyMemberDiffers k h.0 h.1 (put name d ms) (put name x ms2)) (sym v) (record {
        was = get_member-put_other k name d ms other ∙ differs.was;
        is = get_member-put_other k name d ms2 other ∙ differs.is;
        others = λ l apart. others_put k name l d ms ms2 (differs.others l apart);
      }),
      h.3,
    )
one_member true true named k name cs change ms ms2 d d2 h v iff may = absurd may

pub new_member : (k name : List ℕ) (value : List ℕ) (ms ms2 : Members) (e : Data) → MembersAdded false k value ms ms2 → name ≡ k → read value ≡ Some e → MembersAdded true k value ms (put name e ms2)
new_member k name value ms ms2 e h same r = (
  e,
  r,
  subst (λ (n : List ℕ). InsertsMember k e ms (put n e ms2)) (sym same) (record {
    none = h.0;
    is = get_member-put k e ms2;
    others = λ l other. get_member-put_other l k e ms2 other ∙ h.1 l other;
  }),
)

-- a member with the key, which a later one replaces
pub shadowed_member : (k name : List ℕ) (value : List ℕ) (ms ms2 : Members) (d : Data) → MembersAdded false k value ms ms2 → name ≡ k → MembersAdded false k value ms (put name d ms2)
shadowed_member k name value ms ms2 d h same = (h.0, λ l other. get_member-put_other l name d ms2 (λ e. other (e ∙ same)) ∙ h.1 l other)

pub old_member : (done : Bool) (k name : List ℕ) (value : List ℕ) (ms ms2 : Members) (d : Data) → MembersAdded done k value ms ms2 → (k ≡ name → ⊥) → MembersAdded done k value (put name d ms) (put name d ms2)
old_member false k name value ms ms2 d h other = (get_member-put_other k name d ms other ∙ h.0, λ l apart. others_put k name l d ms ms2 (h.1 l apart))
old_member true k name value ms ms2 d h other =
    let adds = h.2 in (
      h.0,
      h.1,
      record {
        none = get_member-put_other k name d ms other ∙ adds.none;
        is = get_member-put_other k name d ms2 other ∙ adds.is;
        others = λ l apart. others_put k name l d ms ms2 (adds.others l apart);
      },
    )
