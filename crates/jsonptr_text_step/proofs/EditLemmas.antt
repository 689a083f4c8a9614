-- What edits of a text are in the words of assignments.
use Rattle.std.proofs.Common.{◌≡◌, ℕ, zero, suc, ◌<◌, ◌≤◌, max, List, [], ◌∷◌, ◌++◌, Option, Some, None, option_map, Result, Ok, Err, IfOk, IfSome, string_bytes, ◌⊎◌, inl, inr, ⊎_elim, codes, Bool, IsTrue, true, false, refl, sym, ap, ◌∙◌, subst, arith}
use Rattle.std.specs.declared.alloc.AllocError.{AllocError}
use Rattle.serde_json.specs.Data as json
use Rattle.serde_json.specs.Data.{Data}
use Rattle.serde_json.specs.Find as find
use Rattle.serde_json.specs.Read.{read}
use Rattle.jsonptr.specs.Text.{Text, dec}
use Rattle.jsonptr.specs.Node.{Step, key, place, Path, Label, Scalar, an_array, an_object, a_leaf, of_json, NodeMap, sub}
use Rattle.jsonptr.specs.Content as tree
use Rattle.jsonptr.specs.Content.{Content, scalar, items_len, label_of, content_at, map_of}
use Rattle.jsonptr.specs.Json.{content, items, nodes}
use Rattle.jsonptr.specs.Put.{put, same_step}
use Rattle.jsonptr.specs.Expansion.{is_append_index, expanded}
use Rattle.jsonptr.specs.Assigning.{Assigns}
use Rattle.jsonptr_tree.proofs.ContentLemmas.{map_of-sub, content_at-push, map_of-IsTree}
use Rattle.jsonptr_tree.proofs.FollowingLemmas.{stops_in, lacks_at_leaf, lacks_at_object}
use Rattle.jsonptr_tree.proofs.LandingLemmas.{means_end-dash, means_end-dec, lacks_at_end}
use Rattle.jsonptr_tree.proofs.PutLemmas.{cases_same, same_by_step, put-step, put-other_step, rest_after-shorter, put_none}
use Rattle.jsonptr_tree.proofs.AssigningLemmas.{made, made-step, made-other_step, Assigns_named, Assigns_leaf, Assigns_object_below, Assigns_end_below, Assigns-leaf, Assigns-named}
use Rattle.jsonptr_text_search.specs.Search as json_search
use Rattle.jsonptr_text_resolve.proofs.SearchLemmas.{len_same, member_content}
use Rattle.jsonptr_text_check.specs.declared.change.ChildValue.{ChildValue}
use Rattle.jsonptr_text_check.specs.declared.change.Change.{Change}
use Rattle.jsonptr_text_check.specs.declared.change.Change.TheVariants as change
use Rattle.jsonptr_text_resolve.specs.Selecting.{AreChoicesOf}
use Rattle.jsonptr_text_check.specs.Editing.{AddsChosenMember, InsertsItem, InsertsMember, Makes, IsEdited}
use Rattle.jsonptr_text_step.specs.Bytes.{IsScalar}
use Rattle.jsonptr_text_step.specs.declared.replace.ValueChange.{ValueChange}
use Rattle.jsonptr_text_step.specs.EditInText.{AssignsInText}
use Rattle.jsonptr_text_step.specs.PrivateReaching.{ReachedInText, ReplacesCut, IsValueEdit, Becomes, ScalarBecomes, MemberAdded, ElementAppended}
use Rattle.jsonptr_text_step.proofs.ReachingLemmas.{reached_in_text, reached_so, item_content, below, same_below, other_place, other_key}
use Rattle.jsonptr_text_value.proofs.WrappingLemmas.{same_data}

pub label_there : (d at : Data) (w : Path) → content_at w (content d) ≡ Some (content at) → nodes d w ≡ Some (label_of (content at))
label_there d at w h = ap (option_map label_of) h

pub map_there : (d at : Data) (w : Path) → content_at w (content d) ≡ Some (content at) → nodes at ≡ sub (nodes d) w
map_there d at w h = map_of-sub w (content d) (content at) h

-- ---- a value replaced

pub assigns_value : (old new : Text) (tokens : List Text) (R : Data → Data → Type 0) (v : Data) → ((at at2 : Data) → R at at2 → at2 ≡ v) → ReachedInText old new tokens R → AssignsInText old tokens (nodes v) new
assigns_value old new tokens R v same h =
    let r = h.4 in (
      h.0,
      h.1,
      h.2,
      h.3,
      Some (sub (nodes h.0) r.path),
      subst (λ (m : NodeMap). Assigns (nodes h.0) tokens (nodes v) m (Some (sub (nodes h.0) r.path))) (sym (r.made ∙ ap (λ (x : Data). put (nodes h.0) r.path (nodes x)) (same r.at r.at2 r.changes)))
          (Assigns_named (nodes h.0) tokens (nodes v) r.path r.named),
    )

-- ---- a scalar replaced by an expanded value

-- `ReplacesScalar e d d2`: `d` is a scalar, and `d2` is `e`
abbrev ReplacesScalar : Data → Data → Data → Type 0
ReplacesScalar e d d2 = IsScalar d × (d2 ≡ e)

pub assigns_scalar : (old new : Text) (tokens front : List Text) (x : Text) (rest : List Text) (e : Data) (v : NodeMap) → tokens ≡ front ++ x ∷ rest → nodes e ≡ expanded (x ∷ rest) v → ReachedInText old new front (ReplacesScalar e) → AssignsInText old tokens v new
assigns_scalar old new tokens front x rest e v split is h =
    let r = h.4 in
    let leaf = r.changes.0 in
    let label : nodes h.0 r.path ≡ Some (a_leaf leaf.0) = label_there h.0 r.at r.path r.there ∙ ap (λ (l : Label). Some l) leaf.1 in
    let stops = stops_in (nodes h.0) tokens front x rest r.path split r.named (lacks_at_leaf (nodes h.0) r.path x leaf.0 label) in (
      h.0,
      h.1,
      h.2,
      h.3,
      Some (sub (nodes h.0) r.path),
      subst (λ (m : NodeMap). Assigns (nodes h.0) tokens v m (Some (sub (nodes h.0) r.path))) (sym (r.made ∙ ap (λ (y : Data). put (nodes h.0) r.path (nodes y)) r.changes.1 ∙ ap (put (nodes h.0) r.path) is))
          (Assigns_leaf (nodes h.0) tokens front x rest v r.path leaf.0 stops label),
    )

-- ---- a member added

pub member_map : (ms ms2 : json.Members) (k : Text) (e : Data) → InsertsMember k e ms ms2 → nodes (json.object ms2) ≡ put (nodes (json.object ms)) (key k ∷ []) (nodes e)
member_map ms ms2 k e h = same_by_step (nodes (json.object ms2)) (put (nodes (json.object ms)) (key k ∷ []) (nodes e))
    (sym (put_none (nodes (json.object ms)) (key k ∷ []) (nodes e) [] (rest_after-shorter [] (key k) [])))
    (λ t. at t (cases_same (key k) t))
  where
    there : tree.child (key k) (content (json.object ms2)) ≡ Some (content e)
    there = member_content k ms2 ∙ ap (option_map content) h.is

    others : (t : Step) → same_step (key k) t ≡ false → tree.child t (content (json.object ms2)) ≡ tree.child t (content (json.object ms))
    others (place j) apart = refl
    others (key l) apart = member_content l ms2 ∙ ap (option_map content) (h.others l (other_key k l apart)) ∙ sym (member_content l ms)

    at : (t : Step) → (key k ≡ t) ⊎ (same_step (key k) t ≡ false) → sub (nodes (json.object ms2)) (t ∷ []) ≡ sub (put (nodes (json.object ms)) (key k ∷ []) (nodes e)) (t ∷ [])
    at t (inl same) = subst (λ (u : Step). sub (nodes (json.object ms2)) (u ∷ []) ≡ sub (put (nodes (json.object ms)) (key k ∷ []) (nodes e)) (u ∷ [])) same
        (sym (below (content (json.object ms2)) (content e) (key k) there) ∙ sym (put-step (nodes (json.object ms)) (key k) [] (nodes e)))
    at t (inr apart) = same_below (content (json.object ms)) (content (json.object ms2)) t (others t apart) ∙ sym (put-other_step (nodes (json.object ms)) (key k) t [] (nodes e) apart)

-- `AddsMemberAt x e d d2`: `d2` is the object `d` with the member `e` under the key `x`, which `d` lacks
abbrev AddsMemberAt : Text → Data → Data → Data → Type 0
AddsMemberAt x e d d2 = AddsChosenMember (x, None) e d d2

pub assigns_member : (old new : Text) (tokens front : List Text) (x : Text) (rest : List Text) (e : Data) (v : NodeMap) → tokens ≡ front ++ x ∷ rest → nodes e ≡ expanded rest v → ReachedInText old new front (AddsMemberAt x e) → AssignsInText old tokens v new
assigns_member old new tokens front x rest e v split is h =
    let r = h.4 in
    let a = r.changes in
    let there : content_at r.path (content h.0) ≡ Some (content (json.object a.ms)) = r.there ∙ ap (λ (d : Data). Some (content d)) a.old in
    let label : nodes h.0 r.path ≡ Some an_object = label_there h.0 (json.object a.ms) r.path there in
    let none : nodes h.0 (r.path ++ key x ∷ []) ≡ None = ap (option_map label_of) (content_at-push r.path (key x) (content h.0) (content (json.object a.ms)) there ∙ member_content x a.ms ∙ ap (option_map content) a.inserts.none) in
    let stops = stops_in (nodes h.0) tokens front x rest r.path split r.named (lacks_at_object (nodes h.0) r.path x label none) in
    let made2 : nodes r.at2 ≡ put (sub (nodes h.0) r.path) (key x ∷ []) (expanded rest v) =
    ap nodes a.new ∙ member_map a.ms a.ms2 x e a.inserts ∙ ap (put (nodes (json.object a.ms)) (key x ∷ [])) is ∙ ap (λ (n : NodeMap). put n (key x ∷ []) (expanded rest v)) (map_there h.0 (json.object a.ms) r.path there) in (
      h.0,
      h.1,
      h.2,
      h.3,
      None,
      subst (λ (m : NodeMap). Assigns (nodes h.0) tokens v m None) (sym (r.made ∙ ap (put (nodes h.0) r.path) made2))
          (Assigns_object_below (nodes h.0) tokens front x rest v r.path stops label),
    )

-- ---- an element added at the end

end_index : (len n : ℕ) (x : Text) → len ≡ n → (x ≡ codes "-") ⊎ (x ≡ dec n) → is_append_index len x ≡ true
end_index len n x same (inl dash) = means_end-dash len x dash
end_index len n x same (inr number) = means_end-dec len x (number ∙ ap dec (sym same))

none_past : (ds : json.Items) (j : ℕ) → json_search.items_count ds ≤ j → find.get_item j ds ≡ None
none_past json.no_items j h = refl
none_past (json.item d ds) zero h = absurd (omega (arith, h))
none_past (json.item d ds) (suc j) h = none_past ds j (omega (arith, h))

cases_below : (j n : ℕ) → (j ≡ n → ⊥) → (j < n) ⊎ (n < j)
cases_below zero zero h = absurd (h refl)
cases_below zero (suc n) h = inl (omega arith)
cases_below (suc j) zero h = inr (omega arith)
cases_below (suc j) (suc n) h = ⊎_elim (λ a. inl (omega (arith, a))) (λ a. inr (omega (arith, a))) (cases_below j n (λ e. h (ap suc e)))

other_items : (ds ds2 : json.Items) (e : Data) → InsertsItem (json_search.items_count ds) e ds ds2 → (j : ℕ) → (j ≡ json_search.items_count ds → ⊥) → find.get_item j ds2 ≡ find.get_item j ds
other_items ds ds2 e h j apart = at (cases_below j (json_search.items_count ds) apart)
  where
    at : (j < json_search.items_count ds) ⊎ (json_search.items_count ds < j) → find.get_item j ds2 ≡ find.get_item j ds
    at (inl low) = h.before j low
    at (inr high) = none_past ds2 j (omega (arith, h.one_more, high)) ∙ sym (none_past ds j (omega (arith, high)))

end_map : (ds ds2 : json.Items) (e : Data) → InsertsItem (json_search.items_count ds) e ds ds2 → nodes (json.array ds2) ≡ made (nodes (json.array ds)) (place (items_len (items ds)) ∷ []) (nodes e)
end_map ds ds2 e h = same_by_step (nodes (json.array ds2)) (made (nodes (json.array ds)) (place (items_len (items ds)) ∷ []) (nodes e)) label (λ t. at t (cases_same (place (items_len (items ds))) t))
  where
    label : nodes (json.array ds2) [] ≡ made (nodes (json.array ds)) (place (items_len (items ds)) ∷ []) (nodes e) []
    label = ap (λ (n : ℕ). Some (an_array n)) (len_same ds2 ∙ h.one_more ∙ ap suc (sym (len_same ds)) ∙ longest (items_len (items ds)))
      where
        longest : (n : ℕ) → suc n ≡ max n (suc n)
        longest n = omega arith

    there : tree.child (place (items_len (items ds))) (content (json.array ds2)) ≡ Some (content e)
    there = ap (λ (n : ℕ). tree.child (place n) (content (json.array ds2))) (len_same ds) ∙ item_content ds2 (json_search.items_count ds) ∙ ap (option_map content) h.is

    others : (t : Step) → same_step (place (items_len (items ds))) t ≡ false → tree.child t (content (json.array ds2)) ≡ tree.child t (content (json.array ds))
    others (key k) apart = refl
    others (place j) apart = item_content ds2 j ∙ ap (option_map content) (other_items ds ds2 e h j (λ s. other_place (items_len (items ds)) j apart (s ∙ sym (len_same ds)))) ∙ sym (item_content ds j)

    at : (t : Step) → (place (items_len (items ds)) ≡ t) ⊎ (same_step (place (items_len (items ds))) t ≡ false) → sub (nodes (json.array ds2)) (t ∷ []) ≡ sub (made (nodes (json.array ds)) (place (items_len (items ds)) ∷ []) (nodes e)) (t ∷ [])
    at t (inl same) = subst (λ (u : Step). sub (nodes (json.array ds2)) (u ∷ []) ≡ sub (made (nodes (json.array ds)) (place (items_len (items ds)) ∷ []) (nodes e)) (u ∷ [])) same
        (sym (below (content (json.array ds2)) (content e) (place (items_len (items ds))) there) ∙ sym (made-step (nodes (json.array ds)) (place (items_len (items ds))) [] (nodes e)))
    at t (inr apart) = same_below (content (json.array ds)) (content (json.array ds2)) t (others t apart) ∙ sym (made-other_step (nodes (json.array ds)) (place (items_len (items ds))) t [] (nodes e) apart)

-- `AppendsAt x e d d2`: `d2` is the array `d` with the element `e` after its last, to which the token `x` refers
abbrev AppendsAt : Text → Data → Data → Data → Type 0
AppendsAt x e d d2 = (ds ds2 : json.Items) × (d ≡ json.array ds) × (d2 ≡ json.array ds2) × InsertsItem (json_search.items_count ds) e ds ds2
    × ((x ≡ codes "-") ⊎ (x ≡ dec (json_search.items_count ds)))

pub assigns_end : (old new : Text) (tokens front : List Text) (x : Text) (rest : List Text) (e : Data) (v : NodeMap) → tokens ≡ front ++ x ∷ rest → nodes e ≡ expanded rest v → ReachedInText old new front (AppendsAt x e) → AssignsInText old tokens v new
assigns_end old new tokens front x rest e v split is h =
    let r = h.4 in
    let a = r.changes in
    let ds = a.0 in
    let there : content_at r.path (content h.0) ≡ Some (content (json.array ds)) = r.there ∙ ap (λ (d : Data). Some (content d)) a.2 in
    let label : nodes h.0 r.path ≡ Some (an_array (items_len (items ds))) = label_there h.0 (json.array ds) r.path there in
    let means : is_append_index (items_len (items ds)) x ≡ true = end_index (items_len (items ds)) (json_search.items_count ds) x (len_same ds) a.5 in
    let stops = stops_in (nodes h.0) tokens front x rest r.path split r.named (lacks_at_end (nodes h.0) r.path x (items_len (items ds)) label means) in
    let made2 : nodes r.at2 ≡ made (sub (nodes h.0) r.path) (place (items_len (items ds)) ∷ []) (expanded rest v) =
    ap nodes a.3 ∙ end_map ds a.1 e a.4 ∙ ap (made (nodes (json.array ds)) (place (items_len (items ds)) ∷ [])) is ∙ ap (λ (n : NodeMap). made n (place (items_len (items ds)) ∷ []) (expanded rest v)) (map_there h.0 (json.array ds) r.path there) in (
      h.0,
      h.1,
      h.2,
      h.3,
      None,
      subst (λ (m : NodeMap). Assigns (nodes h.0) tokens v m None) (sym (r.made ∙ ap (put (nodes h.0) r.path) made2))
          (Assigns_end_below (nodes h.0) tokens front x rest v r.path (items_len (items ds)) (map_of-IsTree (content h.0)) stops label means),
    )

-- ---- an expanded value

pub null_expanded : (c : Content) (tokens : List Text) (v m : NodeMap) (old : Option NodeMap) → c ≡ scalar (of_json json.null) → Assigns (map_of c) tokens v m old → m ≡ expanded tokens v
null_expanded c tokens v m old null h = on_null tokens v m old (subst (λ (x : Content). Assigns (map_of x) tokens v m old) null h)
  where
    on_null : (tokens : List Text) (v m : NodeMap) (old : Option NodeMap) → Assigns (nodes json.null) tokens v m old → m ≡ expanded tokens v
    on_null [] v m old h = ((Assigns-named (nodes json.null) [] v m old [] refl).0 h).0
    on_null (x ∷ rest) v m old h =
        ((Assigns-leaf (nodes json.null) (x ∷ rest) [] x rest v m old [] (of_json json.null) (stops_in (nodes json.null) (x ∷ rest) [] x rest [] refl refl (lacks_at_leaf (nodes json.null) [] x (of_json json.null) refl)) refl).0 h).0

-- ---- a result that may be nothing

pub if_new : {A : Type 0} (r : Result (Option A) AllocError) (P Q : A → Type 0) → ((s : A) → P s → Q s) → IfOk r (λ o. IfSome o P) → IfOk r (λ o. IfSome o Q)
if_new (Err e) P Q f h = h
if_new (Ok None) P Q f h = h
if_new (Ok (Some s)) P Q f h = f s h

pub if_both : {A : Type 0} (r : Result (Option A) AllocError) (P Q : A → Type 0) → IfOk r (λ o. IfSome o P) → IfOk r (λ o. IfSome o Q) → IfOk r (λ o. IfSome o (λ s. P s × Q s))
if_both (Err e) P Q h k = h
if_both (Ok None) P Q h k = h
if_both (Ok (Some s)) P Q h k = (h, k)

pub if_true : (r : Result Bool AllocError) (P Q : Type 0) → (P → Q) → IfOk r (λ b. IsTrue b → P) → IfOk r (λ b. IsTrue b → Q)
if_true (Err e) P Q f h = h
if_true (Ok b) P Q f h = λ is. f (h is)

pub scalar_label : (c : Content) (a : Scalar) → c ≡ scalar a → (b : Scalar) × (label_of c ≡ a_leaf b)
scalar_label c a h = (a, ap label_of h)

-- ---- what an edit does, by the text of its value

pub replaced_reaches : (old new : Text) (tokens : List Text) (cs : List json_search.Choice) (middle flat : Text) (made : ValueChange) → AreChoicesOf tokens cs → IsValueEdit middle flat made → IsEdited old new cs made.change → ReachedInText old new tokens (ReplacesCut middle flat)
replaced_reaches old new tokens cs middle flat made are is h =
    subst (λ (w : Text). ReachedInText old new tokens (ReplacesCut w flat)) is.old
    (subst (λ (f : Text). ReachedInText old new tokens (ReplacesCut (string_bytes is.before) f)) is.new
    (subst (λ (e : Change). ReachedInText old new tokens (Makes e)) is.change (reached_in_text old new tokens cs (Makes made.change) are h)))

pub of_value : (old new : Text) (tokens : List Text) (flat : Text) (v : Data) → read flat ≡ Some v → ReachedInText old new tokens (Becomes flat) → AssignsInText old tokens (nodes v) new
of_value old new tokens flat v is h = assigns_value old new tokens (Becomes flat) v (λ at at2 m. same_data at2 v (sym m ∙ is)) h

pub of_scalar : (old new : Text) (front : List Text) (flat : Text) (e : Data) → read flat ≡ Some e → ReachedInText old new front (ScalarBecomes flat) → ReachedInText old new front (ReplacesScalar e)
of_scalar old new front flat e is h = reached_so old new front (ScalarBecomes flat) (ReplacesScalar e) (λ d d2 m. (m.0, same_data d2 e (sym m.1 ∙ is))) h

pub of_member : (old new : Text) (front : List Text) (x flat : Text) (e : Data) → read flat ≡ Some e → ReachedInText old new front (MemberAdded x flat) → ReachedInText old new front (AddsMemberAt x e)
of_member old new front x flat e is h = reached_so old new front (MemberAdded x flat) (AddsMemberAt x e) (λ d d2 m. subst (λ (y : Data). AddsMemberAt x y d d2) (same_data m.0 e (sym m.1 ∙ is)) m.2) h

pub of_element : (old new : Text) (front : List Text) (x flat : Text) (e : Data) → read flat ≡ Some e → ReachedInText old new front (ElementAppended x flat) → ReachedInText old new front (AppendsAt x e)
of_element old new front x flat e is h = reached_so old new front (ElementAppended x flat) (AppendsAt x e) (λ d d2 m. (m.ds, m.ds2, m.old, m.new, subst (λ (y : Data). InsertsItem (json_search.items_count m.ds) y m.ds m.ds2) (same_data m.e e (sym m.reads ∙ is)) m.inserts, m.refers)) h

pub member_made : (child : ChildValue) (x flat : Text) (d d2 : Data) → string_bytes child.selector.key ≡ x → string_bytes child.value ≡ flat → Makes (change.Add child) d d2 → MemberAdded x flat d d2
member_made child x flat d d2 named value m = (
  m.0,
  ap read (sym value) ∙ m.1,
  record { ms = m.2.ms; ms2 = m.2.ms2; old = m.2.old; new = m.2.new; inserts = subst (λ (k : Text). InsertsMember k m.0 m.2.ms m.2.ms2) named m.2.inserts },
)
