-- One operation of a patch in a text, in the words of patches.
use Rattle.std.proofs.Common.{◌≡◌, ℕ, suc, ◌<◌, ◌≤◌, List, [], ◌∷◌, ◌++◌, Option, Some, None, option_map, option_and_then, ◌⊎◌, inl, inr, string_bytes, codes, refl, sym, ap, ◌∙◌, subst, arith}
use mathlib.Core.Path.{fun_ext}
use Rattle.serde_json.specs.Data as json
use Rattle.serde_json.specs.Data.{Data}
use Rattle.serde_json.specs.Read.{read}
use Rattle.serde_json.specs.View.{view}
use Rattle.serde_json.specs.declared.value.Value.{Value}
use Rattle.jsonptr.specs.Text.{Text, dec}
use Rattle.jsonptr.specs.Node.{Step, key, place, Path, Label, an_array, an_object, NodeMap, Names, sub}
use Rattle.jsonptr.specs.Content as tree
use Rattle.jsonptr.specs.Content.{Content, items_len, label_of, content_at}
use Rattle.jsonptr.specs.Json.{content, items, nodes}
use Rattle.jsonptr.specs.Put.{put}
use Rattle.jsonptr.specs.Removing.{Deletes}
use Rattle.jsonptr_tree.proofs.JsonLemmas.{FindsValue-Finds}
use Rattle.jsonptr_tree.proofs.PutLemmas.{same_by_step, put_below}
use Rattle.jsonptr_text_search.specs.Search as json_search
use Rattle.jsonptr_text_search.specs.Search.{Choice}
use Rattle.jsonptr_text_resolve.specs.Selecting.{AreChoicesOf}
use Rattle.jsonptr_text_resolve.proofs.SearchLemmas.{len_same, found}
use Rattle.jsonptr_patch.specs.Adding.{MeansPlace, AddsUnder, AddsBelow, Adds}
use Rattle.jsonptr_patch.specs.Inserting.{with_place}
use Rattle.jsonptr_patch.specs.Operating.{IsProperPrefix, Takes, AppliesBy}
use Rattle.jsonptr_patch.specs.Patching.{PatchesBy}
use Rattle.jsonptr_patch.specs.declared.operation.Operation.{Operation}
use Rattle.jsonptr_patch.specs.declared.operation.Operation.TheVariants.{Test}
use Rattle.jsonptr_patch.proofs.AddingLemmas.{taken}
use Rattle.jsonptr_patch.proofs.InsertingLemmas.{cases_place, with_place-same, with_place-below, with_place-above, with_place-root}
use Rattle.jsonptr_patch.proofs.OperatingLemmas.{patches_push_by}
use Rattle.jsonptr_patch.specs.declared.comparison.Comparison.TheVariants.{Numeric}
use Rattle.jsonptr_text_check.specs.Editing.{InsertsItem, ChangesChild, ChangesAt, IsEdited}
use Rattle.jsonptr_text_check.specs.Leading.{LeadsInText}
use Rattle.jsonptr_text_check.specs.declared.change.Change.TheVariants.{Replace}
use Rattle.jsonptr_text_step.specs.Steps.{AddsInText, ReplacesInText, PassesInText}
use Rattle.jsonptr_text_step.specs.EditInText.{DeletesInText}
use Rattle.jsonptr_text_step.specs.PatchInText.{PatchesInText}
use Rattle.jsonptr_text_step.specs.declared.replace.ValueChange.{ValueChange}
use Rattle.jsonptr_text_step.specs.PrivateReaching.{ReachedInText, Becomes, ReplacesCut, IsValueEdit, MemberAdded, ElementAppended}
use Rattle.jsonptr_text_step.specs.PrivateOperating.{PutsInText, AddsValueInText, FindsText, MovesInText, CopiesInText, ElementInserted, AreMemberChoices, OperatesInText}
use Rattle.jsonptr_text_value.proofs.WrappingLemmas.{same_data}
use Rattle.jsonptr_text_step.proofs.EditLemmas.{label_there, map_there, member_map}
use Rattle.jsonptr_text_step.proofs.ReachingLemmas.{item_content, below, same_below, put_level, in_object, reached_in_text}

-- two readings of one text are of one document
one_reading : (t : Text) (d e : Data) → read t ≡ Some d → read t ≡ Some e → d ≡ e
one_reading t d e a b = same_data d e (sym a ∙ b)

-- ---- a value replaced

pub puts : (old new : Text) (tokens : List Text) (flat : Text) (v : Data) → read flat ≡ Some v → ReachedInText old new tokens (Becomes flat) → PutsInText old tokens (nodes v) new
puts old new tokens flat v is h =
    let r = h.4 in
    (h.0, h.1, h.2, h.3, record { path = r.path; named = r.named; made = r.made ∙ ap (λ (x : Data). put (nodes h.0) r.path (nodes x)) (same_data r.at2 v (sym r.changes ∙ is)) })

pub replaces_text : (old new : Text) (tokens : List Text) (flat : Text) → ReachedInText old new tokens (Becomes flat) → ReplacesInText old tokens flat new
replaces_text old new tokens flat h =
    let r = h.4 in
    (h.0, h.1, r.at2, h.2, h.3, r.changes, record { path = r.path; named = r.named; made = r.made })

whole : (n m v : NodeMap) (w : Path) → Names n [] w → m ≡ put n w v → m ≡ v
whole n m v [] named made = made
whole n m v (s ∷ w) named made = absurd named

pub adds_root : (old new : Text) (tokens : List Text) (flat : Text) → tokens ≡ [] → ReachedInText old new tokens (Becomes flat) → AddsInText old tokens flat new
adds_root old new tokens flat root h =
    let r = h.4 in
    (h.0, h.1, r.at2, h.2, h.3, r.changes, inl (root, whole (nodes h.0) (nodes h.1) (nodes r.at2) r.path (subst (λ (ts : List Text). Names (nodes h.0) ts r.path) root r.named) r.made))

-- ---- a child added

below_object : (d d2 at at2 e : Data) (front : List Text) (x : Text) (w : Path) (ms : json.Members) → Names (nodes d) front w → content_at w (content d) ≡ Some (content at) → nodes d2 ≡ put (nodes d) w (nodes at2) → at ≡ json.object ms → nodes at2 ≡ put (nodes (json.object ms)) (key x ∷ []) (nodes e)
    → AddsBelow (nodes d) (front ++ x ∷ []) (nodes e) (nodes d2)
below_object d d2 at at2 e front x w ms named there made old is = record {
  front = front;
  last = x;
  path = w;
  split = refl;
  named = named;
  made = subst (λ (l : Option Label). AddsUnder (nodes d) w l x (nodes e) (nodes d2)) (sym label) all;
}
  where
    object_there : content_at w (content d) ≡ Some (content (json.object ms))
    object_there = there ∙ ap (λ (y : Data). Some (content y)) old

    label : nodes d w ≡ Some an_object
    label = label_there d (json.object ms) w object_there

    all : nodes d2 ≡ put (nodes d) (w ++ key x ∷ []) (nodes e)
    all = made ∙ ap (put (nodes d) w) (is ∙ ap (λ (n : NodeMap). put n (key x ∷ []) (nodes e)) (map_there d (json.object ms) w object_there)) ∙ sym (put_below (nodes d) w (key x ∷ []) (nodes e))

below_array : (d d2 at at2 e : Data) (front : List Text) (x : Text) (w : Path) (ds : json.Items) (i : ℕ) → Names (nodes d) front w → content_at w (content d) ≡ Some (content at) → nodes d2 ≡ put (nodes d) w (nodes at2) → at ≡ json.array ds → nodes at2 ≡ with_place i (nodes e) (nodes (json.array ds)) → MeansPlace (items_len (items ds)) x i
    → AddsBelow (nodes d) (front ++ x ∷ []) (nodes e) (nodes d2)
below_array d d2 at at2 e front x w ds i named there made old is means = record {
  front = front;
  last = x;
  path = w;
  split = refl;
  named = named;
  made = subst (λ (l : Option Label). AddsUnder (nodes d) w l x (nodes e) (nodes d2)) (sym label) (i, means, all);
}
  where
    array_there : content_at w (content d) ≡ Some (content (json.array ds))
    array_there = there ∙ ap (λ (y : Data). Some (content y)) old

    label : nodes d w ≡ Some (an_array (items_len (items ds)))
    label = label_there d (json.array ds) w array_there

    all : nodes d2 ≡ put (nodes d) w (with_place i (nodes e) (sub (nodes d) w))
    all = made ∙ ap (put (nodes d) w) (is ∙ ap (with_place i (nodes e)) (map_there d (json.array ds) w array_there))

element_map : (ds ds2 : json.Items) (i : ℕ) (e : Data) → InsertsItem i e ds ds2 → nodes (json.array ds2) ≡ with_place i (nodes e) (nodes (json.array ds))
element_map ds ds2 i e h = same_by_step (nodes (json.array ds2)) (with_place i (nodes e) (nodes (json.array ds))) label at
  where
    label : nodes (json.array ds2) [] ≡ with_place i (nodes e) (nodes (json.array ds)) []
    label = ap (λ (n : ℕ). Some (an_array n)) (len_same ds2 ∙ h.one_more ∙ ap suc (sym (len_same ds))) ∙ sym (with_place-root i (items_len (items ds)) (nodes e) (nodes (json.array ds)) refl)

    there : tree.child (place i) (content (json.array ds2)) ≡ Some (content e)
    there = item_content ds2 i ∙ ap (option_map content) h.is

    later : (k : ℕ) → i ≤ k → sub (nodes (json.array ds2)) (place (suc k) ∷ []) ≡ sub (nodes (json.array ds)) (place k ∷ [])
    later k high = fun_ext (λ (p : Path). ap (λ (o : Option Content). option_map label_of (option_and_then (content_at p) o))
        (item_content ds2 (suc k) ∙ ap (option_map content) (h.after k high) ∙ sym (item_content ds k)))

    at_place : (j : ℕ) → (j < i) ⊎ ((j ≡ i) ⊎ ((k : ℕ) × (j ≡ suc k) × (i ≤ k))) → sub (nodes (json.array ds2)) (place j ∷ []) ≡ sub (with_place i (nodes e) (nodes (json.array ds))) (place j ∷ [])
    at_place j (inl low) = same_below (content (json.array ds)) (content (json.array ds2)) (place j) (item_content ds2 j ∙ ap (option_map content) (h.before j low) ∙ sym (item_content ds j)) ∙ sym (with_place-below i j (nodes e) (nodes (json.array ds)) low)
    at_place j (inr (inl same)) = subst (λ (n : ℕ). sub (nodes (json.array ds2)) (place n ∷ []) ≡ sub (with_place i (nodes e) (nodes (json.array ds))) (place n ∷ [])) (sym same)
        (sym (below (content (json.array ds2)) (content e) (place i) there) ∙ sym (with_place-same i (nodes e) (nodes (json.array ds))))
    at_place j (inr (inr more)) = subst (λ (n : ℕ). sub (nodes (json.array ds2)) (place n ∷ []) ≡ sub (with_place i (nodes e) (nodes (json.array ds))) (place n ∷ [])) (sym more.1)
        (later more.0 more.2 ∙ sym (with_place-above i more.0 (nodes e) (nodes (json.array ds)) more.2))

    at : (s : Step) → sub (nodes (json.array ds2)) (s ∷ []) ≡ sub (with_place i (nodes e) (nodes (json.array ds))) (s ∷ [])
    at (key k) = refl
    at (place j) = at_place j (cases_place i j)

pub adds_member : (old new : Text) (front : List Text) (x flat : Text) → ReachedInText old new front (MemberAdded x flat) → AddsInText old (front ++ x ∷ []) flat new
adds_member old new front x flat h =
    let r = h.4 in
    let a = r.changes in
    let m = a.2 in
    (h.0, h.1, a.0, h.2, h.3, a.1, inr (below_object h.0 h.1 r.at r.at2 a.0 front x r.path m.ms r.named r.there r.made m.old (ap nodes m.new ∙ member_map m.ms m.ms2 x a.0 m.inserts)))

pub adds_last : (old new : Text) (front : List Text) (x flat : Text) → ReachedInText old new front (ElementAppended x flat) → AddsInText old (front ++ x ∷ []) flat new
adds_last old new front x flat h =
    let r = h.4 in
    let a = r.changes in
    (h.0, h.1, a.e, h.2, h.3, a.reads, inr (below_array h.0 h.1 r.at r.at2 a.e front x r.path a.ds (json_search.items_count a.ds) r.named r.there r.made a.old (ap nodes a.new ∙ element_map a.ds a.ds2 (json_search.items_count a.ds) a.e a.inserts) (means (json_search.items_count a.ds) (items_len (items a.ds)) (len_same a.ds) a.refers)))
  where
    means : (n len : ℕ) → len ≡ n → (x ≡ codes "-") ⊎ (x ≡ dec n) → MeansPlace len x n
    means n len same (inl dash) = (omega (arith, same), inr (dash, sym same))
    means n len same (inr number) = (omega (arith, same), inl number)

pub adds_element : (old new : Text) (front : List Text) (x flat : Text) → ReachedInText old new front (ElementInserted x flat) → AddsInText old (front ++ x ∷ []) flat new
adds_element old new front x flat h =
    let r = h.4 in
    let a = r.changes in
    let m = a.4 in
    (h.0, h.1, a.0, h.2, h.3, a.2, inr (below_array h.0 h.1 r.at r.at2 a.0 front x r.path m.ds m.i r.named r.there r.made m.old (ap nodes m.new ∙ element_map m.ds m.ds2 m.i a.0 m.inserts) (omega (arith, len_same m.ds, m.inserts.within), inl (a.3.index_is m.i m.selects))))

pub adds_value : (old new : Text) (tokens : List Text) (flat : Text) (v : Data) → read flat ≡ Some v → AddsInText old tokens flat new → AddsValueInText old tokens (nodes v) new
adds_value old new tokens flat v is h = (h.0, h.1, h.3, h.4, subst (λ (e : Data). Adds (nodes h.0) tokens (nodes e) (nodes h.1)) (same_data h.2 v (sym h.5 ∙ is)) h.6)

-- ---- a member replaced

-- a change below the last selector is a change of the child that it selects
changes_last : (cs : List Choice) (c : Choice) (R : Data → Data → Type 0) (d d2 : Data) → ChangesAt (cs ++ c ∷ []) R d d2 → ChangesAt cs (ChangesChild c R) d d2
changes_last [] c R d d2 h = h
changes_last (b ∷ cs) c R d d2 (inl h) = inl (record { ds = h.ds; ds2 = h.ds2; i = h.i; at = h.at; at2 = h.at2; old = h.old; new = h.new; selects = h.selects; differs = h.differs; changes = changes_last cs c R h.at h.at2 h.changes })
changes_last (b ∷ cs) c R d d2 (inr h) = inr (record { ms = h.ms; ms2 = h.ms2; at = h.at; at2 = h.at2; old = h.old; new = h.new; differs = h.differs; changes = changes_last cs c R h.at h.at2 h.changes })

pub reached_child : (old new : Text) (front : List Text) (x : Text) (cs : List Choice) (R : Data → Data → Type 0) → AreMemberChoices front x cs → ((d d2 : Data) × (read old ≡ Some d) × (read new ≡ Some d2) × ChangesAt cs R d d2) → ReachedInText old new front (ChangesChild (x, None) R)
reached_child old new front x cs R are h =
    reached_in_text old new front are.0 (ChangesChild (x, None) R) are.2
    (h.0, h.1, h.2, h.3, changes_last are.0 (x, None) R h.0 h.1 (subst (λ (ss : List Choice). ChangesAt ss R h.0 h.1) are.1 h.4))

pub replaced_cut : (old cut new : Text) (front : List Text) (x : Text) (cs : List Choice) (middle flat : Text) (made : ValueChange) → cut ≡ old → AreMemberChoices front x cs → IsValueEdit middle flat made → IsEdited cut new cs made.change → ReachedInText old new front (ChangesChild (x, None) (ReplacesCut middle flat))
replaced_cut old cut new front x cs middle flat made same are is h =
    subst (λ (w : Text). ReachedInText old new front (ChangesChild (x, None) (ReplacesCut w flat))) is.old
    (subst (λ (f : Text). ReachedInText old new front (ChangesChild (x, None) (ReplacesCut (string_bytes is.before) f))) is.new
    (reached_child old new front x cs (ReplacesCut (string_bytes is.before) (string_bytes is.after)) are (subst (λ (t : Text). IsEdited t new cs (Replace is.before is.after)) same (subst (IsEdited cut new cs) is.change h))))

pub adds_in_place_of : (old new : Text) (front : List Text) (x middle flat : Text) → ReachedInText old new front (ChangesChild (x, None) (ReplacesCut middle flat)) → AddsInText old (front ++ x ∷ []) flat new
adds_in_place_of old new front x middle flat h = at h.4.changes
  where
    at : ChangesChild (x, None) (ReplacesCut middle flat) h.4.at h.4.at2 → AddsInText old (front ++ x ∷ []) flat new
    at (inl m) = absurd (cc)
    at (inr m) = (
      h.0,
      h.1,
      m.at2,
      h.2,
      h.3,
      m.changes.1,
      inr (below_object h.0 h.1 h.4.at h.4.at2 m.at2 front x h.4.path m.ms h.4.named h.4.there h.4.made m.old
          (ap nodes m.new ∙ put_level (content (json.object m.ms)) (content (json.object m.ms2)) (content m.at) (content m.at2) (key x) [] (nodes m.at2) (in_object m.ms m.ms2 x m.at m.at2 m.differs) refl)),
    )

-- ---- a value moved or copied

pub finds_text : (text : Text) (tokens : List Text) (cs : List Choice) (flat : Text) → AreChoicesOf tokens cs → LeadsInText text cs flat → FindsText text tokens flat
finds_text text tokens cs flat are h = (h.2.0, h.2.1, (h.0, h.1, found tokens cs h.0 h.2.0 are h.2.2))

pub copies : (old new : Text) (from path : List Text) (flat : Text) → FindsText old from flat → AddsInText old path flat new → CopiesInText old from path new
copies old new from path flat found added =
    let d = found.2.0 in
    let same : added.0 ≡ d = one_reading old added.0 d added.3 found.2.1 in
    let value : added.2 ≡ found.0 = same_data added.2 found.0 (sym added.5 ∙ found.1) in (
      d,
      added.1,
      found.2.1,
      added.4,
      record {
        node = nodes found.0;
        found = FindsValue-Finds d from found.0 found.2.2;
        added = subst (λ (e : Data). Adds (nodes d) path (nodes e) (nodes added.1)) value (subst (λ (y : Data). Adds (nodes y) path (nodes added.2) (nodes added.1)) same added.6);
      },
    )

pub moves : (old left new : Text) (from path : List Text) (flat : Text) → (IsProperPrefix from path → ⊥) → FindsText old from flat → DeletesInText old from left → AddsInText left path flat new → MovesInText old from path new
moves old left new from path flat apart found deleted added =
    let d = found.2.0 in
    let old_same : deleted.0 ≡ d = one_reading old deleted.0 d deleted.2 found.2.1 in
    let left_same : added.0 ≡ deleted.1 = one_reading left added.0 deleted.1 added.3 deleted.3 in
    let value : added.2 ≡ found.0 = same_data added.2 found.0 (sym added.5 ∙ found.1) in (
      d,
      added.1,
      found.2.1,
      added.4,
      record {
        node = nodes found.0;
        left = nodes deleted.1;
        apart = apart;
        taken = taken d deleted.1 found.0 from found.2.2 (subst (λ (y : Data). Deletes (nodes y) from (nodes json.null) (nodes deleted.1)) old_same deleted.5);
        added = subst (λ (e : Data). Adds (nodes deleted.1) path (nodes e) (nodes added.1)) value (subst (λ (y : Data). Adds (nodes y) path (nodes added.2) (nodes added.1)) left_same added.6);
      },
    )

pub removes : (old new : Text) (tokens : List Text) → DeletesInText old tokens new → (d d2 : Data) × (read old ≡ Some d) × (read new ≡ Some d2) × ((v : NodeMap) × Takes (nodes d) tokens v (nodes d2))
removes old new tokens h = (
  h.0,
  h.1,
  h.2,
  h.3,
  (sub (nodes h.0) h.4.0, record { found = record { path = h.4.0; named = h.4.1; below = refl }; left = h.5 }),
)

-- ---- a test

pub tests : (old : Text) (tokens path : List Text) (value : Value) → tokens ≡ path → PassesInText old tokens (nodes (view value)) → OperatesInText old (Test path value) old
tests old tokens path value there h =
    let p = subst (λ (ts : List Text). PassesInText old ts (nodes (view value))) there h in
    (p.0, p.0, p.1, p.1, (p.2, refl))

-- ---- all operations

pub patches_more : (old mid new : Text) (os : List Operation) (o : Operation) → PatchesInText old os mid → OperatesInText mid o new → PatchesInText old (os ++ o ∷ []) new
patches_more old mid new os o h last =
    let same : last.0 ≡ h.1 = one_reading mid last.0 h.1 last.2 h.3 in
    (h.0, last.1, h.2, last.3, patches_push_by Numeric (nodes h.0) (nodes h.1) (nodes last.1) os o h.4 (subst (λ (y : Data). AppliesBy Numeric (nodes y) o (nodes last.1)) same last.4))

pub patches_first : (old mid new : Text) (o : Operation) (os : List Operation) → OperatesInText old o mid → PatchesInText mid os new → PatchesInText old (o ∷ os) new
patches_first old mid new o os first rest =
    let same : rest.0 ≡ first.1 = one_reading mid rest.0 first.1 rest.2 first.3 in
    (first.0, rest.1, first.2, rest.3, (nodes first.1, first.4, subst (λ (y : Data). PatchesBy Numeric (nodes y) os (nodes rest.1)) same rest.4))
