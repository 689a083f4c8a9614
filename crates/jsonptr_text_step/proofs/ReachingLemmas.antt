-- Two values that differ at some selectors, in the words of node maps.
use Rattle.std.proofs.Common.{◌≡◌, ℕ, zero, suc, ◌<◌, List, [], ◌∷◌, Option, Some, option_map, option_and_then, ◌⊎◌, inl, inr, false, true≢false, refl, sym, ap, ◌∙◌, subst, arith}
use mathlib.Core.Path.{fun_ext}
use Rattle.serde_json.specs.Data as json
use Rattle.serde_json.specs.Data.{Data}
use Rattle.serde_json.specs.Find as find
use Rattle.serde_json.specs.Read.{read}
use Rattle.jsonptr.specs.Text.{Text}
use Rattle.jsonptr.specs.Node.{Step, key, place, Path, Label, an_array, NodeMap, NamesStep, Names, sub}
use Rattle.jsonptr.specs.Content as tree
use Rattle.jsonptr.specs.Content.{Content, items_len, get_item, label_of, content_at, map_of}
use Rattle.jsonptr.specs.Json.{content, items, nodes}
use Rattle.jsonptr.specs.Put.{put, same_step}
use Rattle.jsonptr_tree.proofs.ContentLemmas.{map_of-sub}
use Rattle.jsonptr_tree.proofs.PutLemmas.{same_step-refl, cases_same, rest_after-shorter, put_none, same_by_step, put-step, put-other_step}
use Rattle.jsonptr_text_search.specs.Search.{Choice}
use Rattle.jsonptr_text_resolve.specs.Selecting.{AreChoicesOf}
use Rattle.jsonptr_text_resolve.proofs.SearchLemmas.{len_same, member_content}
use Rattle.jsonptr_text_step.specs.PrivateReaching.{Reached, ReachedInText}
use Rattle.jsonptr_text_check.specs.Editing.{OnlyItemDiffers, OnlyMemberDiffers, ChangesAt}

pub item_content : (ds : json.Items) (i : ℕ) → get_item i (items ds) ≡ option_map content (find.get_item i ds)
item_content json.no_items i = refl
item_content (json.item d ds) zero = refl
item_content (json.item d ds) (suc i) = item_content ds i

item_below : (ds : json.Items) (i : ℕ) (e : Data) → find.get_item i ds ≡ Some e → i < items_len (items ds)
item_below json.no_items i e h = absurd (cc)
item_below (json.item d ds) zero e h = omega arith
item_below (json.item d ds) (suc i) e h = let below = item_below ds i e h in omega (arith, below)

-- ---- one step

-- `StepChanges d d2 s c c2`: d and d2 differ only in the child at the step s, which is c in d and c2 in d2
pub record StepChanges (d d2 : Content) (s : Step) (c c2 : Content) : Type 0 where
  pub same_label : label_of d2 ≡ label_of d
  pub was : tree.child s d ≡ Some c
  pub is : tree.child s d2 ≡ Some c2
  pub others : (t : Step) → same_step s t ≡ false → tree.child t d2 ≡ tree.child t d

pub below : (d c : Content) (s : Step) → tree.child s d ≡ Some c → map_of c ≡ sub (map_of d) (s ∷ [])
below d c s h = map_of-sub (s ∷ []) d c (ap (option_and_then (content_at [])) h)

pub same_below : (d d2 : Content) (t : Step) → tree.child t d2 ≡ tree.child t d → sub (map_of d2) (t ∷ []) ≡ sub (map_of d) (t ∷ [])
same_below d d2 t h = fun_ext (λ (q : Path). ap (λ (o : Option Content). option_map label_of (option_and_then (content_at q) o)) h)

pub put_level : (d d2 c c2 : Content) (s : Step) (p : Path) (v : NodeMap) → StepChanges d d2 s c c2 → map_of c2 ≡ put (map_of c) p v → map_of d2 ≡ put (map_of d) (s ∷ p) v
put_level d d2 c c2 s p v h later = same_by_step (map_of d2) (put (map_of d) (s ∷ p) v)
    (ap (λ (l : Label). Some l) h.same_label ∙ sym (put_none (map_of d) (s ∷ p) v [] (rest_after-shorter [] s p)))
    (λ t. at t (cases_same s t))
  where
    at : (t : Step) → (s ≡ t) ⊎ (same_step s t ≡ false) → sub (map_of d2) (t ∷ []) ≡ sub (put (map_of d) (s ∷ p) v) (t ∷ [])
    at t (inl e) = subst (λ (u : Step). sub (map_of d2) (u ∷ []) ≡ sub (put (map_of d) (s ∷ p) v) (u ∷ [])) e
        (sym (below d2 c2 s h.is) ∙ later ∙ ap (λ (n : NodeMap). put n p v) (below d c s h.was) ∙ sym (put-step (map_of d) s p v))
    at t (inr e) = same_below d d2 t (h.others t e) ∙ sym (put-other_step (map_of d) s t p v e)

pub other_place : (i j : ℕ) → same_step (place i) (place j) ≡ false → j ≡ i → ⊥
other_place i j e same = true≢false (sym (ap (λ (x : ℕ). same_step (place i) (place x)) same ∙ same_step-refl (place i)) ∙ e)

pub other_key : (k l : Text) → same_step (key k) (key l) ≡ false → l ≡ k → ⊥
other_key k l e same = true≢false (sym (ap (λ (x : Text). same_step (key k) (key x)) same ∙ same_step-refl (key k)) ∙ e)

in_array : (ds ds2 : json.Items) (i : ℕ) (at at2 : Data) → OnlyItemDiffers i at at2 ds ds2 → StepChanges (content (json.array ds)) (content (json.array ds2)) (place i) (content at) (content at2)
in_array ds ds2 i at at2 h = record {
  same_label = ap an_array (len_same ds2 ∙ h.same_len ∙ sym (len_same ds));
  was = item_content ds i ∙ ap (option_map content) h.was;
  is = item_content ds2 i ∙ ap (option_map content) h.is;
  others = others;
}
  where
    others : (t : Step) → same_step (place i) t ≡ false → tree.child t (content (json.array ds2)) ≡ tree.child t (content (json.array ds))
    others (key k) e = refl
    others (place j) e = item_content ds2 j ∙ ap (option_map content) (h.others j (other_place i j e)) ∙ sym (item_content ds j)

pub in_object : (ms ms2 : json.Members) (k : Text) (at at2 : Data) → OnlyMemberDiffers k at at2 ms ms2 → StepChanges (content (json.object ms)) (content (json.object ms2)) (key k) (content at) (content at2)
in_object ms ms2 k at at2 h = record {
  same_label = refl;
  was = member_content k ms ∙ ap (option_map content) h.was;
  is = member_content k ms2 ∙ ap (option_map content) h.is;
  others = others;
}
  where
    others : (t : Step) → same_step (key k) t ≡ false → tree.child t (content (json.object ms2)) ≡ tree.child t (content (json.object ms))
    others (place j) e = refl
    others (key l) e = member_content l ms2 ∙ ap (option_map content) (h.others l (other_key k l e)) ∙ sym (member_content l ms)

-- ---- all steps

deeper : (R : Data → Data → Type 0) (x : Text) (xs : List Text) (s : Step) (d d2 c c2 : Data) → NamesStep (nodes d []) x s → StepChanges (content d) (content d2) s (content c) (content c2) → Reached R c c2 xs → Reached R d d2 (x ∷ xs)
deeper R x xs s d d2 c c2 named change h = record {
  path = s ∷ h.path;
  at = h.at;
  at2 = h.at2;
  named = (named, subst (λ (n : NodeMap). Names n xs h.path) (below (content d) (content c) s change.was) h.named);
  there = ap (option_and_then (content_at h.path)) change.was ∙ h.there;
  made = put_level (content d) (content d2) (content c) (content c2) s h.path (nodes h.at2) change h.made;
  named2 = (subst (λ (l : Label). NamesStep (Some l) x s) (sym change.same_label) named, subst (λ (n : NodeMap). Names n xs h.path) (below (content d2) (content c2) s change.is) h.named2);
  there2 = ap (option_and_then (content_at h.path)) change.is ∙ h.there2;
  changes = h.changes;
}

pub reached : (tokens : List Text) (cs : List Choice) (R : Data → Data → Type 0) (d d2 : Data) → AreChoicesOf tokens cs → ChangesAt cs R d d2 → Reached R d d2 tokens
reached [] [] R d d2 are h = record { path = []; at = d; at2 = d2; named = refl; there = refl; made = refl; named2 = refl; there2 = refl; changes = h }
reached [] (c ∷ cs) R d d2 are h = absurd are
reached (x ∷ xs) [] R d d2 are h = absurd are
reached (x ∷ xs) (c ∷ cs) R d d2 are (inl h) =
    subst (λ (y : Data). Reached R d y (x ∷ xs)) (sym h.new)
    (subst (λ (y : Data). Reached R y (json.array h.ds2) (x ∷ xs)) (sym h.old)
    (deeper R x xs (place h.i) (json.array h.ds) (json.array h.ds2) h.at h.at2 (item_below h.ds h.i h.at h.differs.was, are.0.index_is h.i h.selects) (in_array h.ds h.ds2 h.i h.at h.at2 h.differs) (reached xs cs R h.at h.at2 are.1 h.changes)))
reached (x ∷ xs) (c ∷ cs) R d d2 are (inr h) =
    subst (λ (y : Data). Reached R d y (x ∷ xs)) (sym h.new)
    (subst (λ (y : Data). Reached R y (json.object h.ms2) (x ∷ xs)) (sym h.old)
    (deeper R x xs (key c.0) (json.object h.ms) (json.object h.ms2) h.at h.at2 are.0.key_is (in_object h.ms h.ms2 c.0 h.at h.at2 h.differs) (reached xs cs R h.at h.at2 are.1 h.changes)))

pub reached_in_text : (old new : Text) (tokens : List Text) (cs : List Choice) (R : Data → Data → Type 0) → AreChoicesOf tokens cs → ((d d2 : Data) × (read old ≡ Some d) × (read new ≡ Some d2) × ChangesAt cs R d d2) → ReachedInText old new tokens R
reached_in_text old new tokens cs R are h = (h.0, h.1, h.2, h.3, reached tokens cs R h.0 h.1 are h.4)

-- the relation of the two values, in other words
pub reached_so : (old new : Text) (tokens : List Text) (R S : Data → Data → Type 0) → ((d d2 : Data) → R d d2 → S d d2) → ReachedInText old new tokens R → ReachedInText old new tokens S
reached_so old new tokens R S f h =
    let r = h.4 in
    (h.0, h.1, h.2, h.3, record { path = r.path; at = r.at; at2 = r.at2; named = r.named; there = r.there; made = r.made; named2 = r.named2; there2 = r.there2; changes = f r.at r.at2 r.changes })
