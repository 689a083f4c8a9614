-- What the removal of a child from a text is in the words of deletions.
use Rattle.std.proofs.Common.{◌≡◌, ℕ, zero, suc, ◌<◌, ◌≤◌, ◌-◌, List, [], ◌∷◌, ◌++◌, Option, Some, None, option_map, option_and_then, ◌⊎◌, inl, inr, ⊎_elim, IsSome, false, refl, sym, ap, ◌∙◌, subst, arith}
use mathlib.Core.Path.{fun_ext}
use Rattle.serde_json.specs.Data as json
use Rattle.serde_json.specs.Data.{Data}
use Rattle.serde_json.specs.Find as find
use Rattle.serde_json.specs.Read.{read}
use Rattle.jsonptr.specs.Text.{Text}
use Rattle.jsonptr.specs.Node.{Step, key, place, Path, Label, an_array, NodeMap, NamesStep, Names, sub}
use Rattle.jsonptr.specs.Content as tree
use Rattle.jsonptr.specs.Content.{Content, items_len, label_of, content_at}
use Rattle.jsonptr.specs.Json.{content, items, nodes}
use Rattle.jsonptr.specs.Put.{put, same_step}
use Rattle.jsonptr.specs.Removing.{one_less, place_before, without_key, without_place, without_step, Deletes}
use Rattle.jsonptr_tree.proofs.NodeLemmas.{Names-push}
use Rattle.jsonptr_tree.proofs.PutLemmas.{cases_same, same_by_step, put-sub, put-put, sub-put, put_at, Names-put}
use Rattle.jsonptr_tree.proofs.AssigningLemmas.{Assigns-named}
use Rattle.jsonptr_tree.proofs.RemovingLemmas.{Deletes_whole, Deletes_child, place_before-below, place_before-from, without_key-same, without_key-other}
use Rattle.jsonptr_text_search.specs.Search as json_search
use Rattle.jsonptr_text_search.specs.Search.{Choice}
use Rattle.jsonptr_text_resolve.specs.Selecting.{IsChoiceOf}
use Rattle.jsonptr_text_resolve.proofs.SearchLemmas.{len_same, member_content}
use Rattle.jsonptr_text_check.specs.Editing.{InsertsItem, InsertsMember, AddsChosenMember, AddsElement}
use Rattle.jsonptr_text_step.specs.EditInText.{AssignsInText, DeletesInText}
use Rattle.jsonptr_text_step.specs.PrivateReaching.{ReachedInText}
use Rattle.jsonptr_text_step.proofs.ReachingLemmas.{item_content, other_key, reached_so}
use Rattle.jsonptr_text_step.proofs.EditLemmas.{map_there}

-- ---- a member

without_member : (ms ms2 : json.Members) (k : Text) (e : Data) → InsertsMember k e ms ms2 → nodes (json.object ms) ≡ without_key k (nodes (json.object ms2))
without_member ms ms2 k e h = same_by_step (nodes (json.object ms)) (without_key k (nodes (json.object ms2))) refl (λ t. at t (cases_same (key k) t))
  where
    gone : (p : Path) → nodes (json.object ms) (key k ∷ p) ≡ None
    gone p = ap (λ (o : Option Content). option_map label_of (option_and_then (content_at p) o)) (member_content k ms ∙ ap (option_map content) h.none)

    others : (t : Step) → same_step (key k) t ≡ false → tree.child t (content (json.object ms)) ≡ tree.child t (content (json.object ms2))
    others (place j) apart = refl
    others (key l) apart = member_content l ms ∙ sym (member_content l ms2 ∙ ap (option_map content) (h.others l (other_key k l apart)))

    at : (t : Step) → (key k ≡ t) ⊎ (same_step (key k) t ≡ false) → sub (nodes (json.object ms)) (t ∷ []) ≡ sub (without_key k (nodes (json.object ms2))) (t ∷ [])
    at t (inl same) = subst (λ (u : Step). sub (nodes (json.object ms)) (u ∷ []) ≡ sub (without_key k (nodes (json.object ms2))) (u ∷ [])) same
        (fun_ext (λ (p : Path). gone p ∙ sym (without_key-same k (nodes (json.object ms2)) p)))
    at t (inr apart) = fun_ext (λ (p : Path).
        ap (λ (o : Option Content). option_map label_of (option_and_then (content_at p) o)) (others t apart) ∙ sym (without_key-other k (nodes (json.object ms2)) t p apart))

-- ---- an element

element_before : (ds ds2 : json.Items) (i : ℕ) (e : Data) → InsertsItem i e ds ds2 → (j : ℕ) → find.get_item j ds ≡ find.get_item (place_before i j) ds2
element_before ds ds2 i e h j = at (lower j i)
  where
    lower : (a b : ℕ) → (a < b) ⊎ (b ≤ a)
    lower zero zero = inr (omega arith)
    lower zero (suc b) = inl (omega arith)
    lower (suc a) zero = inr (omega arith)
    lower (suc a) (suc b) = ⊎_elim (λ x. inl (omega (arith, x))) (λ x. inr (omega (arith, x))) (lower a b)

    at : (j < i) ⊎ (i ≤ j) → find.get_item j ds ≡ find.get_item (place_before i j) ds2
    at (inl low) = sym (ap (λ (n : ℕ). find.get_item n ds2) (place_before-below i j low) ∙ h.before j low)
    at (inr high) = sym (ap (λ (n : ℕ). find.get_item n ds2) (place_before-from i j high) ∙ h.after j high)

without_element : (ds ds2 : json.Items) (i : ℕ) (e : Data) → InsertsItem i e ds ds2 → nodes (json.array ds) ≡ without_place i (nodes (json.array ds2))
without_element ds ds2 i e h = same_by_step (nodes (json.array ds)) (without_place i (nodes (json.array ds2))) label at
  where
    label : nodes (json.array ds) [] ≡ one_less (nodes (json.array ds2) [])
    label = ap (λ (n : ℕ). Some (an_array n)) (len_same ds ∙ less (json_search.items_count ds) ∙ ap (λ (n : ℕ). n - 1) (sym h.one_more) ∙ ap (λ (n : ℕ). n - 1) (sym (len_same ds2)))
      where
        less : (n : ℕ) → n ≡ suc n - 1
        less n = omega arith

    at : (t : Step) → sub (nodes (json.array ds)) (t ∷ []) ≡ sub (without_place i (nodes (json.array ds2))) (t ∷ [])
    at (key k) = refl
    at (place j) = fun_ext (λ (p : Path). ap (λ (o : Option Content). option_map label_of (option_and_then (content_at p) o))
        (item_content ds j ∙ ap (option_map content) (element_before ds ds2 i e h j) ∙ sym (item_content ds2 (place_before i j))))

-- ---- a child

-- `Loses x d d2`: the token x refers to a child of d2, and d is d2 without it
record Loses (x : Text) (d d2 : Data) : Type 0 where
  pub step : Step
  pub named : NamesStep (nodes d2 []) x step
  pub there : IsSome (nodes d2 (step ∷ []))
  pub less : nodes d ≡ without_step step (nodes d2)

some_there : (o : Option Content) (c : Content) → o ≡ Some c → IsSome (option_map label_of (option_and_then (content_at []) o))
some_there o c h = subst (λ (x : Option Content). IsSome (option_map label_of (option_and_then (content_at []) x))) (sym h) refl

loses_element : (x : Text) (c : Choice) (e d d2 : Data) → IsChoiceOf x c → AddsElement c e d d2 → Loses x d d2
loses_element x c e d d2 is h = subst (λ (y : Data). Loses x d y) (sym h.new) (subst (λ (y : Data). Loses x y (json.array h.ds2)) (sym h.old) (record {
  step = place h.i;
  named = (within, is.index_is h.i h.selects);
  there = some_there (tree.child (place h.i) (content (json.array h.ds2))) (content e) (item_content h.ds2 h.i ∙ ap (option_map content) h.inserts.is);
  less = without_element h.ds h.ds2 h.i e h.inserts;
}))
  where
    within : h.i < items_len (items h.ds2)
    within = omega (arith, len_same h.ds2, h.inserts.one_more, h.inserts.within)

loses_member : (x : Text) (c : Choice) (e d d2 : Data) → IsChoiceOf x c → AddsChosenMember c e d d2 → Loses x d d2
loses_member x c e d d2 is h = subst (λ (y : Data). Loses x d y) (sym h.new) (subst (λ (y : Data). Loses x y (json.object h.ms2)) (sym h.old) (record {
  step = key c.0;
  named = is.key_is;
  there = some_there (tree.child (key c.0) (content (json.object h.ms2))) (content e) (member_content c.0 h.ms2 ∙ ap (option_map content) h.inserts.is);
  less = without_member h.ms h.ms2 c.0 e h.inserts;
}))

-- the old text is the new one with one child more, which the last token refers to
deletes : (old new : Text) (tokens front : List Text) (x : Text) → tokens ≡ front ++ x ∷ [] → ReachedInText new old front (Loses x) → DeletesInText old tokens new
deletes old new tokens front x split h =
    let d2 = h.0 in
    let d = h.1 in
    let r = h.4 in
    let l = r.changes in
    let root : IsSome (nodes r.at2 []) = refl in
    let named : Names (nodes d) front r.path = subst (λ (n : NodeMap). Names n front r.path) (sym r.made) (Names-put (nodes d2) front r.path (nodes r.at2) r.named root) in
    let there : sub (nodes d) r.path ≡ nodes r.at2 = ap (λ (n : NodeMap). sub n r.path) r.made ∙ sub-put (nodes d2) r.path (nodes r.at2) in
    let label : nodes d r.path ≡ nodes r.at2 [] = ap (λ (n : NodeMap). n r.path) r.made ∙ put_at (nodes d2) r.path (nodes r.at2) in
    let child : nodes d (r.path ++ l.step ∷ []) ≡ nodes r.at2 (l.step ∷ []) = ap (λ (n : NodeMap). n (l.step ∷ [])) there in
    let whole : Names (nodes d) (front ++ x ∷ []) (r.path ++ l.step ∷ []) = Names-push (nodes d) front x r.path l.step named (subst (λ (o : Option Label). NamesStep o x l.step) (sym label) l.named) (subst IsSome (sym child) l.there) in
    let all : Names (nodes d) tokens (r.path ++ l.step ∷ []) = subst (λ (ts : List Text). Names (nodes d) ts (r.path ++ l.step ∷ [])) (sym split) whole in
    let less : put (nodes d) r.path (without_step l.step (sub (nodes d) r.path)) ≡ nodes d2 =
    ap (λ (n : NodeMap). put (nodes d) r.path (without_step l.step n)) there
    ∙ ap (put (nodes d) r.path) (sym l.less)
    ∙ ap (λ (n : NodeMap). put n r.path (nodes r.at)) r.made
    ∙ put-put (nodes d2) r.path (nodes r.at2) (nodes r.at)
    ∙ ap (put (nodes d2) r.path) (map_there d2 r.at r.path r.there)
    ∙ put-sub (nodes d2) r.path in (
      d,
      d2,
      h.3,
      h.2,
      (r.path ++ l.step ∷ [], all),
      subst (λ (m : NodeMap). Deletes (nodes d) tokens (nodes json.null) m) less (Deletes_child (nodes d) (nodes json.null) tokens r.path l.step all),
    )

pub deletes_member : (old new value : Text) (front : List Text) (x : Text) (c : Choice) → IsChoiceOf x c → ReachedInText new old front (λ at at2. (e : Data) × (read value ≡ Some e) × AddsChosenMember c e at at2) → DeletesInText old (front ++ x ∷ []) new
deletes_member old new value front x c is h = deletes old new (front ++ x ∷ []) front x refl
    (reached_so new old front (λ at at2. (e : Data) × (read value ≡ Some e) × AddsChosenMember c e at at2) (Loses x) (λ d d2 m. loses_member x c m.0 d d2 is m.2) h)

pub deletes_element : (old new value : Text) (front : List Text) (x : Text) (c : Choice) → IsChoiceOf x c → ReachedInText new old front (λ at at2. (e : Data) × (read value ≡ Some e) × AddsElement c e at at2) → DeletesInText old (front ++ x ∷ []) new
deletes_element old new value front x c is h = deletes old new (front ++ x ∷ []) front x refl
    (reached_so new old front (λ at at2. (e : Data) × (read value ≡ Some e) × AddsElement c e at at2) (Loses x) (λ d d2 m. loses_element x c m.0 d d2 is m.2) h)

-- the whole document was replaced by null
pub deletes_root : (old new : Text) (tokens : List Text) (blank : NodeMap) → tokens ≡ [] → blank ≡ nodes json.null → AssignsInText old tokens blank new → DeletesInText old tokens new
deletes_root old new tokens blank none null h =
    let named : Names (nodes h.0) tokens [] = subst (λ (ts : List Text). Names (nodes h.0) ts []) (sym none) refl in
    let made : nodes h.1 ≡ nodes json.null = ((Assigns-named (nodes h.0) tokens blank (nodes h.1) h.4 [] named).0 h.5).0 ∙ null in (
      h.0,
      h.1,
      h.2,
      h.3,
      ([], named),
      subst (λ (m : NodeMap). Deletes (nodes h.0) tokens (nodes json.null) m) (sym made) (subst (λ (ts : List Text). Deletes (nodes h.0) ts (nodes json.null) (nodes json.null)) (sym none) (Deletes_whole (nodes h.0) (nodes json.null) refl)),
    )
