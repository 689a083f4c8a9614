-- The operations that turn one array into another: arrays of the first elements of one and the last of another.
use Rattle.std.proofs.Common.{◌≡◌, ℕ, zero, suc, ◌+◌, ◌-◌, ◌<◌, ◌≤◌, List, [], ◌∷◌, ◌++◌, length, get_or, drop, Option, Some, is_some, IsSome, inr, ⊎_elim, Vec, Global, refl, sym, ap, ◌∙◌, subst, arith}
use mathlib.Core.Path.{fun_ext}
use Rattle.std.specs.List.{slice_range}
use Rattle.std.proofs.lemmas.List.{get_or-take, get_or-drop}
use Rattle.std.proofs.lemmas.Bool.{cases_lt}
use Rattle.serde_json.specs.Data.{Data, depth, items_depth}
use Rattle.serde_json.specs.Find.{as_array}
use Rattle.serde_json.specs.View.{view, items_view}
use Rattle.serde_json.specs.declared.value.Value.{Value, Null, Array}
use Rattle.serde_json.proofs.Views.{view-Array}
use Rattle.jsonptr.specs.Text.{Text, dec}
use Rattle.jsonptr.specs.Node.{Step, key, place, Path, Label, an_array, NodeMap, sub, NamesStep}
use Rattle.jsonptr.specs.Put.{put}
use Rattle.jsonptr.specs.Json.{nodes}
use Rattle.jsonptr.specs.Removing.{one_less, without_place}
use Rattle.jsonptr_tree.proofs.JsonLemmas.{content_of, content_one, array_is, ascends_part}
use Rattle.jsonptr_tree.proofs.LevelLemmas.{content_at-Array}
use Rattle.jsonptr_tree.proofs.PutLemmas.{same_by_step, sub-put, put-other_step}
use Rattle.jsonptr_tree.proofs.RemovingLemmas.{place_before-below, place_before-from}
use Rattle.jsonptr_document.proofs.JsonLevel.{array_at}
use Rattle.jsonptr_patch.specs.Inserting.{with_place}
use Rattle.jsonptr_patch.specs.declared.operation.Operation.{Operation}
use Rattle.jsonptr_patch.proofs.InsertingLemmas.{with_place-same, with_place-below, with_place-above, with_place-root}
use Rattle.jsonptr_patch.proofs.TestingLemmas.{element_label, past_label, array_label, no_key_label, any_default}
use Rattle.jsonptr_patch_diff.specs.Diff.{AreOfOneKind, IsDoneBefore}
use Rattle.jsonptr_patch_diff.specs.PrivateSame.{IsSame, SameSuffix, AreSameFrom}
use Rattle.jsonptr_patch_diff.specs.PrivateDiff.{AppendsRemove, AppendsAdd, AppendsChanges, AppendsParts, Turns, array_map, IsArray, IsArrayOf, IsLike, IsSpliced, Splices}
use Rattle.jsonptr_patch_diff.specs.PrivateSame.{SameElements}
use Rattle.jsonptr_patch_diff.proofs.ChangeLemmas.{parts_changes}
use Rattle.jsonptr_patch_diff.proofs.SameLemmas.{twin_same, twin_made, elements_same}
use Rattle.jsonptr_patch_diff.proofs.TurningLemmas.{turns_nowhere, turns_further, turns_as, turns_below, turns_remove_element, turns_add_element, other_place}

-- ---- the maps of elements

pub element_map : (v : Vec Value Global) (i : ℕ) (x : Value) → i < length v.items → sub (array_map v) (place i ∷ []) ≡ nodes (view (get_or v.items i x))
element_map v i x h = fun_ext (λ (p : Path). element_label v i p x h)

-- the element at an index, as the code reads it
pub element_read : (v : Vec Value Global) (i : ℕ) (x : Value) → i < length v.items → x ≡ get_or v.items i x → sub (array_map v) (place i ∷ []) ≡ nodes (view x)
element_read v i x h is = element_map v i x h ∙ ap (λ (u : Value). nodes (view u)) (sym is)

item_within : (vs : List Value) (i : ℕ) (x : Value) → i < length vs → depth (view (get_or vs i x)) ≤ items_depth (items_view vs)
item_within [] i x low = absurd (omega (arith, low))
item_within (v ∷ vs) zero x low = omega arith
item_within (v ∷ vs) (suc i) x low = let later = item_within vs i x (omega (arith, low)) in omega (arith, later)

-- the keys in an element of an array with sorted keys are sorted, and it nests less deep
pub element_like : (v : Vec Value Global) (i : ℕ) (x : Value) → i < length v.items → x ≡ get_or v.items i x → IsLike (view (Array v)) (view x)
element_like v i x h is = record {
  sorted = λ sorted. ascends_part (place i ∷ []) (view (Array v)) (view x) sorted (content_at-Array content_of Array array_is v i x h ∙ ap (λ (u : Value). Some (content_of u)) (sym is));
  shallow = omega (arith, item_within v.items i x h, ap (λ (u : Value). depth (view u)) is, ap depth (view-Array v));
}

pub array_is_array : (v : Vec Value Global) → IsArray (array_map v) (length v.items)
array_is_array v = record {
  root = array_label v;
  full = λ i b. ap (λ (m : NodeMap). is_some (m [])) (element_map v i Null b);
  keys = no_key_label v;
}

-- ---- spliced arrays

-- at the beginning
spliced_start : (c d : NodeMap) (len : ℕ) → IsArray c len → IsSpliced c d 0 0 len c
spliced_start c d len a = record {
  root = a.root ∙ ap (λ (n : ℕ). Some (an_array n)) same;
  front = λ j b. absurd (omega (arith, b));
  rest = λ j. refl;
  keys = a.keys;
}
  where
    same : len ≡ 0 + len
    same = omega arith

-- the next element is that of d already
spliced_keep : (c d : NodeMap) (i k left : ℕ) (e : NodeMap) → sub c (place k ∷ []) ≡ sub d (place i ∷ []) → IsSpliced c d i k (suc left) e → IsSpliced c d (suc i) (suc k) left e
spliced_keep c d i k left e same s = record {
  root = s.root ∙ ap (λ (n : ℕ). Some (an_array n)) more;
  front = λ j b. ⊎_elim
      (λ (h : j < i). s.front j h)
      (λ (h : i ≤ j).
      let here : i ≡ j = omega (arith, b, h) in
      subst (λ (n : ℕ). sub e (place n ∷ []) ≡ sub d (place n ∷ [])) here first)
      (cases_lt j i);
  rest = λ j.
      let next : i + suc j ≡ suc i + j = omega arith in
      let after : k + suc j ≡ suc k + j = omega arith in
      subst (λ (n : ℕ). sub e (place n ∷ []) ≡ sub c (place (suc k + j) ∷ [])) next (s.rest (suc j) ∙ ap (λ (n : ℕ). sub c (place n ∷ [])) after);
  keys = s.keys;
}
  where
    more : i + suc left ≡ suc i + left
    more = omega arith

    first : sub e (place i ∷ []) ≡ sub d (place i ∷ [])
    first =
        let here : i + 0 ≡ i = omega arith in
        let there : k + 0 ≡ k = omega arith in
        ap (λ (n : ℕ). sub e (place n ∷ [])) (sym here) ∙ s.rest 0 ∙ ap (λ (n : ℕ). sub c (place n ∷ [])) there ∙ same

-- the next element becomes that of d
spliced_put : (c d : NodeMap) (i k left : ℕ) (e : NodeMap) → IsSpliced c d i k (suc left) e → IsSpliced c d (suc i) (suc k) left (put e (place i ∷ []) (sub d (place i ∷ [])))
spliced_put c d i k left e s = record {
  root = s.root ∙ ap (λ (n : ℕ). Some (an_array n)) more;
  front = λ j b. ⊎_elim
      (λ (h : j < i). put-other_step e (place i) (place j) [] (sub d (place i ∷ [])) (other_place i j (λ x. omega (arith, x, h))) ∙ s.front j h)
      (λ (h : i ≤ j).
      let same : i ≡ j = omega (arith, b, h) in
      subst (λ (n : ℕ). sub (put e (place i ∷ []) (sub d (place i ∷ []))) (place n ∷ []) ≡ sub d (place n ∷ [])) same (sub-put e (place i ∷ []) (sub d (place i ∷ []))))
      (cases_lt j i);
  rest = λ j.
      let next : i + suc j ≡ suc i + j = omega arith in
      let after : k + suc j ≡ suc k + j = omega arith in
      put-other_step e (place i) (place (suc i + j)) [] (sub d (place i ∷ [])) (other_place i (suc i + j) (λ x. omega (arith, x)))
      ∙ subst (λ (n : ℕ). sub e (place n ∷ []) ≡ sub c (place (suc k + j) ∷ [])) next (s.rest (suc j) ∙ ap (λ (n : ℕ). sub c (place n ∷ [])) after);
  keys = λ t p. s.keys t p;
}
  where
    more : i + suc left ≡ suc i + left
    more = omega arith

-- the next element of c is removed
spliced_less : (c d : NodeMap) (i k left : ℕ) (e : NodeMap) → IsSpliced c d i k (suc left) e → IsSpliced c d i (suc k) left (without_place i e)
spliced_less c d i k left e s = record {
  root = ap one_less s.root ∙ ap (λ (n : ℕ). Some (an_array n)) less;
  front = λ j b. ap (λ (n : ℕ). sub e (place n ∷ [])) (place_before-below i j b) ∙ s.front j b;
  rest = λ j.
      let from : i ≤ i + j = omega arith in
      let next : suc (i + j) ≡ i + suc j = omega arith in
      let after : k + suc j ≡ suc k + j = omega arith in
      ap (λ (n : ℕ). sub e (place n ∷ [])) (place_before-from i (i + j) from ∙ next) ∙ s.rest (suc j) ∙ ap (λ (n : ℕ). sub c (place n ∷ [])) after;
  keys = λ t p. s.keys t p;
}
  where
    less : (i + suc left) - 1 ≡ i + left
    less = omega arith

-- an element of d is inserted
spliced_more : (c d : NodeMap) (i k left : ℕ) (e : NodeMap) → IsSpliced c d i k left e → IsSpliced c d (suc i) k left (with_place i (sub d (place i ∷ [])) e)
spliced_more c d i k left e s = record {
  root = with_place-root i (i + left) (sub d (place i ∷ [])) e s.root ∙ ap (λ (n : ℕ). Some (an_array n)) more;
  front = λ j b. ⊎_elim
      (λ (h : j < i). with_place-below i j (sub d (place i ∷ [])) e h ∙ s.front j h)
      (λ (h : i ≤ j).
      let same : i ≡ j = omega (arith, b, h) in
      subst (λ (n : ℕ). sub (with_place i (sub d (place i ∷ [])) e) (place n ∷ []) ≡ sub d (place n ∷ [])) same (with_place-same i (sub d (place i ∷ [])) e))
      (cases_lt j i);
  rest = λ j.
      let from : i ≤ i + j = omega arith in
      let next : suc i + j ≡ suc (i + j) = omega arith in
      ap (λ (n : ℕ). sub (with_place i (sub d (place i ∷ [])) e) (place n ∷ [])) next ∙ with_place-above i (i + j) (sub d (place i ∷ [])) e from ∙ s.rest j;
  keys = λ t p. s.keys t p;
}
  where
    more : suc (i + left) ≡ suc i + left
    more = omega arith

-- all elements are there
spliced_end : (c d : NodeMap) (i k left len : ℕ) (e : NodeMap) → IsSpliced c d i k left e → IsArray d len → i + left ≡ len → ((j : ℕ) → sub c (place (k + j) ∷ []) ≡ sub d (place (i + j) ∷ [])) → e ≡ d
spliced_end c d i k left len e s a long tail = same_by_step e d (s.root ∙ ap (λ (n : ℕ). Some (an_array n)) long ∙ sym a.root) go
  where
    go : (t : Step) → sub e (t ∷ []) ≡ sub d (t ∷ [])
    go (key t) = fun_ext (λ (p : Path). s.keys t p ∙ sym (a.keys t p))
    go (place j) = ⊎_elim
        (λ (h : j < i). s.front j h)
        (λ (h : i ≤ j).
        let back : i + (j - i) ≡ j = omega (arith, h) in
        subst (λ (n : ℕ). sub e (place n ∷ []) ≡ sub d (place n ∷ [])) back (s.rest (j - i) ∙ tail (j - i)))
        (cases_lt j i)

-- the elements after these are the same
same_rest : (v w : Vec Value Global) (k i n : ℕ) → SameSuffix v.items w.items n → k + n ≡ length v.items → i + n ≡ length w.items → (j : ℕ) → sub (array_map v) (place (k + j) ∷ []) ≡ sub (array_map w) (place (i + j) ∷ [])
same_rest v w k i n s e f j = ⊎_elim
    (λ (h : j < n).
    let a : k + j < length v.items = omega (arith, e, h) in
    let b : i + j < length w.items = omega (arith, f, h) in
    element_map v (k + j) Null a ∙ twin_same _ _ (s.same (n - (j + 1)) (k + j) (i + j) Null (omega (arith, h)) (omega (arith, e, h)) (omega (arith, f, h))) ∙ sym (element_map w (i + j) Null b))
    (λ (h : n ≤ j).
    let a : length v.items ≤ k + j = omega (arith, e, h) in
    let b : length w.items ≤ i + j = omega (arith, f, h) in
    fun_ext (λ (p : Path). past_label v (k + j) p a ∙ sym (past_label w (i + j) p b)))
    (cases_lt j n)

-- ---- the steps of the code

label_some : (e : NodeMap) (l : Label) → e [] ≡ Some l → IsSome (e [])
label_some e l is = subst (λ (o : Option Label). IsSome o) (sym is) refl

pub splices_start : (goal : Data) (before : List Operation) (base : List Text) (c d : NodeMap) (len : ℕ) → IsArray c len → IsArrayOf goal d → Splices goal before before base c d 0 0 len
splices_start goal before base c d len a all = (c, spliced_start c d len a, turns_nowhere goal before base c c refl, all)

-- the map of an array that is the goal
pub array_of : (v : Vec Value Global) → IsArrayOf (view (Array v)) (array_map v)
array_of v = record {
  is = refl;
  len = length v.items;
  root = array_label v;
}

-- both are arrays, and all elements before the next one are done
spliced_kind : (goal : Data) (c d : NodeMap) (i k left : ℕ) (e : NodeMap) → IsSpliced c d i k left e → IsArrayOf goal d → AreOfOneKind (e []) (nodes goal [])
spliced_kind goal c d i k left e s all = inr (i + left, all.len, s.root, sym (ap (λ (q : NodeMap). q []) all.is) ∙ all.root)

spliced_done : (goal : Data) (c d : NodeMap) (i k left : ℕ) (e : NodeMap) → IsSpliced c d i k left e → IsArrayOf goal d → IsDoneBefore e (nodes goal) [] (place i)
spliced_done goal c d i k left e s all = λ j low. s.front j low ∙ ap (λ (q : NodeMap). sub q (place j ∷ [])) all.is

-- the element at index i of a spliced array is that of c at index k
rest_first : (c d : NodeMap) (i k left : ℕ) (e : NodeMap) → IsSpliced c d i k left e → sub e (place i ∷ []) ≡ sub c (place k ∷ [])
rest_first c d i k left e s =
    let zero_more : i + 0 ≡ i = omega arith in
    let none_more : k + 0 ≡ k = omega arith in
    subst (λ (n : ℕ). sub e (place i ∷ []) ≡ sub c (place n ∷ [])) none_more (subst (λ (n : ℕ). sub e (place n ∷ []) ≡ sub c (place (k + 0) ∷ [])) zero_more (s.rest 0))

-- an element that is the same
pub splices_keep : (goal : Data) (first last : List Operation) (base : List Text) (c d : NodeMap) (i k left : ℕ) → sub c (place k ∷ []) ≡ sub d (place i ∷ []) → Splices goal first last base c d i k (suc left) → Splices goal first last base c d (suc i) (suc k) left
splices_keep goal first last base c d i k left same (e, s, turns, all) = (e, spliced_keep c d i k left e same s, turns, all)

-- an element that is followed
pub splices_put : (goal part : Data) (first before after : List Operation) (base : List Text) (c d : NodeMap) (i k left len : ℕ) (v : NodeMap) → IsLike goal part → IsArray c len → k < len → sub c (place k ∷ []) ≡ v → sub d (place i ∷ []) ≡ nodes part → Splices goal first before base c d i k (suc left) → Turns part before after (base ++ dec i ∷ []) v (nodes part) → Splices goal first after base c d (suc i) (suc k) left
splices_put goal part first before after base c d i k left len v like a inside old new (e, s, turns, all) child =
    let w = nodes part in
    let here : v ≡ sub e (place i ∷ []) = sym old ∙ sym (rest_first c d i k (suc left) e s) in
    let there : IsSome (e (place i ∷ [])) = subst (λ (q : NodeMap). IsSome (q [])) (old ∙ here) (a.full k inside) in
    let final = sym new ∙ ap (λ (q : NodeMap). sub q (place i ∷ [])) all.is in
    let step : Turns goal before after base e (put e (place i ∷ []) w) = turns_below goal part before after base (dec i) (place i) e v w like final (subst (λ (l : Option Label). NamesStep l (dec i) (place i)) (sym s.root) (omega arith, refl)) there here (spliced_kind goal c d i k (suc left) e s all) (spliced_done goal c d i k (suc left) e s all) child in (
      put e (place i ∷ []) (sub d (place i ∷ [])),
      spliced_put c d i k left e s,
      turns_further goal first before after base c e (put e (place i ∷ []) (sub d (place i ∷ []))) (label_some e _ s.root) turns (subst (λ (q : NodeMap). Turns goal before after base e (put e (place i ∷ []) q)) (sym new) step),
      all,
    )

-- an element that is removed
pub splices_less : (goal : Data) (first before after : List Operation) (base : List Text) (c d : NodeMap) (i k left len : ℕ) → IsArray c len → k < len → Splices goal first before base c d i k (suc left) → AppendsRemove before after (base ++ dec i ∷ []) → Splices goal first after base c d i (suc k) left
splices_less goal first before after base c d i k left len a inside (e, s, turns, all) gone =
    let there : IsSome (e (place i ∷ [])) = subst (λ (q : NodeMap). IsSome (q [])) (sym (rest_first c d i k (suc left) e s)) (a.full k inside) in (
      without_place i e,
      spliced_less c d i k left e s,
      turns_further goal first before after base c e (without_place i e) (label_some e _ s.root) turns (turns_remove_element goal before after base i (i + suc left) e (spliced_kind goal c d i k (suc left) e s all) (spliced_done goal c d i k (suc left) e s all) s.root (omega arith) there gone),
      all,
    )

-- an element that is inserted
pub splices_more : (goal part : Data) (first before after : List Operation) (base : List Text) (c d : NodeMap) (i k left : ℕ) → IsLike goal part → sub d (place i ∷ []) ≡ nodes part → Splices goal first before base c d i k left → AppendsAdd before after (base ++ dec i ∷ []) part → Splices goal first after base c d (suc i) k left
splices_more goal part first before after base c d i k left like is (e, s, turns, all) comes =
    let final = sym is ∙ ap (λ (q : NodeMap). sub q (place i ∷ [])) all.is in
    let step = turns_add_element goal before after base i (i + left) e part like (spliced_kind goal c d i k left e s all) (spliced_done goal c d i k left e s all) final s.root (omega arith) comes in (
      with_place i (sub d (place i ∷ [])) e,
      spliced_more c d i k left e s,
      turns_further goal first before after base c e (with_place i (sub d (place i ∷ [])) e) (label_some e _ s.root) turns (subst (λ (q : NodeMap). Turns goal before after base e (with_place i q e)) (sym is) step),
      all,
    )

-- at equal numbers
pub splices_at : (goal : Data) (first last : List Operation) (base : List Text) (c d : NodeMap) (i k l m n o : ℕ) → i ≡ m → k ≡ n → l ≡ o → Splices goal first last base c d i k l → Splices goal first last base c d m n o
splices_at goal first last base c d i k l m n o e f g s = subst (λ (z : ℕ). Splices goal first last base c d m n z) g (subst (λ (y : ℕ). Splices goal first last base c d m y l) f (subst (λ (x : ℕ). Splices goal first last base c d x k l) e s))

-- all elements before a common suffix
pub splices_end : (goal : Data) (first last : List Operation) (base : List Text) (v w : Vec Value Global) (i k n : ℕ) → SameSuffix v.items w.items n → k + n ≡ length v.items → i + n ≡ length w.items → Splices goal first last base (array_map v) (array_map w) i k n → Turns goal first last base (array_map v) (array_map w)
splices_end goal first last base v w i k n same e f (m, s, turns, all) =
    turns_as goal first last base (array_map v) (array_map w) (array_map v) m refl (sym (spliced_end (array_map v) (array_map w) i k n (length w.items) m s (array_is_array w) f (same_rest v w k i n same e f))) turns

-- arrays, as values
pub arrays_turn : (v w : Value) (a b : Vec Value Global) (first last : List Operation) (base : List Text) → v ≡ Array a → Some (items_view b.items) ≡ as_array (view w) → Turns (view (Array b)) first last base (array_map a) (array_map b) → Turns (view w) first last base (nodes (view v)) (nodes (view w))
arrays_turn v w a b first last base is other turns =
    let same : view w ≡ view (Array b) = content_one (view w) (view (Array b)) (array_at w b other) in
    subst (λ (d : Data). Turns d first last base (nodes (view v)) (nodes d)) (sym same) (turns_as (view (Array b)) first last base (nodes (view v)) (array_map b) (array_map a) (array_map b) (ap (λ (u : Value). nodes (view u)) is) refl turns)

-- one more element of a common suffix
pub suffix_more : (vs ws : List Value) (done a0 b0 : ℕ) (x y : Value) → x ≡ get_or vs a0 x → y ≡ get_or ws b0 y → a0 + done + 1 ≡ length vs → b0 + done + 1 ≡ length ws → IsSame x y
    → ((j a b : ℕ) (z : Value) → j < done → a + j + 1 ≡ length vs → b + j + 1 ≡ length ws → IsSame (get_or vs a z) (get_or ws b z))
    → (j a b : ℕ) (z : Value) → j < done + 1 → a + j + 1 ≡ length vs → b + j + 1 ≡ length ws → IsSame (get_or vs a z) (get_or ws b z)
suffix_more vs ws done a0 b0 x y is other e0 f0 same before j a b z h e f = ⊎_elim
    (λ (k : j < done). before j a b z k e f)
    (λ (k : done ≤ j).
    let left : a0 ≡ a = omega (arith, h, k, e, e0) in
    let right : b0 ≡ b = omega (arith, h, k, f, f0) in
    let inside : a0 < length vs = omega (arith, e0) in
    let within : b0 < length ws = omega (arith, f0) in
    subst (λ (n : ℕ). IsSame (get_or vs n z) (get_or ws b z)) left (subst (λ (n : ℕ). IsSame (get_or vs a0 z) (get_or ws n z)) right
    (subst (λ (u : Value). IsSame u (get_or ws b0 z)) (is ∙ any_default vs a0 x z inside) (subst (IsSame x) (other ∙ any_default ws b0 y z within) same))))
    (cases_lt j done)

-- ---- which operations are appended

-- arrays that are the same append nothing
pub elements_change : (v w : Vec Value Global) (base : List Text) (first last : List Operation) → (SameElements v.items w.items → last ≡ first) → AppendsParts base first last → AppendsChanges base (array_map v) (array_map w) first last
elements_change v w base first last kept h = parts_changes base (array_map v) (array_map w) (length v.items) (length w.items) first last (array_is_array v) (array_is_array w)
    (λ (none : array_map v ≡ array_map w). kept ((elements_same v w).1 (twin_made (array_map v) (array_map w) none))) h

-- arrays, as values
pub arrays_change : (v w : Value) (a b : Vec Value Global) (first last : List Operation) (base : List Text) → v ≡ Array a → Some (items_view b.items) ≡ as_array (view w) → AppendsChanges base (array_map a) (array_map b) first last → AppendsChanges base (nodes (view v)) (nodes (view w)) first last
arrays_change v w a b first last base is other h =
    let same : view w ≡ view (Array b) = content_one (view w) (view (Array b)) (array_at w b other) in
    subst (λ (d : Data). AppendsChanges base (nodes (view v)) (nodes d) first last) (sym same) (subst (λ (u : Value). AppendsChanges base (nodes (view u)) (array_map b) first last) (sym is) h)

-- elements at one index of arrays that are the same
pub same_from : (vs ws : List Value) (i n : ℕ) → SameElements vs ws → i + n ≤ length vs → AreSameFrom vs i ws i n
same_from vs ws i n all within k x y low =
    let inside : i + k < length vs = omega (arith, within, low) in
    let other : i + k < length ws = omega (arith, inside, all.0) in
    subst (λ (u : Value). IsSame (get_or vs (i + k) x) u) (any_default ws (i + k) x y other) (all.1 (i + k) x inside)

-- the first elements of two parts of such arrays
pub same_first : (vs ws us ts : List Value) (i j : ℕ) (m n : ℕ) → us ≡ vs → ts ≡ ws → i ≡ j → i < length vs → i < m → j < n → SameElements vs ws → IsSame (get_or (slice_range us i m) 0 Null) (get_or (slice_range ts j n) 0 Null)
same_first vs ws us ts i j m n first second at inside low less all =
    let one : get_or (slice_range us i m) 0 Null ≡ get_or vs i Null = slice_first us i m low ∙ ap (λ (l : List Value). get_or l i Null) first in
    let two : get_or (slice_range ts j n) 0 Null ≡ get_or ws i Null = slice_first ts j n less ∙ ap (λ (l : List Value). get_or l j Null) second ∙ ap (λ (k : ℕ). get_or ws k Null) (sym at) in
    subst (λ (u : Value). IsSame u (get_or (slice_range ts j n) 0 Null)) (sym one) (subst (λ (u : Value). IsSame (get_or vs i Null) u) (sym two) (all.1 i Null inside))
  where
    slice_first : (l : List Value) (a b : ℕ) → a < b → get_or (slice_range l a b) 0 Null ≡ get_or l a Null
    slice_first l a b h = get_or-take (b - a) (drop a l) 0 Null (omega (arith, h)) ∙ get_or-drop a l 0 Null ∙ ap (λ (k : ℕ). get_or l k Null) (omega arith)

-- elements, as the code reads them
pub read_same : (vs ws : List Value) (i j : ℕ) (v w x y : Value) → v ≡ get_or vs i v → w ≡ get_or ws j w → i < length vs → j < length ws → IsSame (get_or vs i x) (get_or ws j y) → IsSame v w
read_same vs ws i j v w x y one two inside within same =
    let first : get_or vs i x ≡ v = any_default vs i x v inside ∙ sym one in
    let second : get_or ws j y ≡ w = any_default ws j y w within ∙ sym two in
    subst (λ (u : Value). IsSame u w) first (subst (λ (u : Value). IsSame (get_or vs i x) u) second same)
