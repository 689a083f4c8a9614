-- Visiting the elements of an array that is the document, one by one.
use Rattle.std.proofs.Common.{◌≡◌, ℕ, ◌+◌, ◌<◌, List, [], ◌∷◌, ◌++◌, length, Some, suc, Vec, Global, refl, sym, ap, subst, ◌∙◌, arith, length-append}
use Rattle.serde_json.specs.Data.{Data, Items, array, item, no_items}
use Rattle.serde_json.specs.View.{view, items_view}
use Rattle.serde_json.specs.declared.value.Value.{Value, Array}
use Rattle.serde_json.proofs.Views.{view-Array}
use Rattle.jsonptr_text_search.specs.PrivateReading.{with_items_before}
use Rattle.jsonptr.specs.Content.{content_at, get_item, items_len, map_of, FindsContent}
use Rattle.jsonptr.specs.Json.{items, content, nodes}
use Rattle.jsonptr_tree.proofs.ContentLemmas.{map_of-sub}
use Rattle.jsonptr.specs.Node.{place, an_array}
use Rattle.jsonptr.specs.Text.{Text, text, dec}
use Rattle.jsonptr.proofs.Calling.{map_of-IsTree}
use Rattle.jsonptr_value.specs.JsonText.{IsCompact}
use Rattle.jsonptr_text_paths.specs.Listing.{emptied, IsLeaf, IsLineOf, IsShown, Lists}
use Rattle.jsonptr_text_paths.specs.PrivateElements.{VisitsElements}
use Rattle.jsonptr_text_paths.specs.PrivateWalking.{AddsPointers, AnyPath, NotRoot, InFirst, VisitsAll, WalksNodes, content_of}
use Rattle.jsonptr_text_paths.specs.declared.listing.Listed.{Listed}
use Rattle.jsonptr_text_paths.proofs.WalkingLemmas.{adds_part, adds_none, adds_same, adds_root, in_none, in_more, in_cases, in_before, in_below, below_in, walk_whole}
use Rattle.jsonptr_text_paths.proofs.VisitingLemmas.{adds_later, visits_both, finds_child}
use Rattle.jsonptr_text_paths.proofs.ListingLemmas.{shows}

-- the elements of the array

one_more : (ds : List Data) (d : Data) (rest : Items) → with_items_before (ds ++ d ∷ []) rest ≡ with_items_before ds (item d rest)
one_more [] d rest = refl
one_more (e ∷ ds) d rest = ap (item e) (one_more ds d rest)

element_is : (ds : List Data) (d : Data) (rest : Items) → get_item (length ds) (items (with_items_before ds (item d rest))) ≡ Some (content d)
element_is [] d rest = refl
element_is (e ∷ ds) d rest = element_is ds d rest

len_is : (ds : List Data) → items_len (items (with_items_before ds no_items)) ≡ length ds
len_is [] = refl
len_is (d ∷ ds) = ap suc (len_is ds)

inside_all : (ds : List Data) (d : Data) (rest : Items) → length ds < items_len (items (with_items_before ds (item d rest)))
inside_all [] d rest = omega arith
inside_all (e ∷ ds) d rest = omega (arith, inside_all ds d rest)

-- nothing yet
pub elements_none : {S : Type 0} (visits : S → List Text → Value → S → Type 0) (s : S) → VisitsElements visits [] s s
elements_none visits s = record {
  lists = [];
  adds = λ rest. adds_none (nodes (array rest)) (InFirst 0) [] [] (λ w p some. in_none w p);
  visited = λ rest. refl;
}

-- one more element
pub elements_more : {S : Type 0} (visits : S → List Text → Value → S → Type 0) (ds : List Data) (e : Value) (at : List Text) (s m t : S)
    → at ≡ dec (length ds) ∷ []
    → VisitsElements visits ds s m
    → WalksNodes content_of visits e AnyPath at m t
    → VisitsElements visits (ds ++ view e ∷ []) s t
elements_more {S} visits ds e at s m t leads a b = record {
  lists = a.lists ++ b.lists;
  adds = λ rest. subst (λ (i : ℕ). AddsPointers (nodes (array (with_items_before (ds ++ view e ∷ []) rest))) (InFirst i) [] [] (a.lists ++ b.lists)) (sym (length-append ds (view e ∷ [])))
      (subst (λ (es : Items). AddsPointers (nodes (array es)) (InFirst (length ds + 1)) [] [] (a.lists ++ b.lists)) (sym (one_more ds (view e) rest)) (adds rest));
  visited = λ rest. subst (λ (es : Items). VisitsAll visits (λ ts u. FindsContent (content (array es)) ts (content_of u)) (a.lists ++ b.lists) s t) (sym (one_more ds (view e) rest)) (visited rest);
}
  where
    all : Items → Items
    all rest = with_items_before ds (item (view e) rest)

    there : (rest : Items) → content_at (place (length ds) ∷ []) (content (array (all rest))) ≡ Some (content_of e)
    there rest = rw (element_is ds (view e) rest)

    adds : (rest : Items) → AddsPointers (nodes (array (all rest))) (InFirst (length ds + 1)) [] [] (a.lists ++ b.lists)
    adds rest = adds_part (nodes (array (all rest))) (map_of (content_of e)) (InFirst (length ds)) (InFirst (length ds + 1)) [] (place (length ds)) [] a.lists (a.lists ++ b.lists)
        (a.adds (item (view e) rest))
        (adds_later (map_of (content_of e)) AnyPath (dec (length ds) ∷ []) a.lists b.lists (subst (λ (ts : List Text). AddsPointers (map_of (content_of e)) AnyPath ts [] b.lists) leads b.adds))
        (map_of-sub (place (length ds) ∷ []) (content (array (all rest))) (content_of e) (there rest))
        (in_more (length ds))
        (λ w. omega arith)
        (in_cases (length ds))
        (in_before (length ds))

    found : (rest : Items) → FindsContent (content (array (all rest))) at (content_of e)
    found rest = subst (λ (ts : List Text). FindsContent (content (array (all rest))) ts (content_of e)) (sym leads)
        (finds_child (content (array (all rest))) (content (array (all rest))) (content_of e) [] (dec (length ds)) (place (length ds))
        (record { path = []; named = refl; there = refl })
        (inside_all ds (view e) rest, refl)
        (there rest))

    visited : (rest : Items) → VisitsAll visits (λ ts u. FindsContent (content (array (all rest))) ts (content_of u)) (a.lists ++ b.lists) s t
    visited rest = visits_both visits (λ ts u. FindsContent (content (array (all rest))) ts (content_of u)) a.lists b.lists s m t (a.visited (item (view e) rest)) (b.visited (content (array (all rest))) (found rest))

-- the lines of the array: what is shown for itself, and then for its elements
pub elements_listed : {S : Type 0} (which : S → Listed) (out : S → Text) (ds : List Data) (s t : S)
    → IsShown (which s) [] (array (with_items_before ds no_items)) (out s)
    → VisitsElements (λ a ts v b. (which b ≡ which a) × ((one : Text) × IsShown (which a) (text ts) (view v) one × (out b ≡ out a ++ one))) ds s t
    → Lists (which s) (array (with_items_before ds no_items)) (out t)
elements_listed which out ds s t root a =
    let d : Data = array (with_items_before ds no_items) in
    let r = shows which out d a.lists s t (a.visited no_items) in
    let tree = map_of-IsTree (content d) in
    let below : AddsPointers (nodes d) NotRoot [] [] a.lists = adds_same (nodes d) (InFirst (length ds)) NotRoot [] [] a.lists (a.adds no_items) (in_below (length ds)) (below_in (nodes d) (length ds) (length ds) tree (ap (λ (n : ℕ). Some (an_array n)) (len_is ds)) (omega arith)) in
    let whole : AddsPointers (nodes d) AnyPath [] [] ([] ∷ a.lists) = adds_root (nodes d) [] [] ([] ∷ []) ([] ∷ a.lists) refl tree.root (adds_later (nodes d) NotRoot [] ([] ∷ []) a.lists below) in
    ([] ∷ a.lists, walk_whole (nodes d) ([] ∷ a.lists) [] [] refl refl tree whole, (d, out s, r.0, record { path = []; named = refl; there = refl }, root, r.1, r.2))

-- the array without elements

pub empty_listed : (ds : List Data) (n : ℕ) (v : Vec Value Global) (which : Listed) (out : Text) → n ≡ length ds → n ≡ 0 → v.items ≡ [] → Lists which (view (Array v)) out → Lists which (array (with_items_before ds no_items)) out
empty_listed [] n v which out len zero none h = subst (λ (d : Data). Lists which d out) (view-Array v ∙ ap (λ (vs : List Value). array (items_view vs)) none) h
empty_listed (d ∷ ds) n v which out len zero none h = absurd (omega (arith, len, zero))

-- the array with elements
pub full_shown : (ds : List Data) (n : ℕ) (which : Listed) (out : Text) → n ≡ length ds → (n ≡ 0 → ⊥) → ((d : Data) (es : Items) → IsShown which [] (array (item d es)) out) → IsShown which [] (array (with_items_before ds no_items)) out
full_shown [] n which out len some h = absurd (some len)
full_shown (d ∷ ds) n which out len some h = h d (with_items_before ds no_items)

pub array_line : (v : Vec Value Global) (d : Data) (es : Items) (p line : Text) → IsLineOf p (view (Array v)) line → IsLineOf p (array (item d es)) line
array_line v d es p line h = (h.0, h.1, h.2, subst (λ (e : Data). IsCompact (emptied e) h.1) (view-Array v) h.3, h.4)

pub no_leaf : (d : Data) (es : Items) → IsLeaf (array (item d es)) → ⊥
no_leaf d es h = cc
