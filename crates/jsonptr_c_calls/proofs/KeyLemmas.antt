-- The keys of an object, from those of the map in which it has them.
use Rattle.std.proofs.Common.{◌≡◌, ℕ, List, [], ◌∷◌, All, IsSome, ◌↔◌, Option, Some, None, option_map, String, BTreeMap, Global, Ordering, Less, Equal, Greater, string_bytes, string_cmp, nat_cmp, is_eq, is_gt, false, true≢false, refl, sym, ap, ◌∙◌, subst, arith}
use Rattle.std.proofs.lemmas.Bool.{false≢true}
use Rattle.std.proofs.lemmas.Cmp.{nat_list_cmp_total}
use Rattle.std.proofs.lemmas.Map.Text.{is_eq-slice_cmp}
use Rattle.std.proofs.lemmas.List.Elements.{All-nil, All-cons, All-head, All-tail, All-contains, Contains-append_right}
use Rattle.std.proofs.lemmas.Slice.Eq.{bytes_eq-Decides}
use Rattle.std.specs.Cmp.Lexicographic.{slice_cmp}
use Rattle.std.specs.List.{AllByRecursion, Contains}
use Rattle.std.specs.List.Sorted.{IsStrictlySortedBy}
use Rattle.std.specs.Map.{keys_of}
use Rattle.std.specs.Ordering.{match_ordering, ordering_reverse}
use Rattle.std.specs.BTreeMap.{get as map_get, keys}
use Rattle.std.specs.BTreeMap.Range.{IsLeBy, IsRangeOf}
use Rattle.core.specs.declared.ops.bounds.Bound.TheVariants.{Excluded, Unbounded}
use Rattle.serde_json.specs.Data.{Data, object}
use Rattle.serde_json.specs.Find.{get_member}
use Rattle.serde_json.specs.View.{view, members_view}
use Rattle.serde_json.specs.declared.value.Value.{Value}
use Rattle.serde_json.proofs.Views.{Entry, view-lookup}
use Rattle.jsonptr_c_calls.specs.Keys.{HasKey, HasNoNextKey, IsFirstKey, IsLess, IsNextKey, Visits, VisitsAfter}

abbrev pub ObjectMap : Type 0
ObjectMap = BTreeMap (String Global) Value

same_bytes : (k l : List ℕ) → slice_cmp nat_cmp k l ≡ Equal → k ≡ l
same_bytes k l is = (bytes_eq-Decides k l).0 (sym (is_eq-slice_cmp k l) ∙ ap is_eq is)

-- a key that is at most another one, which is less
not_both : (k l : List ℕ) → is_gt (slice_cmp nat_cmp k l) ≡ false → IsLess l k → ⊥
not_both k l most less =
    let above : slice_cmp nat_cmp k l ≡ Greater = nat_list_cmp_total.antisymm k l ∙ ap ordering_reverse less in
    true≢false (sym (ap is_gt above) ∙ most)

-- a key of the object is one of the map
key_with : (P : String Global → Type 0) (es : List Entry) (l : List ℕ) → All P (keys_of es) → IsSome (get_member l (members_view es)) → (k : String Global) × (string_bytes k ≡ l) × P k
key_with P [] l all has = absurd (false≢true has)
key_with P (e ∷ es) l all has = go (slice_cmp nat_cmp l (string_bytes e.0)) refl has (key_with P es l (All-tail P e.0 (keys_of es) all))
  where
    go : (o : Ordering) → slice_cmp nat_cmp l (string_bytes e.0) ≡ o → IsSome (match_ordering o (get_member l (members_view es)) (Some (view e.1)) (get_member l (members_view es))) → (IsSome (get_member l (members_view es)) → (k : String Global) × (string_bytes k ≡ l) × P k) → (k : String Global) × (string_bytes k ≡ l) × P k
    go Less is here later = later here
    go Equal is here later = (e.0, sym (same_bytes l (string_bytes e.0) is), All-head P e.0 (keys_of es) all)
    go Greater is here later = later here

seen : (o : Option Value) → IsSome (option_map view o) → IsSome o
seen None has = has
seen (Some v) has = refl

-- the same, and the map has a value at it
key_at : (m : ObjectMap) (l : List ℕ) → HasKey (object (members_view m.entries)) l → (k : String Global) × (string_bytes k ≡ l) × IsSome (map_get string_cmp m k)
key_at m l has =
    let (k, is, tt) = key_with (λ _. Unit {0}) m.entries l (λ i o low. tt) has in
    (k, is, seen _ (subst IsSome (sym (view-lookup (string_bytes k) m.entries)) (subst (λ (b : List ℕ). IsSome (get_member b (members_view m.entries))) (sym is) has)))

-- a key of the map is one of the object
has_key : (m : ObjectMap) (k : String Global) (v : Value) → map_get string_cmp m k ≡ Some v → HasKey (object (members_view m.entries)) (string_bytes k)
has_key m k v is = subst IsSome (sym (ap (option_map view) is) ∙ view-lookup (string_bytes k) m.entries) refl

pub first_key : (m : ObjectMap) (k : String Global) (v : Value) → map_get string_cmp m k ≡ Some v → All (IsLeBy string_cmp k) (keys m) → IsFirstKey (object (members_view m.entries)) (string_bytes k)
first_key m k v is least = record {
  key = has_key m k v is;
  least = λ l has less.
      let (q, at, most) = key_with (IsLeBy string_cmp k) m.entries l least has in
      not_both (string_bytes k) l (subst (λ (b : List ℕ). is_gt (slice_cmp nat_cmp (string_bytes k) b) ≡ false) at most) less;
}

pub next_key : (m : ObjectMap) (k n : String Global) (v : Value) (r t : List Entry) → IsRangeOf string_cmp (Excluded k) Unbounded m r → r ≡ (n, v) ∷ t → IsNextKey (object (members_view m.entries)) (string_bytes k) (string_bytes n)
next_key m k n v r t range is =
    let all = subst (IsRangeOf string_cmp (Excluded k) Unbounded m) is range in
    record {
      key = has_key m n v all.1.1;
      greater = all.1.0.0;
      least = λ l has above less.
          let (q, at, some) = key_at m l has in
          let most : is_gt (slice_cmp nat_cmp (string_bytes n) (string_bytes q)) ≡ false = all.2 q (subst (IsLess (string_bytes k)) (sym at) above, tt) some in
          not_both (string_bytes n) l (subst (λ (b : List ℕ). is_gt (slice_cmp nat_cmp (string_bytes n) b) ≡ false) at most) less;
    }

pub no_next_key : (m : ObjectMap) (k : String Global) (r : List Entry) → IsRangeOf string_cmp (Excluded k) Unbounded m r → r ≡ [] → HasNoNextKey (object (members_view m.entries)) (string_bytes k)
no_next_key m k r range is = record {
  object = refl;
  none = λ l has above.
      let (q, at, some) = key_at m l has in
      false≢true (subst IsSome (range.5 is q (subst (IsLess (string_bytes k)) (sym at) above, tt)) some);
}

-- ---- visiting the keys

above : (k l : List ℕ) → slice_cmp nat_cmp k l ≡ Greater → IsLess l k
above k l is = nat_list_cmp_total.antisymm l k ∙ ap ordering_reverse is

one_of_two : (k l : List ℕ) → (IsLess k l → ⊥) → (IsLess l k → ⊥) → k ≡ l
one_of_two k l not_less not_above = go (slice_cmp nat_cmp k l) refl
  where
    go : (o : Ordering) → slice_cmp nat_cmp k l ≡ o → k ≡ l
    go Less is = absurd (not_less is)
    go Equal is = same_bytes k l is
    go Greater is = absurd (not_above (above k l is))

pub first_one : (d : Data) (k l : List ℕ) → IsFirstKey d k → IsFirstKey d l → k ≡ l
first_one d k l h j = one_of_two k l (j.least k h.key) (h.least l j.key)

pub next_one : (d : Data) (k m n : List ℕ) → IsNextKey d k m → IsNextKey d k n → m ≡ n
next_one d k m n h j = one_of_two m n (j.least m h.key h.greater) (h.least n j.key j.greater)

further : (k n : List ℕ) (ks : List (List ℕ)) → IsLess k n → AllByRecursion (IsLess n) ks → AllByRecursion (IsLess k) ks
further k n [] less all = tt
further k n (l ∷ ls) less all = (nat_list_cmp_total.trans k n l less all.0, further k n ls less all.1)

after_above : (d : Data) (k : List ℕ) (ks : List (List ℕ)) → VisitsAfter d k ks → AllByRecursion (IsLess k) ks
after_above d k [] visits = tt
after_above d k (n ∷ ns) visits = (visits.0.greater, further k n ns visits.0.greater (after_above d n ns visits.1))

after_sorted : (d : Data) (k : List ℕ) (ks : List (List ℕ)) → VisitsAfter d k ks → IsStrictlySortedBy (slice_cmp nat_cmp) (k ∷ ks)
unfolding IsStrictlySortedBy
after_sorted d k [] visits = (tt, tt)
after_sorted d k (n ∷ ns) visits = (after_above d k (n ∷ ns) visits, after_sorted d n ns visits.1)

pub visits_sorted : (d : Data) (ks : List (List ℕ)) → Visits d ks → IsStrictlySortedBy (slice_cmp nat_cmp) ks
unfolding IsStrictlySortedBy
visits_sorted d [] visits = tt
visits_sorted d (k ∷ ks) visits = after_sorted d k ks visits.1

after_keys : (d : Data) (k : List ℕ) (ks : List (List ℕ)) → VisitsAfter d k ks → All (HasKey d) ks
after_keys d k [] visits = All-nil (HasKey d)
after_keys d k (n ∷ ns) visits = All-cons (HasKey d) n ns visits.0.key (after_keys d n ns visits.1)

visits_keys : (d : Data) (ks : List (List ℕ)) → Visits d ks → All (HasKey d) ks
visits_keys d [] visits = All-nil (HasKey d)
visits_keys d (k ∷ ks) visits = All-cons (HasKey d) k ks visits.0.key (after_keys d k ks visits.1)

here : (k q : List ℕ) (ks : List (List ℕ)) → q ≡ k → Contains (k ∷ ks) q
here k q ks is = (0, omega arith, sym is)

-- a key is left out by no step
from_key : (k q : List ℕ) (ks : List (List ℕ)) → (IsLess q k → ⊥) → (IsLess k q → Contains ks q) → Contains (k ∷ ks) q
from_key k q ks least later = go (slice_cmp nat_cmp q k) refl
  where
    go : (o : Ordering) → slice_cmp nat_cmp q k ≡ o → Contains (k ∷ ks) q
    go Less is = absurd (least is)
    go Equal is = here k q ks (same_bytes q k is)
    go Greater is = Contains-append_right (k ∷ []) ks q (later (above q k is))

after_all : (d : Data) (k q : List ℕ) (ks : List (List ℕ)) → VisitsAfter d k ks → HasKey d q → IsLess k q → Contains ks q
after_all d k q [] visits has less = absurd (visits.none q has less)
after_all d k q (n ∷ ns) visits has less = from_key n q ns (visits.0.least q has less) (after_all d n q ns visits.1 has)

visits_all : (d : Data) (q : List ℕ) (ks : List (List ℕ)) → Visits d ks → HasKey d q → Contains ks q
visits_all d q [] visits has = absurd (visits.none q has)
visits_all d q (k ∷ ks) visits has = from_key k q ks (visits.0.least q has) (after_all d k q ks visits.1 has)

pub visits_each : (d : Data) (ks : List (List ℕ)) (q : List ℕ) → Visits d ks → HasKey d q ↔ Contains ks q
visits_each d ks q visits = (visits_all d q ks visits, All-contains (HasKey d) ks q (visits_keys d ks visits))
