-- Objects and their members, entry by entry.
use Rattle.std.proofs.Common.{◌≡◌, ◌⊎◌, inl, inr, ℕ, Bool, true, false, cond, is_eq, bytes_eq, List, [], ◌∷◌, ◌++◌, Option, Some, None, option_map, option_and_then, string_bytes, nat_cmp, refl, sym, ap, ◌∙◌, subst, true≢false, Ordering, Less, string_cmp, IsSome, is_some}
use mathlib.Core.Path.{fun_ext}
use Rattle.std.proofs.lemmas.Cmp.{nat_list_cmp_total, tied_itself}
use Rattle.std.proofs.lemmas.Map.Text.{is_eq-slice_cmp}
use Rattle.std.proofs.lemmas.Slice.Eq.{bytes_eq-Decides}
use Rattle.std.specs.BTreeMap.{get_by_text, insert_entry}
use Rattle.std.specs.Cmp.Lexicographic.{slice_cmp}
use Rattle.std.specs.List.{AllByRecursion}
use Rattle.std.specs.List.Sorted.{IsStrictlySortedBy}
use Rattle.std.specs.Map.{keys_of, update}
use Rattle.std.specs.Prelude.{String}
use Rattle.std.specs.declared.alloc.Global.{Global}
use Rattle.serde_json.specs.View.{view}
use Rattle.serde_json.specs.declared.value.Value.{Value, Object as an_object_of}
use Rattle.serde_json.proofs.Views.{Entry}
use Rattle.jsonptr.specs.Text.{Text}
use Rattle.jsonptr.specs.Node.{key, place, Path, an_object, sub}
use Rattle.jsonptr.specs.Content.{Content, label_of, content_at, map_of, SortedContent, SortedMembers}
use Rattle.jsonptr_tree.proofs.ContentOrderLemmas.{ascends_insert}
use Rattle.jsonptr_tree.proofs.JsonLemmas.{content_of, object_is, ascends_part}
use Rattle.jsonptr_tree.proofs.LevelLemmas.{get_member-by, members_by}
use Rattle.jsonptr_patch.proofs.TestingLemmas.{below_middle}
pub use Rattle.jsonptr_patch.proofs.TestingLemmas.{found_under}
pub use Rattle.jsonptr_patch_diff.proofs.MixedLemmas.{entry_found, entry_before}
use Rattle.jsonptr.specs.Json.{HasSortedKeys}
use Rattle.jsonptr_merge.specs.Values.{map_in}
use Rattle.jsonptr_merge.specs.PrivateObjects.{Object, object_map, member_in, SortedObject, HasKeysOf, HasKeysOfAll}

-- ---- the map of an object

map_in_is : (p : Path) (o : Option Value) → option_map label_of (option_and_then (content_at p) (option_map content_of o)) ≡ map_in o p
map_in_is p None = refl
map_in_is p (Some v) = refl

pub member_label : (m : Object) (k : Text) (p : Path) → object_map m (key k ∷ p) ≡ member_in m k p
member_label m k p =
    ap (λ (d : Content). map_of d (key k ∷ p)) (object_is m)
    ∙ ap (λ (o : Option Content). option_map label_of (option_and_then (content_at p) o)) (get_member-by content_of m k)
    ∙ map_in_is p (get_by_text m k)

pub member_map : (m : Object) (k : Text) → sub (object_map m) (key k ∷ []) ≡ member_in m k
member_map m k = fun_ext (λ (p : Path). member_label m k p)

pub object_label : (m : Object) → object_map m [] ≡ Some an_object
object_label m = ap (λ (d : Content). map_of d []) (object_is m)

pub no_place_label : (m : Object) (i : ℕ) (p : Path) → object_map m (place i ∷ p) ≡ None
no_place_label m i p = ap (λ (d : Content). map_of d (place i ∷ p)) (object_is m)

-- ---- entries

-- one entry more, under its key and under another one
pub found_push : (done : List Entry) (e : Entry) → found_under (string_bytes e.0) done ≡ None → found_under (string_bytes e.0) (done ++ e ∷ []) ≡ Some e.1
found_push [] e none = ap (λ (o : Ordering). cond (is_eq o) (Some e.1) None) (tied_itself nat_list_cmp_total (string_bytes e.0))
found_push (x ∷ done) e none = by_test (found_push done e) (is_eq (slice_cmp nat_cmp (string_bytes e.0) (string_bytes x.0))) none
  where
    by_test : (found_under (string_bytes e.0) done ≡ None → found_under (string_bytes e.0) (done ++ e ∷ []) ≡ Some e.1) → (b : Bool) → cond b (Some x.1) (found_under (string_bytes e.0) done) ≡ None → cond b (Some x.1) (found_under (string_bytes e.0) (done ++ e ∷ [])) ≡ Some e.1
    by_test later true h = let none : ⊥ = cc in absurd none
    by_test later false h = later h

pub found_others : (done : List Entry) (e : Entry) (k : Text) → bytes_eq k (string_bytes e.0) ≡ false → found_under k (done ++ e ∷ []) ≡ found_under k done
found_others [] e k other = ap (λ (b : Bool). cond b (Some e.1) None) (is_eq-slice_cmp k (string_bytes e.0) ∙ other)
found_others (x ∷ done) e k other = ap (λ (o : Option Value). cond (is_eq (slice_cmp nat_cmp k (string_bytes x.0))) (Some x.1) o) (found_others done e k other)

-- ---- entries before and after one

less_head : (done : List Entry) (first e : Entry) (more : List Entry) → AllByRecursion (λ y. string_cmp first.0 y ≡ Less) (keys_of (done ++ e ∷ more)) → (k : Text) → bytes_eq k (string_bytes first.0) ≡ true → slice_cmp nat_cmp k (string_bytes e.0) ≡ Less
less_head done first e more above k is = subst (λ (t : Text). slice_cmp nat_cmp t (string_bytes e.0) ≡ Less) (sym ((bytes_eq-Decides k (string_bytes first.0)).0 is)) (below_middle first done e more above)

-- a key that is found before an entry is less than its key
found_less : (done : List Entry) (e : Entry) (more : List Entry) → IsStrictlySortedBy string_cmp (keys_of (done ++ e ∷ more)) → (k : Text) → IsSome (found_under k done) → slice_cmp nat_cmp k (string_bytes e.0) ≡ Less
unfolding IsStrictlySortedBy
found_less [] e more h k some = absurd (true≢false (sym some))
found_less (first ∷ done) e more h k some = by_test (found_less done e more h.1 k) (bytes_eq k (string_bytes first.0)) refl
  where
    by_test : (IsSome (found_under k done) → slice_cmp nat_cmp k (string_bytes e.0) ≡ Less) → (b : Bool) → bytes_eq k (string_bytes first.0) ≡ b → slice_cmp nat_cmp k (string_bytes e.0) ≡ Less
    by_test later true is = less_head done first e more h.0 k is
    by_test later false is = later (subst (λ (b : Bool). IsSome (cond b (Some first.1) (found_under k done))) (is_eq-slice_cmp k (string_bytes first.0) ∙ is) some)

none_above : (k : Text) (es : List Entry) → AllByRecursion (λ y. slice_cmp nat_cmp k (string_bytes y) ≡ Less) (keys_of es) → found_under k es ≡ None
none_above k [] h = refl
none_above k (e ∷ es) h = ap (λ (o : Ordering). cond (is_eq o) (Some e.1) (found_under k es)) h.0 ∙ none_above k es h.1

all_above : (k l : Text) (ks : List (String Global)) → slice_cmp nat_cmp k l ≡ Less → AllByRecursion (λ y. slice_cmp nat_cmp l (string_bytes y) ≡ Less) ks → AllByRecursion (λ y. slice_cmp nat_cmp k (string_bytes y) ≡ Less) ks
all_above k l [] less h = tt
all_above k l (y ∷ ys) less h = (nat_list_cmp_total.trans k l (string_bytes y) less h.0, all_above k l ys less h.1)

-- a lesser key is found before the entry, if at all
found_earlier : (done : List Entry) (e : Entry) (more : List Entry) → IsStrictlySortedBy string_cmp (keys_of (done ++ e ∷ more)) → (k : Text) → slice_cmp nat_cmp k (string_bytes e.0) ≡ Less → IsSome (found_under k (done ++ e ∷ more)) → IsSome (found_under k done)
unfolding IsStrictlySortedBy
found_earlier [] e more h k less some =
    let none : found_under k (e ∷ more) ≡ None = none_above k (e ∷ more) (less, all_above k (string_bytes e.0) (keys_of more) less h.0) in
    absurd (true≢false (sym some ∙ ap is_some none))
found_earlier (first ∷ done) e more h k less some = by_test (found_earlier done e more h.1 k less) (is_eq (slice_cmp nat_cmp k (string_bytes first.0))) some
  where
    by_test : (IsSome (found_under k (done ++ e ∷ more)) → IsSome (found_under k done)) → (b : Bool) → IsSome (cond b (Some first.1) (found_under k (done ++ e ∷ more))) → IsSome (cond b (Some first.1) (found_under k done))
    by_test later true there = refl
    by_test later false there = later there

pub entry_less : (m : Object) (done : List Entry) (e : Entry) (more : List Entry) → m.entries ≡ done ++ e ∷ more → IsStrictlySortedBy string_cmp (keys_of m.entries) → (k : Text) → IsSome (found_under k done) → slice_cmp nat_cmp k (string_bytes e.0) ≡ Less
entry_less m done e more is ordered = found_less done e more (subst (λ (es : List Entry). IsStrictlySortedBy string_cmp (keys_of es)) is ordered)

pub entry_earlier : (m : Object) (done : List Entry) (e : Entry) (more : List Entry) → m.entries ≡ done ++ e ∷ more → IsStrictlySortedBy string_cmp (keys_of m.entries) → (k : Text) → slice_cmp nat_cmp k (string_bytes e.0) ≡ Less → IsSome (get_by_text m k) → IsSome (found_under k done)
entry_earlier m done e more is ordered k less some = found_earlier done e more (subst (λ (es : List Entry). IsStrictlySortedBy string_cmp (keys_of es)) is ordered) k less (subst (λ (es : List Entry). IsSome (found_under k es)) is some)

-- ---- the order of keys in values

pub found_sorted : (m : Object) (k : Text) (v : Value) → SortedObject m → get_by_text m k ≡ Some v → HasSortedKeys (view v)
found_sorted m k v sorted is =
    ascends_part (key k ∷ []) (view (an_object_of m)) (view v) sorted
    (ap (λ (d : Content). content_at (key k ∷ []) d) (object_is m) ∙ ap (option_and_then (content_at [])) (get_member-by content_of m k ∙ ap (option_map content_of) is))

pub entry_sorted : (m : Object) (done : List Entry) (e : Entry) (more : List Entry) → m.entries ≡ done ++ e ∷ more → IsStrictlySortedBy string_cmp (keys_of m.entries) → SortedObject m → HasSortedKeys (view e.1)
entry_sorted m done e more is ordered sorted = found_sorted m (string_bytes e.0) e.1 sorted (entry_found m done e more is ordered)

pub insert_sorted : (m n : Object) (k : String Global) (v : Value) → n.entries ≡ insert_entry string_cmp m.entries k v → HasSortedKeys (view v) → SortedObject m → SortedObject n
insert_sorted m n k v is sorted h = ascends_insert content_of an_object_of object_is m n h k v sorted is

pub empty_sorted : (m : Object) → m.entries ≡ [] → SortedObject m
empty_sorted m is = subst SortedContent (sym (object_is m)) (subst (λ (es : List Entry). SortedMembers (members_by content_of es)) (sym is) tt)

-- all entries
pub all_found : (m : Object) (done : List Entry) (k : Text) → m.entries ≡ done → found_under k done ≡ get_by_text m k
all_found m done k is = sym (ap (found_under k) is)

-- ---- texts

pub flipped : (k l : Text) (b : Bool) → bytes_eq k l ≡ b → bytes_eq l k ≡ b
flipped k l true h =
    let same : k ≡ l = (bytes_eq-Decides k l).0 h in
    (bytes_eq-Decides l k).1 (sym same)
flipped k l false h = by_test (bytes_eq l k) refl
  where
    by_test : (b : Bool) → bytes_eq l k ≡ b → bytes_eq l k ≡ false
    by_test false is = is
    by_test true is =
        let same : l ≡ k = (bytes_eq-Decides l k).0 is in
        absurd (true≢false (sym ((bytes_eq-Decides k l).1 (sym same)) ∙ h))

pub found_cases : (done : List Entry) (e : Entry) (k : Text) → IsSome (found_under k (done ++ e ∷ [])) → IsSome (found_under k done) ⊎ (string_bytes e.0 ≡ k)
found_cases done e k some = by_test (bytes_eq (string_bytes e.0) k) refl
  where
    by_test : (b : Bool) → bytes_eq (string_bytes e.0) k ≡ b → IsSome (found_under k done) ⊎ (string_bytes e.0 ≡ k)
    by_test true is = inr ((bytes_eq-Decides (string_bytes e.0) k).0 is)
    by_test false is = inl (subst (λ (o : Option Value). IsSome o) (found_others done e k (flipped (string_bytes e.0) k false is)) some)

pub found_last : (done : List Entry) (e : Entry) → IsSome (found_under (string_bytes e.0) (done ++ e ∷ []))
found_last [] e = ap (λ (o : Ordering). is_some (cond (is_eq o) (Some e.1) None)) (tied_itself nat_list_cmp_total (string_bytes e.0))
found_last (x ∷ done) e = by_test (is_eq (slice_cmp nat_cmp (string_bytes e.0) (string_bytes x.0))) (found_last done e)
  where
    by_test : (b : Bool) → IsSome (found_under (string_bytes e.0) (done ++ e ∷ [])) → IsSome (cond b (Some x.1) (found_under (string_bytes e.0) (done ++ e ∷ [])))
    by_test true h = refl
    by_test false h = h

pub found_still : (done : List Entry) (e : Entry) (k : Text) → IsSome (found_under k done) → IsSome (found_under k (done ++ e ∷ []))
found_still [] e k some = absurd (true≢false (sym some))
found_still (x ∷ done) e k some = by_test (found_still done e k) (is_eq (slice_cmp nat_cmp k (string_bytes x.0))) some
  where
    by_test : (IsSome (found_under k done) → IsSome (found_under k (done ++ e ∷ []))) → (b : Bool) → IsSome (cond b (Some x.1) (found_under k done)) → IsSome (cond b (Some x.1) (found_under k (done ++ e ∷ [])))
    by_test later true there = refl
    by_test later false there = later there

-- ---- one insert

module _ (old new : Object) (k : Text) (v : Value) (h : (q : Text) → get_by_text new q ≡ update bytes_eq (get_by_text old) k (Some v) q) where
  pub inserted : get_by_text new k ≡ Some v
  inserted = h k ∙ ap (λ (b : Bool). cond b (Some v) (get_by_text old k)) ((bytes_eq-Decides k k).1 refl)

  pub not_inserted : (q : Text) → bytes_eq k q ≡ false → get_by_text new q ≡ get_by_text old q
  not_inserted q other = h q ∙ ap (λ (b : Bool). cond b (Some v) (get_by_text old q)) other

-- ---- keys that are collected

pub keys_more : (first old new : Object) (done : List Entry) (e : Entry) (v : Value) → ((q : Text) → get_by_text new q ≡ update bytes_eq (get_by_text old) (string_bytes e.0) (Some v) q) → ((k : Text) → IsSome (found_under k done) ⊎ IsSome (get_by_text first k) → IsSome (get_by_text old k)) → (k : Text) → IsSome (found_under k (done ++ e ∷ [])) ⊎ IsSome (get_by_text first k) → IsSome (get_by_text new k)
keys_more first old new done e v h each k some = by_test (bytes_eq (string_bytes e.0) k) refl
  where
    earlier : bytes_eq (string_bytes e.0) k ≡ false → IsSome (found_under k (done ++ e ∷ [])) ⊎ IsSome (get_by_text first k) → IsSome (found_under k done) ⊎ IsSome (get_by_text first k)
    earlier is (inl there) = inl (subst (λ (o : Option Value). IsSome o) (found_others done e k (flipped (string_bytes e.0) k false is)) there)
    earlier is (inr there) = inr there

    by_test : (b : Bool) → bytes_eq (string_bytes e.0) k ≡ b → IsSome (get_by_text new k)
    by_test true is = subst (λ (l : Text). IsSome (get_by_text new l)) ((bytes_eq-Decides (string_bytes e.0) k).0 is) (ap is_some (inserted old new (string_bytes e.0) v h))
    by_test false is = subst (λ (o : Option Value). IsSome o) (sym (not_inserted old new (string_bytes e.0) v h k is)) (each k (earlier is some))

pub keys_all : (members first made : Object) (done : List Entry) → members.entries ≡ done → ((k : Text) → IsSome (found_under k done) ⊎ IsSome (get_by_text first k) → IsSome (get_by_text made k)) → HasKeysOf members first made
keys_all members first made done is each k (inl some) = each k (inl (subst (λ (o : Option Value). IsSome o) (sym (all_found members done k is)) some))
keys_all members first made done is each k (inr some) = each k (inr some)

pub three_keys : (b o t first second third last : Object) → HasKeysOf b first second → HasKeysOf o second third → HasKeysOf t third last → HasKeysOfAll b o t last
three_keys b o t first second third last f g h k (inl x) = h k (inr (g k (inr (f k (inl x)))))
three_keys b o t first second third last f g h k (inr (inl y)) = h k (inr (g k (inl y)))
three_keys b o t first second third last f g h k (inr (inr z)) = h k (inl z)

-- a loop over entries: what holds under each key, of what was found there so far
module _ (P : Text → Option Value → Object → Type 0) (old new : Object) (done : List Entry) (e : Entry) (fresh : found_under (string_bytes e.0) done ≡ None)
    (before : (k : Text) → P k (found_under k done) old)
    (others : (k : Text) → bytes_eq (string_bytes e.0) k ≡ false → (o : Option Value) → P k o old → P k o new)
    (here : P (string_bytes e.0) None old → P (string_bytes e.0) (Some e.1) new) where
  pub each_more : (k : Text) → P k (found_under k (done ++ e ∷ [])) new
  each_more k = by_test (bytes_eq (string_bytes e.0) k) refl
    where
      by_test : (b : Bool) → bytes_eq (string_bytes e.0) k ≡ b → P k (found_under k (done ++ e ∷ [])) new
      by_test true is =
          let same : string_bytes e.0 ≡ k = (bytes_eq-Decides (string_bytes e.0) k).0 is in
          let now : P (string_bytes e.0) (Some e.1) new = here (subst (λ (o : Option Value). P (string_bytes e.0) o old) fresh (before (string_bytes e.0))) in
          subst (λ (l : Text). P l (found_under l (done ++ e ∷ [])) new) same (subst (λ (o : Option Value). P (string_bytes e.0) o new) (sym (found_push done e fresh)) now)
      by_test false is = subst (λ (o : Option Value). P k o new) (sym (found_others done e k (flipped (string_bytes e.0) k false is))) (others k is (found_under k done) (before k))
