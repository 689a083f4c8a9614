-- The map of an object that has some members of another.
use Rattle.std.proofs.Common.{◌≡◌, Bool, true, false, is_some, cond, is_eq, bytes_eq, List, [], ◌∷◌, ◌++◌, Option, Some, None, IsSome, string_bytes, nat_cmp, refl, sym, ap, ◌∙◌, subst, true≢false, Ordering, Greater, string_cmp}
use mathlib.Core.Path.{fun_ext}
use Rattle.std.proofs.lemmas.Cmp.{nat_list_cmp_total, tied_itself}
use Rattle.std.proofs.lemmas.Map.Text.{is_eq-slice_cmp}
use Rattle.std.proofs.lemmas.Slice.Eq.{bytes_eq-Decides}
use Rattle.std.specs.BTreeMap.{get_by_text}
use Rattle.std.specs.Cmp.Lexicographic.{slice_cmp}
use Rattle.std.specs.List.Sorted.{IsStrictlySortedBy}
use Rattle.std.specs.Map.{keys_of}
use Rattle.std.specs.Ordering.{ordering_reverse}
use Rattle.serde_json.specs.View.{view}
use Rattle.serde_json.specs.declared.value.Value.{Value}
use Rattle.serde_json.proofs.Views.{Entry}
use Rattle.jsonptr.specs.Text.{Text}
use Rattle.jsonptr.specs.Node.{key, place, Path, Label, NodeMap, sub}
use Rattle.jsonptr.specs.Put.{same_step, label_or, put}
use Rattle.jsonptr.specs.Removing.{without_key}
use Rattle.jsonptr.specs.Json.{nodes}
use Rattle.jsonptr_patch.specs.PrivateTesting as tested
use Rattle.jsonptr_patch.proofs.TestingLemmas.{below_middle, found_middle, found_under, label_in, member_label, object_label, no_place_label}
use Rattle.jsonptr_patch_diff.specs.PrivateDiff.{object_map, pick, mixed}

-- removing a member is putting nothing there
pub without-put : (k : Text) (n : NodeMap) → without_key k n ≡ put n (key k ∷ []) (λ p. None)
without-put k n = fun_ext go
  where
    by_test : (b : Bool) (l : Option Label) (p : Path) → cond b None l ≡ label_or (cond b (Some p) None) (λ q. None) l
    by_test true l p = refl
    by_test false l p = refl

    go : (p : Path) → without_key k n p ≡ put n (key k ∷ []) (λ p. None) p
    go [] = refl
    go (s ∷ p) = by_test (same_step (key k) s) (n (s ∷ p)) p

-- ---- entries

-- the key of an entry is not among those before it
found_before : (done : List Entry) (e : Entry) (more : List Entry) → IsStrictlySortedBy string_cmp (keys_of (done ++ e ∷ more)) → found_under (string_bytes e.0) done ≡ None
unfolding IsStrictlySortedBy
found_before [] e more h = refl
found_before (first ∷ done) e more h =
    let above : slice_cmp nat_cmp (string_bytes e.0) (string_bytes first.0) ≡ Greater =
    nat_list_cmp_total.antisymm (string_bytes e.0) (string_bytes first.0) ∙ ap ordering_reverse (below_middle first done e more h.0) in
    ap (λ (o : Ordering). cond (is_eq o) (Some first.1) (found_under (string_bytes e.0) done)) above ∙ found_before done e more h.1

-- one entry more is found under its key
found_last : (done : List Entry) (e : Entry) → IsSome (found_under (string_bytes e.0) (done ++ e ∷ []))
found_last [] e = ap (λ (o : Ordering). is_some (cond (is_eq o) (Some e.1) None)) (tied_itself nat_list_cmp_total (string_bytes e.0))
found_last (x ∷ done) e = by_test (is_eq (slice_cmp nat_cmp (string_bytes e.0) (string_bytes x.0))) (found_last done e)
  where
    by_test : (b : Bool) → IsSome (found_under (string_bytes e.0) (done ++ e ∷ [])) → IsSome (cond b (Some x.1) (found_under (string_bytes e.0) (done ++ e ∷ [])))
    by_test true h = refl
    by_test false h = h

-- and under another key nothing changes
found_others : (done : List Entry) (e : Entry) (k : Text) → bytes_eq k (string_bytes e.0) ≡ false → found_under k (done ++ e ∷ []) ≡ found_under k done
found_others [] e k other = ap (λ (b : Bool). cond b (Some e.1) None) (is_eq-slice_cmp k (string_bytes e.0) ∙ other)
found_others (x ∷ done) e k other = ap (λ (o : Option Value). cond (is_eq (slice_cmp nat_cmp k (string_bytes x.0))) (Some x.1) o) (found_others done e k other)

-- each entry of an object is the one under its key
pub entry_found : (m : tested.Object) (done : List Entry) (e : Entry) (more : List Entry) → m.entries ≡ done ++ e ∷ more → IsStrictlySortedBy string_cmp (keys_of m.entries) → get_by_text m (string_bytes e.0) ≡ Some e.1
entry_found m done e more is ordered = ap (found_under (string_bytes e.0)) is ∙ found_middle done e more (subst (λ (es : List Entry). IsStrictlySortedBy string_cmp (keys_of es)) is ordered)

pub entry_before : (m : tested.Object) (done : List Entry) (e : Entry) (more : List Entry) → m.entries ≡ done ++ e ∷ more → IsStrictlySortedBy string_cmp (keys_of m.entries) → found_under (string_bytes e.0) done ≡ None
entry_before m done e more is ordered = found_before done e more (subst (λ (es : List Entry). IsStrictlySortedBy string_cmp (keys_of es)) is ordered)

-- ---- the maps of members

pub member_map : (m : tested.Object) (k : Text) (v : Value) → get_by_text m k ≡ Some v → sub (object_map m) (key k ∷ []) ≡ nodes (view v)
member_map m k v is = fun_ext (λ (p : Path). member_label m k p ∙ ap (label_in p) is)

pub no_member_map : (m : tested.Object) (k : Text) → get_by_text m k ≡ None → sub (object_map m) (key k ∷ []) ≡ (λ p. None)
no_member_map m k is = fun_ext (λ (p : Path). member_label m k p ∙ ap (label_in p) is)

-- ---- mixed maps

pick_first : (o : Option Value) (a b : Option Label) → IsSome o → pick o a b ≡ a
pick_first None a b h = absurd (true≢false (sym h))
pick_first (Some v) a b h = refl

flipped : (k l : Text) (b : Bool) → bytes_eq k l ≡ b → bytes_eq l k ≡ b
flipped k l true h =
    let same : k ≡ l = (bytes_eq-Decides k l).0 h in
    (bytes_eq-Decides l k).1 (sym same)
flipped k l false h = by_test (bytes_eq l k) refl
  where
    by_test : (b : Bool) → bytes_eq l k ≡ b → bytes_eq l k ≡ false
    by_test false is = is
    by_test true is =
        let same : l ≡ k = (bytes_eq-Decides l k).0 is in
        absurd (true≢false (sym ((bytes_eq-Decides k l).1 (sym same)) ∙ h))

-- no entry: the first map
pub mixed_none : (c d : NodeMap) → mixed [] c d ≡ c
mixed_none c d = fun_ext go
  where
    go : (p : Path) → mixed [] c d p ≡ c p
    go [] = refl
    go (key k ∷ p) = refl
    go (place i ∷ p) = refl

-- one entry more: what the second has there is put there
pub mixed_push : (done : List Entry) (e : Entry) (c d : NodeMap) → mixed (done ++ e ∷ []) c d ≡ put (mixed done c d) (key (string_bytes e.0) ∷ []) (sub d (key (string_bytes e.0) ∷ []))
mixed_push done e c d = fun_ext go
  where
    k0 : Text
    k0 = string_bytes e.0

    by_test : (k : Text) (p : Path) (b : Bool) → bytes_eq k0 k ≡ b → mixed (done ++ e ∷ []) c d (key k ∷ p) ≡ label_or (cond b (Some p) None) (sub d (key k0 ∷ [])) (mixed done c d (key k ∷ p))
    by_test k p true is =
        let same : k0 ≡ k = (bytes_eq-Decides k0 k).0 is in
        subst (λ (l : Text). mixed (done ++ e ∷ []) c d (key l ∷ p) ≡ d (key k0 ∷ p)) same (pick_first (found_under k0 (done ++ e ∷ [])) (d (key k0 ∷ p)) (c (key k0 ∷ p)) (found_last done e))
    by_test k p false is = ap (λ (o : Option Value). pick o (d (key k ∷ p)) (c (key k ∷ p))) (found_others done e k (flipped k0 k false is))

    go : (p : Path) → mixed (done ++ e ∷ []) c d p ≡ put (mixed done c d) (key k0 ∷ []) (sub d (key k0 ∷ [])) p
    go [] = refl
    go (key k ∷ p) = by_test k p (bytes_eq k0 k) refl
    go (place i ∷ p) = refl

-- under a key that no entry has, the first map has what it had
pub mixed_left : (done : List Entry) (k : Text) (c d : NodeMap) → found_under k done ≡ None → sub (mixed done c d) (key k ∷ []) ≡ sub c (key k ∷ [])
mixed_left done k c d none = fun_ext (λ (p : Path). ap (λ (o : Option Value). pick o (d (key k ∷ p)) (c (key k ∷ p))) none)

-- the entries of both: the second map
pub mixed_all : (m n : tested.Object) → mixed n.entries (mixed m.entries (object_map m) (object_map n)) (object_map n) ≡ object_map n
mixed_all m n = fun_ext go
  where
    by_value : (k : Text) (p : Path) (o q : Option Value) → get_by_text m k ≡ o → get_by_text n k ≡ q → pick q (object_map n (key k ∷ p)) (pick o (object_map n (key k ∷ p)) (object_map m (key k ∷ p))) ≡ object_map n (key k ∷ p)
    by_value k p o (Some v) is other = refl
    by_value k p (Some v) None is other = refl
    by_value k p None None is other = member_label m k p ∙ ap (label_in p) is ∙ sym (ap (label_in p) other) ∙ sym (member_label n k p)

    go : (p : Path) → mixed n.entries (mixed m.entries (object_map m) (object_map n)) (object_map n) p ≡ object_map n p
    go [] = object_label m ∙ sym (object_label n)
    go (key k ∷ p) = by_value k p (get_by_text m k) (get_by_text n k) refl refl
    go (place i ∷ p) = no_place_label m i p ∙ sym (no_place_label n i p)

-- an entry whose key the first object has changes nothing more
pub mixed_skip : (m : tested.Object) (done : List Entry) (e : Entry) (c d : NodeMap) → IsSome (get_by_text m (string_bytes e.0)) → mixed (done ++ e ∷ []) (mixed m.entries c d) d ≡ mixed done (mixed m.entries c d) d
mixed_skip m done e c d has = mixed_push done e (mixed m.entries c d) d ∙ fun_ext go
  where
    k0 : Text
    k0 = string_bytes e.0

    there : (p : Path) (o : Option Value) → d (key k0 ∷ p) ≡ pick o (d (key k0 ∷ p)) (pick (get_by_text m k0) (d (key k0 ∷ p)) (c (key k0 ∷ p)))
    there p (Some v) = refl
    there p None = sym (pick_first (get_by_text m k0) (d (key k0 ∷ p)) (c (key k0 ∷ p)) has)

    by_test : (k : Text) (p : Path) (b : Bool) → bytes_eq k0 k ≡ b → label_or (cond b (Some p) None) (sub d (key k0 ∷ [])) (mixed done (mixed m.entries c d) d (key k ∷ p)) ≡ mixed done (mixed m.entries c d) d (key k ∷ p)
    by_test k p true is =
        let same : k0 ≡ k = (bytes_eq-Decides k0 k).0 is in
        subst (λ (l : Text). d (key k0 ∷ p) ≡ mixed done (mixed m.entries c d) d (key l ∷ p)) same (there p (found_under k0 done))
    by_test k p false is = refl

    go : (p : Path) → put (mixed done (mixed m.entries c d) d) (key k0 ∷ []) (sub d (key k0 ∷ [])) p ≡ mixed done (mixed m.entries c d) d p
    go [] = refl
    go (key k ∷ p) = by_test k p (bytes_eq k0 k) refl
    go (place i ∷ p) = refl
