-- What the code of three-way merges makes.
use Rattle.std.proofs.Common.{◌≡◌, ◌⊎◌, inl, inr, ℕ, false, is_some, bytes_eq, string_bytes, List, [], ◌∷◌, ◌++◌, Option, Some, None, IsSome, refl, sym, ap, ◌∙◌, subst, true≢false}
use mathlib.Core.Path.{fun_ext}
use Rattle.std.specs.BTreeMap.{get_by_text}
use Rattle.serde_json.specs.declared.value.Value.{Value}
use Rattle.serde_json.proofs.Views.{Entry}
use Rattle.jsonptr.specs.Text.{Text}
use Rattle.jsonptr.specs.Node.{key, place, Path, an_object, NodeMap, sub}
use Rattle.jsonptr_merge.specs.Values.{no_value, map_in}
use Rattle.jsonptr_merge.specs.PrivateObjects.{Object, object_map, member_in, InsertsSome, HasKeysOfAll}
use Rattle.jsonptr_merge.specs.Merge.{AreObjects, AllDiffer, IsMerge, HasNoConflict}
use Rattle.jsonptr_merge.specs.PrivateSides.{IsTaken, Merges, MergesUnder}
use Rattle.jsonptr_merge.proofs.MergeLaws.{conflict_at_root, no_conflict_below, objects_or_not}
use Rattle.jsonptr_merge.proofs.ObjectLemmas.{member_map, object_label, no_place_label, found_under, each_more, inserted, not_inserted}
use Rattle.jsonptr_merge.proofs.PatchLemmas.{no_some, has_some}

-- ---- one value counts

sub_same : (n m : NodeMap) (w : Path) → n ≡ m → sub n w ≡ sub m w
sub_same n m w same = ap (λ (l : NodeMap). sub l w) same

theirs_counts : (b o t : NodeMap) → o ≡ b → IsMerge b o t t
theirs_counts b o t e = record {
  theirs = λ w same. refl;
  ours = λ w same. same ∙ sym (sub_same o b w e);
  both = λ w same. sym same;
  objects = λ w three. three.2;
}

ours_counts : (b o t : NodeMap) → t ≡ b → IsMerge b o t o
ours_counts b o t e = record {
  theirs = λ w same. same ∙ sym (sub_same t b w e);
  ours = λ w same. refl;
  both = λ w same. refl;
  objects = λ w three. three.1;
}

both_agree : (b o t : NodeMap) → o ≡ t → IsMerge b o t o
both_agree b o t e = record {
  theirs = λ w same. sub_same o t w e;
  ours = λ w same. refl;
  both = λ w same. refl;
  objects = λ w three. three.1;
}

pub taken_merge : (b o t x : NodeMap) → IsTaken b o t x → IsMerge b o t x
taken_merge b o t x (inl h) = subst (λ (n : NodeMap). IsMerge b o t n) (sym h.1) (theirs_counts b o t h.0)
taken_merge b o t x (inr (inl h)) = subst (λ (n : NodeMap). IsMerge b o t n) (sym h.1) (ours_counts b o t h.0)
taken_merge b o t x (inr (inr h)) = subst (λ (n : NodeMap). IsMerge b o t n) (sym h.1) (both_agree b o t h.0)

pub taken_merges : (b o t x m : NodeMap) → IsTaken b o t x → m ≡ x → Merges b o t m
taken_merges b o t x m taken is none = subst (λ (n : NodeMap). IsMerge b o t n) (sym is) (taken_merge b o t x taken)

-- three values that differ and are not all objects have a conflict
pub apart_merges : (b o t m : NodeMap) → AllDiffer b o t [] → (AreObjects b o t [] → ⊥) → Merges b o t m
apart_merges b o t m differ other none = absurd (none [] (conflict_at_root b o t differ other))

-- a value that does not exist is no object
pub not_objects : (o t : NodeMap) → AreObjects no_value o t [] → ⊥
not_objects o t three = let is : None ≡ Some an_object = three.0 in let bad : ⊥ = cc in bad

-- ---- objects

module _ (b o t m : NodeMap) (three : AreObjects b o t []) (root : m [] ≡ Some an_object)
    (no_b : (i : ℕ) (p : Path) → b (place i ∷ p) ≡ None) (no_o : (i : ℕ) (p : Path) → o (place i ∷ p) ≡ None) (no_t : (i : ℕ) (p : Path) → t (place i ∷ p) ≡ None) (no_m : (i : ℕ) (p : Path) → m (place i ∷ p) ≡ None)
    (below : (k : Text) → IsMerge (sub b (key k ∷ [])) (sub o (key k ∷ [])) (sub t (key k ∷ [])) (sub m (key k ∷ []))) where
  theirs_all : o ≡ b → (p : Path) → m p ≡ t p
  theirs_all same [] = root ∙ sym three.2
  theirs_all same (key k ∷ p) = ap (λ (n : NodeMap). n p) ((below k).theirs [] (sub_same o b (key k ∷ []) same))
  theirs_all same (place i ∷ p) = no_m i p ∙ sym (no_t i p)

  ours_all : t ≡ b → (p : Path) → m p ≡ o p
  ours_all same [] = root ∙ sym three.1
  ours_all same (key k ∷ p) = ap (λ (n : NodeMap). n p) ((below k).ours [] (sub_same t b (key k ∷ []) same))
  ours_all same (place i ∷ p) = no_m i p ∙ sym (no_o i p)

  both_all : o ≡ t → (p : Path) → m p ≡ o p
  both_all same [] = root ∙ sym three.1
  both_all same (key k ∷ p) = ap (λ (n : NodeMap). n p) ((below k).both [] (sub_same o t (key k ∷ []) same))
  both_all same (place i ∷ p) = no_m i p ∙ sym (no_o i p)

  by_theirs : (w : Path) → sub o w ≡ sub b w → sub m w ≡ sub t w
  by_theirs [] same = fun_ext (theirs_all same)
  by_theirs (key k ∷ v) same = (below k).theirs v same
  by_theirs (place i ∷ v) same = fun_ext (λ (p : Path). no_m i (v ++ p) ∙ sym (no_t i (v ++ p)))

  by_ours : (w : Path) → sub t w ≡ sub b w → sub m w ≡ sub o w
  by_ours [] same = fun_ext (ours_all same)
  by_ours (key k ∷ v) same = (below k).ours v same
  by_ours (place i ∷ v) same = fun_ext (λ (p : Path). no_m i (v ++ p) ∙ sym (no_o i (v ++ p)))

  by_both : (w : Path) → sub o w ≡ sub t w → sub m w ≡ sub o w
  by_both [] same = fun_ext (both_all same)
  by_both (key k ∷ v) same = (below k).both v same
  by_both (place i ∷ v) same = fun_ext (λ (p : Path). no_m i (v ++ p) ∙ sym (no_o i (v ++ p)))

  by_objects : (w : Path) → AreObjects b o t w → m w ≡ Some an_object
  by_objects [] all = root
  by_objects (key k ∷ v) all = (below k).objects v all
  by_objects (place i ∷ v) all = no_m i v ∙ sym (no_b i v) ∙ all.0

  pub objects_merge : IsMerge b o t m
  objects_merge = record { theirs = by_theirs; ours = by_ours; both = by_both; objects = by_objects }

pub three_objects : (b o t : Object) → AreObjects (object_map b) (object_map o) (object_map t) []
three_objects b o t = (object_label b, object_label o, object_label t)

pub at_members : (P : NodeMap → NodeMap → NodeMap → Type 0) (b o t : Object) (k : Text) → P (sub (object_map b) (key k ∷ [])) (sub (object_map o) (key k ∷ [])) (sub (object_map t) (key k ∷ [])) → P (member_in b k) (member_in o k) (member_in t k)
at_members P b o t k h =
    subst (λ (n : NodeMap). P (member_in b k) (member_in o k) n) (member_map t k)
    (subst (λ (n : NodeMap). P (member_in b k) n (sub (object_map t) (key k ∷ []))) (member_map o k)
    (subst (λ (n : NodeMap). P n (sub (object_map o) (key k ∷ [])) (sub (object_map t) (key k ∷ []))) (member_map b k) h))

from_members : (P : NodeMap → NodeMap → NodeMap → NodeMap → Type 0) (b o t m : Object) (k : Text) → P (member_in b k) (member_in o k) (member_in t k) (member_in m k) → P (sub (object_map b) (key k ∷ [])) (sub (object_map o) (key k ∷ [])) (sub (object_map t) (key k ∷ [])) (sub (object_map m) (key k ∷ []))
from_members P b o t m k h =
    subst (λ (n : NodeMap). P (sub (object_map b) (key k ∷ [])) (sub (object_map o) (key k ∷ [])) (sub (object_map t) (key k ∷ [])) n) (sym (member_map m k))
    (subst (λ (n : NodeMap). P (sub (object_map b) (key k ∷ [])) (sub (object_map o) (key k ∷ [])) n (member_in m k)) (sym (member_map t k))
    (subst (λ (n : NodeMap). P (sub (object_map b) (key k ∷ [])) n (member_in t k) (member_in m k)) (sym (member_map o k))
    (subst (λ (n : NodeMap). P n (member_in o k) (member_in t k) (member_in m k)) (sym (member_map b k)) h)))

pub three_members : (P : NodeMap → NodeMap → NodeMap → Type 0) (b o t : Object) (k : Text) → P (member_in b k) (member_in o k) (member_in t k) → P (sub (object_map b) (key k ∷ [])) (sub (object_map o) (key k ∷ [])) (sub (object_map t) (key k ∷ []))
three_members P b o t k h =
    subst (λ (n : NodeMap). P (sub (object_map b) (key k ∷ [])) (sub (object_map o) (key k ∷ [])) n) (sym (member_map t k))
    (subst (λ (n : NodeMap). P (sub (object_map b) (key k ∷ [])) n (member_in t k)) (sym (member_map o k))
    (subst (λ (n : NodeMap). P n (member_in o k) (member_in t k)) (sym (member_map b k)) h))

pub objects_merges : (b o t m : Object) → ((k : Text) → MergesUnder b o t m k) → Merges (object_map b) (object_map o) (object_map t) (object_map m)
objects_merges b o t m each none =
    objects_merge (object_map b) (object_map o) (object_map t) (object_map m) (three_objects b o t) (object_label m) (no_place_label b) (no_place_label o) (no_place_label t) (no_place_label m)
    (λ k. from_members IsMerge b o t m k (each k (at_members HasNoConflict b o t k (no_conflict_below (object_map b) (object_map o) (object_map t) (key k) (three_objects b o t) none))))

-- ---- the sides as the code has them

pub merges_at : (b o t m c p u n : NodeMap) → b ≡ c → o ≡ p → t ≡ u → m ≡ n → Merges b o t m → Merges c p u n
merges_at b o t m c p u n e f g i h =
    subst (λ (x : NodeMap). Merges c p u x) i (subst (λ (x : NodeMap). Merges c p x m) g (subst (λ (x : NodeMap). Merges c x t m) f (subst (λ (x : NodeMap). Merges x o t m) e h)))

-- ---- one member

some_here : (old new : Object) (k : Text) (o : Option Value) → InsertsSome old new k o → get_by_text old k ≡ None → member_in new k ≡ map_in o
some_here old new k None h free = ap map_in (h k ∙ free)
some_here old new k (Some v) h free = ap map_in (inserted old new k v h)

some_others : (old new : Object) (k : Text) (o : Option Value) → InsertsSome old new k o → (q : Text) → bytes_eq k q ≡ false → get_by_text new q ≡ get_by_text old q
some_others old new k None h q other = h q
some_others old new k (Some v) h q other = not_inserted old new k v h q other

-- members, key by key

abbrev pub MergeStep : Object → Object → Object → Text → Option Value → Object → Type 0
MergeStep b o t k found made = (IsSome found → MergesUnder b o t made k) × (found ≡ None → get_by_text made k ≡ None)

under_same : (b o t old new : Object) (k : Text) → get_by_text new k ≡ get_by_text old k → MergesUnder b o t old k → MergesUnder b o t new k
under_same b o t old new k same h = subst (λ (n : NodeMap). Merges (member_in b k) (member_in o k) (member_in t k) n) (sym (ap map_in same)) h

merge_others : (b o t old new : Object) (k : Text) (f : Option Value) → get_by_text new k ≡ get_by_text old k → MergeStep b o t k f old → MergeStep b o t k f new
merge_others b o t old new k f same h = (λ some. under_same b o t old new k same (h.0 some), λ is. same ∙ h.1 is)

merge_here : (b o t old new : Object) (k : Text) (v : Value) (x y z : NodeMap) (r : Option Value) → x ≡ member_in b k → y ≡ member_in o k → z ≡ member_in t k → InsertsSome old new k r → Merges x y z (map_in r) → MergeStep b o t k None old → MergeStep b o t k (Some v) new
merge_here b o t old new k v x y z r base ours theirs inserts merges h = (
  λ some. merges_at x y z (map_in r) (member_in b k) (member_in o k) (member_in t k) (member_in new k) base ours theirs (sym (some_here old new k r inserts (h.1 refl))) merges,
  λ e. no_some v e,
)

-- one key more
pub merge_more : (b o t old new : Object) (done : List Entry) (e : Entry) → found_under (string_bytes e.0) done ≡ None → (x y z : NodeMap) (r : Option Value) → x ≡ member_in b (string_bytes e.0) → y ≡ member_in o (string_bytes e.0) → z ≡ member_in t (string_bytes e.0) → InsertsSome old new (string_bytes e.0) r → Merges x y z (map_in r) → ((k : Text) → MergeStep b o t k (found_under k done) old) → (k : Text) → MergeStep b o t k (found_under k (done ++ e ∷ [])) new
merge_more b o t old new done e fresh x y z r base ours theirs inserts merges each =
    each_more (MergeStep b o t) old new done e fresh each
    (λ k other f h. merge_others b o t old new k f (some_others old new (string_bytes e.0) r inserts k other) h)
    (λ h. merge_here b o t old new (string_bytes e.0) e.1 x y z r base ours theirs inserts merges h)

lacks_all : (b o t made : Object) (k : Text) → get_by_text b k ≡ None → get_by_text o k ≡ None → get_by_text t k ≡ None → get_by_text made k ≡ None → MergesUnder b o t made k
lacks_all b o t made k in_b in_o in_t free =
    taken_merges (member_in b k) (member_in o k) (member_in t k) (member_in t k) (member_in made k) (inl (ap map_in (in_o ∙ sym in_b), refl)) (ap map_in (free ∙ sym in_t))

pub merge_all : (b o t keys made : Object) (found : Text → Option Value) → ((k : Text) → found k ≡ get_by_text keys k) → HasKeysOfAll b o t keys → ((k : Text) → MergeStep b o t k (found k) made) → (k : Text) → MergesUnder b o t made k
merge_all b o t keys made found all has each k = by_value (found k) refl
  where
    lacks : (m : Object) → (IsSome (get_by_text m k) → IsSome (get_by_text keys k)) → get_by_text keys k ≡ None → get_by_text m k ≡ None
    lacks m some none = by_member (get_by_text m k) refl
      where
        by_member : (o : Option Value) → get_by_text m k ≡ o → get_by_text m k ≡ None
        by_member None is = is
        by_member (Some v) is = absurd (has_some (get_by_text keys k) none (some (ap is_some is)))

    by_value : (f : Option Value) → found k ≡ f → MergesUnder b o t made k
    by_value (Some v) is = (each k).0 (ap is_some is)
    by_value None is =
        let none : get_by_text keys k ≡ None = sym (all k) ∙ is in
        lacks_all b o t made k (lacks b (λ some. has k (inl some)) none) (lacks o (λ some. has k (inr (inl some))) none) (lacks t (λ some. has k (inr (inr some))) none) ((each k).1 is)

-- ---- the root

-- a merge of three documents exists
pub merge_exists : (b o t : NodeMap) → IsSome (b []) → IsSome (o []) → IsSome (t []) → HasNoConflict b o t → IsMerge b o t no_value → ⊥
merge_exists b o t some_b some_o some_t none h =
    let not_here : (n : NodeMap) → IsSome (n []) → no_value ≡ n → ⊥ = λ n some same. true≢false (sym some ∙ sym (ap (λ (l : NodeMap). is_some (l [])) same)) in
    by_root (record {
      ours = λ same. not_here t some_t (h.theirs [] same);
      theirs = λ same. not_here o some_o (h.ours [] same);
      both = λ same. not_here o some_o (h.both [] same);
    }) (objects_or_not b o t [])
  where
    by_root : AllDiffer b o t [] → AreObjects b o t [] ⊎ (AreObjects b o t [] → ⊥) → ⊥
    by_root differ (inl three) = let no : None ≡ Some an_object = h.objects [] three in let bad : ⊥ = cc in bad
    by_root differ (inr other) = none [] (conflict_at_root b o t differ other)
