-- Which conflicts the code finds.
use Rattle.std.proofs.Common.{◌≡◌, ◌≢◌, ◌⊎◌, inl, inr, ℕ, List, [], ◌∷◌, ◌++◌, All, Option, Some, None, IsSome, is_some, refl, sym, ap, ◌∙◌, subst, append_assoc, append-nil, true≢false, length, arith, Bool, true, false, string_bytes, string_cmp, eqb}
use Rattle.std.specs.List.{Contains}
use Rattle.std.specs.Prelude.{Result, Ok, Err, IfOk}
use mathlib.Core.Path.{fun_ext}
use Rattle.std.proofs.lemmas.Bool.Decides.{nat_tests}
use Rattle.serde_json.proofs.Views.{Entry}
use Rattle.std.proofs.lemmas.List.Elements.{All-nil, All-cons, All-head, All-tail, All-push, All-append, All-weaker, Contains-append_left, Contains-append_right}
use Rattle.std.specs.BTreeMap.{get_by_text}
use Rattle.std.specs.Cmp.Lexicographic.{slice_cmp}
use Rattle.std.specs.List.Sorted.{IsStrictlySortedBy}
use Rattle.std.specs.Map.{keys_of}
use Rattle.std.specs.Ordering.{nat_cmp}
use Rattle.std.specs.declared.cmp.Ordering.TheVariants.{Less}
use Rattle.serde_json.specs.declared.value.Value.{Value}
use Rattle.jsonptr.specs.Text.{Text}
use Rattle.jsonptr.specs.Node.{key, place, Path, NodeMap, sub}
use Rattle.jsonptr_patch_diff.specs.Diff.{keys}
use Rattle.jsonptr_merge.specs.Values.{map_in, IsBefore}
use Rattle.jsonptr_merge.specs.PrivateObjects.{Object, object_map, member_in, HasKeysOfAll}
use Rattle.jsonptr_merge.specs.Merge.{AreObjects, AllDiffer, IsConflict, HasNoConflict, IsConflictAt, AreInOrder, AreConflicts}
use Rattle.jsonptr_merge.specs.Outcome.{ConflictHasSortedKeys}
use Rattle.jsonptr_merge.specs.PrivateSides.{IsTaken, AppendsConflict, IsConflictBelow, AppendsConflicts, IsConflictUnder, AppendsUnder}
use Rattle.jsonptr_merge.specs.declared.conflict.Conflict.{Conflict}
use Rattle.jsonptr_merge.proofs.MergeLaws.{conflict_at_root, conflict_below}
use Rattle.jsonptr_merge.proofs.MergeLemmas.{three_objects, at_members, three_members}
use Rattle.jsonptr_merge.proofs.ObjectLemmas.{member_map, no_place_label, found_under, found_cases, found_last, found_still, entry_less}

-- ---- no conflict, and one

taken_none : (b o t x : NodeMap) → IsTaken b o t x → (w : Path) → IsConflict b o t w → ⊥
taken_none b o t x (inl h) w c = c.differ.ours (ap (λ (n : NodeMap). sub n w) h.0)
taken_none b o t x (inr (inl h)) w c = c.differ.theirs (ap (λ (n : NodeMap). sub n w) h.0)
taken_none b o t x (inr (inr h)) w c = c.differ.both (ap (λ (n : NodeMap). sub n w) h.0)

pub none_found : (base : List Text) (b o t x : NodeMap) (before : List Conflict) → IsTaken b o t x → AppendsConflicts base b o t before before
none_found base b o t x before taken = record {
  further = [];
  appended = sym (append-nil before);
  real = All-nil (IsConflictBelow base b o t);
  all = λ w c. absurd (taken_none b o t x taken w c);
  in_order = tt;
}

-- a conflict at the root is the only one
root_alone : (b o t : NodeMap) → (AreObjects b o t [] → ⊥) → (w : Path) → IsConflict b o t w → w ≡ []
root_alone b o t other [] c = refl
root_alone b o t other (s ∷ w) c = absurd (other (c.above [] s w refl))

pub one_found : (base : List Text) (b o t : NodeMap) (before after : List Conflict) → AllDiffer b o t [] → (AreObjects b o t [] → ⊥) → AppendsConflict base b o t before after → AppendsConflicts base b o t before after
one_found base b o t before after differ other h = record {
  further = h.conflict ∷ [];
  appended = h.appended;
  real = All-cons (IsConflictBelow base b o t) h.conflict [] (
    [],
    h.path ∙ sym (append-nil base),
    record {
      conflict = conflict_at_root b o t differ other;
      base = h.base_is;
      ours = h.ours_is;
      theirs = h.theirs_is;
    },
  ) (All-nil (IsConflictBelow base b o t));
  all = λ w c. (h.conflict, (0, omega arith, refl), ([], h.path ∙ sym (append-nil base), root_alone b o t other w c));
  in_order = (All-nil (λ (d : Conflict). IsBefore h.conflict.path d.path), tt);
}

-- ---- the order of conflicts

before_at : (base ts us : List Text) → IsBefore ts us → IsBefore (base ++ ts) (base ++ us)
before_at [] ts us h = h
before_at (x ∷ base) ts us h = inr (refl, before_at base ts us h)

order_append : (P Q : Conflict → Type 0) (cs ds : List Conflict) → All P cs → All Q ds → AreInOrder cs → AreInOrder ds → ((c d : Conflict) → P c → Q d → IsBefore c.path d.path) → AreInOrder (cs ++ ds)
order_append P Q [] ds ps qs a b before = b
order_append P Q (c ∷ cs) ds ps qs a b before = (
  All-append (λ (d : Conflict). IsBefore c.path d.path) cs ds a.0 (All-weaker Q (λ (d : Conflict). IsBefore c.path d.path) (λ d q. before c d (All-head P c cs ps) q) ds qs),
  order_append P Q cs ds (All-tail P c cs ps) qs a.1 b before,
)

-- ---- members, one by one

pub under_start : (P : Text → Type 0) (base : List Text) (b o t : Object) (before : List Conflict) → ((k : Text) → P k → ⊥) → AppendsUnder P base b o t before before
under_start P base b o t before none = record {
  further = [];
  appended = sym (append-nil before);
  real = All-nil (IsConflictUnder P base b o t);
  all = λ k p. absurd (none k p);
  in_order = tt;
}

pub under_as : (P Q : Text → Type 0) (base : List Text) (b o t : Object) (before after : List Conflict) → ((k : Text) → P k → Q k) → ((k : Text) → Q k → P k) → AppendsUnder P base b o t before after → AppendsUnder Q base b o t before after
under_as P Q base b o t before after to from h = record {
  further = h.further;
  appended = h.appended;
  real = All-weaker (IsConflictUnder P base b o t) (IsConflictUnder Q base b o t) (λ c x. (x.0, to x.0 x.1, x.2)) h.further h.real;
  all = λ k q. h.all k (from k q);
  in_order = h.in_order;
}

module _ (P Q : Text → Type 0) (base : List Text) (b o t : Object) (before middle after : List Conflict) (first : AppendsUnder P base b o t before middle) where
  under_more : (l : Text) → AppendsConflicts (base ++ l ∷ []) (member_in b l) (member_in o l) (member_in t l) middle after → Q l → ((k : Text) → P k → Q k) → ((k : Text) → P k → slice_cmp nat_cmp k l ≡ Less) → ((k : Text) → Q k → P k ⊎ (l ≡ k)) → AppendsUnder Q base b o t before after
  under_more l second here more less cases = record {
    further = first.further ++ second.further;
    appended = second.appended ∙ ap (λ (cs : List Conflict). cs ++ second.further) first.appended ∙ append_assoc before first.further second.further;
    real = All-append (IsConflictUnder Q base b o t) first.further second.further
        (All-weaker (IsConflictUnder P base b o t) (IsConflictUnder Q base b o t) (λ c h. (h.0, more h.0 h.1, h.2)) first.further first.real)
        (All-weaker (IsConflictBelow (base ++ l ∷ []) (member_in b l) (member_in o l) (member_in t l)) (IsConflictUnder Q base b o t) (λ c h. (l, here, (h.0, h.1 ∙ append_assoc base (l ∷ []) h.0, h.2))) second.further second.real);
    all = λ k q w c. by_case k w c (cases k q);
    in_order = order_append (IsConflictUnder P base b o t) (IsConflictBelow (base ++ l ∷ []) (member_in b l) (member_in o l) (member_in t l)) first.further second.further first.real second.real first.in_order second.in_order in_turn;
  }
    where
      in_turn : (c d : Conflict) → IsConflictUnder P base b o t c → IsConflictBelow (base ++ l ∷ []) (member_in b l) (member_in o l) (member_in t l) d → IsBefore c.path d.path
      in_turn c d g h =
          let path : d.path ≡ base ++ l ∷ h.0 = h.1 ∙ append_assoc base (l ∷ []) h.0 in
          subst (λ (ts : List Text). IsBefore ts d.path) (sym g.2.1) (subst (λ (us : List Text). IsBefore (base ++ g.0 ∷ g.2.0) us) (sym path) (before_at base (g.0 ∷ g.2.0) (l ∷ h.0) (inl (less g.0 g.1))))

      by_case : (k : Text) (w : Path) → IsConflict (member_in b k) (member_in o k) (member_in t k) w → P k ⊎ (l ≡ k) → (c : Conflict) × Contains (first.further ++ second.further) c × ((rest : List Text) × (c.path ≡ base ++ k ∷ rest) × (w ≡ keys rest))
      by_case k w c (inl p) =
          let found = first.all k p w c in
          (found.0, Contains-append_left first.further second.further found.0 found.1, found.2)
      by_case k w c (inr same) =
          let there : IsConflict (member_in b l) (member_in o l) (member_in t l) w = subst (λ (x : Text). IsConflict (member_in b x) (member_in o x) (member_in t x) w) (sym same) c in
          let found = second.all w there in
          let path : found.0.path ≡ base ++ k ∷ found.2.0 = found.2.1 ∙ append_assoc base (l ∷ []) found.2.0 ∙ ap (λ (x : Text). base ++ x ∷ found.2.0) same in
          (found.0, Contains-append_right first.further second.further found.0 found.1, (found.2.0, path, found.2.2))

-- ---- objects, as a whole

module _ (b o t : Object) where
  conflict_in_member : (k : Text) (v : Path) → IsConflict (object_map b) (object_map o) (object_map t) (key k ∷ v) → IsConflict (member_in b k) (member_in o k) (member_in t k) v
  conflict_in_member k v c = at_members (λ x y z. IsConflict x y z v) b o t k (record {
    differ = record { ours = c.differ.ours; theirs = c.differ.theirs; both = c.differ.both };
    no_objects = c.no_objects;
    above = λ u s w is. c.above (key k ∷ u) s w (ap (λ (p : Path). key k ∷ p) is);
  })

  no_conflict_in_place : (i : ℕ) (v : Path) → IsConflict (object_map b) (object_map o) (object_map t) (place i ∷ v) → ⊥
  no_conflict_in_place i v c = c.differ.ours (fun_ext (λ (p : Path). no_place_label o i (v ++ p) ∙ sym (no_place_label b i (v ++ p))))

  conflict_of_member : (k : Text) (rest : List Text) → IsConflict (member_in b k) (member_in o k) (member_in t k) (keys rest) → IsConflict (object_map b) (object_map o) (object_map t) (keys (k ∷ rest))
  conflict_of_member k rest c = conflict_below (object_map b) (object_map o) (object_map t) (key k) (three_objects b o t) (keys rest) (three_members (λ x y z. IsConflict x y z (keys rest)) b o t k c)

  at_member : (m : Object) (k : Text) (rest : List Text) (n : NodeMap) → n ≡ sub (member_in m k) (keys rest) → n ≡ sub (object_map m) (keys (k ∷ rest))
  at_member m k rest n is = is ∙ sym (ap (λ (x : NodeMap). sub x (keys rest)) (member_map m k))

  pub members_found : (base : List Text) (names : Object) (before after : List Conflict) → HasKeysOfAll b o t names → AppendsUnder (λ k. IsSome (get_by_text names k)) base b o t before after → AppendsConflicts base (object_map b) (object_map o) (object_map t) before after
  members_found base names before after has h = record {
    further = h.further;
    appended = h.appended;
    real = All-weaker (IsConflictUnder (λ k. IsSome (get_by_text names k)) base b o t) (IsConflictBelow base (object_map b) (object_map o) (object_map t)) as_whole h.further h.real;
    all = by_path;
    in_order = h.in_order;
  }
    where
      as_whole : (c : Conflict) → IsConflictUnder (λ k. IsSome (get_by_text names k)) base b o t c → IsConflictBelow base (object_map b) (object_map o) (object_map t) c
      as_whole c g = (
        g.0 ∷ g.2.0,
        g.2.1,
        record {
          conflict = conflict_of_member g.0 g.2.0 g.2.2.conflict;
          base = at_member b g.0 g.2.0 (map_in c.base) g.2.2.base;
          ours = at_member o g.0 g.2.0 (map_in c.ours) g.2.2.ours;
          theirs = at_member t g.0 g.2.0 (map_in c.theirs) g.2.2.theirs;
        },
      )

      named : (k : Text) (v : Path) → IsConflict (member_in b k) (member_in o k) (member_in t k) v → (x y : Option Value) → get_by_text b k ≡ x → get_by_text o k ≡ y → IsSome (get_by_text names k)
      named k v c (Some x) y is other = has k (inl (ap is_some is))
      named k v c None (Some y) is other = has k (inr (inl (ap is_some other)))
      named k v c None None is other = absurd (c.differ.ours (ap (λ (n : NodeMap). sub n v) (ap map_in (other ∙ sym is))))

      by_path : (w : Path) → IsConflict (object_map b) (object_map o) (object_map t) w → (c : Conflict) × Contains h.further c × ((rest : List Text) × (c.path ≡ base ++ rest) × (w ≡ keys rest))
      by_path [] c = absurd (c.no_objects (three_objects b o t))
      by_path (key k ∷ v) c =
          let inside = conflict_in_member k v c in
          let found = h.all k (named k v inside (get_by_text b k) (get_by_text o k) refl refl) v inside in
          (found.0, found.1, (k ∷ found.2.0, found.2.1, ap (λ (p : Path). key k ∷ p) found.2.2))
      by_path (place i ∷ v) c = absurd (no_conflict_in_place i v c)

-- ---- the sides as the code has them

pub finds_at : (base : List Text) (b o t c p u : NodeMap) (before after : List Conflict) → b ≡ c → o ≡ p → t ≡ u → AppendsConflicts base b o t before after → AppendsConflicts base c p u before after
finds_at base b o t c p u before after e f g h =
    subst (λ (x : NodeMap). AppendsConflicts base c p x before after) g (subst (λ (x : NodeMap). AppendsConflicts base c x t before after) f (subst (λ (x : NodeMap). AppendsConflicts base x o t before after) e h))

-- one more, whose values have their keys in order
pub sorted_push : (cs ds : List Conflict) (c : Conflict) → ds ≡ cs ++ c ∷ [] → ConflictHasSortedKeys c → All ConflictHasSortedKeys cs → All ConflictHasSortedKeys ds
sorted_push cs ds c is sorted all = subst (All ConflictHasSortedKeys) (sym is) (All-push ConflictHasSortedKeys cs c all sorted)

-- ---- all conflicts of documents

some_there : (cs : List Conflict) (c : Conflict) → Contains cs c → cs ≡ [] → ⊥
some_there cs c h is = let empty : length cs ≡ 0 = ap length is in omega (arith, h.1, empty)

pub no_conflicts : (b o t : NodeMap) (cs : List Conflict) → cs ≡ [] → AppendsConflicts [] b o t [] cs → HasNoConflict b o t
no_conflicts b o t cs is h w c =
    let found = h.all w c in
    some_there h.further found.0 found.1 (sym h.appended ∙ is)

pub all_conflicts : (b o t : NodeMap) (cs : List Conflict) → cs ≢ [] → AppendsConflicts [] b o t [] cs → AreConflicts b o t cs
all_conflicts b o t cs some h = record {
  some = some;
  real = subst (λ (ds : List Conflict). All (λ c. IsConflictAt b o t c.path c) ds) (sym h.appended)
      (All-weaker (IsConflictBelow [] b o t) (λ (c : Conflict). IsConflictAt b o t c.path c) (λ c x. subst (λ (ts : List Text). IsConflictAt b o t ts c) (sym x.1) x.2) h.further h.real);
  all = λ w c. (let found = h.all w c in (found.0, subst (λ (ds : List Conflict). Contains ds found.0) (sym h.appended) found.1, found.2.2 ∙ ap keys (sym found.2.1)));
  in_order = subst AreInOrder (sym h.appended) h.in_order;
}

-- ---- loops over entries

pub none_some : (k : Text) → IsSome (found_under k []) → ⊥
none_some k h = true≢false (sym h)

-- one key more
pub found_more : (b o t names : Object) (base : List Text) (before middle after : List Conflict) (done : List Entry) (e : Entry) (left : List Entry) → names.entries ≡ done ++ e ∷ left → IsStrictlySortedBy string_cmp (keys_of names.entries) → (x y z : NodeMap) (s : Text) → s ≡ string_bytes e.0 → x ≡ member_in b (string_bytes e.0) → y ≡ member_in o (string_bytes e.0) → z ≡ member_in t (string_bytes e.0) → AppendsConflicts (base ++ s ∷ []) x y z middle after → AppendsUnder (λ k. IsSome (found_under k done)) base b o t before middle → AppendsUnder (λ k. IsSome (found_under k (done ++ e ∷ []))) base b o t before after
found_more b o t names base before middle after done e left all ordered x y z s same base_is ours_is theirs_is finds first =
    let k = string_bytes e.0 in
    under_more (λ (l : Text). IsSome (found_under l done)) (λ (l : Text). IsSome (found_under l (done ++ e ∷ []))) base b o t before middle after first k
    (subst (λ (l : Text). AppendsConflicts (base ++ l ∷ []) (member_in b k) (member_in o k) (member_in t k) middle after) same (finds_at (base ++ s ∷ []) x y z (member_in b k) (member_in o k) (member_in t k) middle after base_is ours_is theirs_is finds))
    (found_last done e) (found_still done e) (entry_less names done e left all ordered) (found_cases done e)

pub ok_step : {T E : Type 0} (r : Result T E) (P Q : Type 0) → (P → Q) → IfOk r (λ _. P) → IfOk r (λ _. Q)
ok_step (Ok v) P Q step h = step h
ok_step (Err e) P Q step h = h

pub ok_all : {T E : Type 0} (r : Result T E) (Q : T → Type 0) → ((v : T) → Q v) → IfOk r Q
ok_all (Ok v) Q h = h v
ok_all (Err e) Q h = tt

-- ---- a list that the code tests

pub not_none : (cs : List Conflict) (n : ℕ) (b : Bool) → n ≡ length cs → b ≡ eqb n 0 → b ≡ false → cs ≢ []
not_none cs n b long test is none = true≢false (sym (test ∙ ap (λ (k : ℕ). eqb k 0) (long ∙ ap length none)) ∙ is)

pub none_left : (cs : List Conflict) (n : ℕ) (b : Bool) → n ≡ length cs → b ≡ eqb n 0 → b ≡ true → cs ≡ []
none_left [] n b long test is = refl
none_left (c ∷ cs) n b long test is = let zero_len : n ≡ 0 = grind (arith, nat_tests) in absurd (omega (arith, long, zero_len))
