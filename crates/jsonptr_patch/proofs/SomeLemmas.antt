-- An operation makes a map of a document, or fails.
use Rattle.std.proofs.Common.{◌≡◌, ℕ, zero, suc, ◌<◌, ◌⊎◌, inl, inr, ⊎_elim, ℤ, Float, Bool, true, false, List, [], ◌∷◌, ◌++◌, length, get_or, codes, Contains, Option, Some, None, IsSome, refl, sym, ap, ◌∙◌, subst, arith, true≢false, length-append}
use Rattle.std.specs.Prelude.{T, All, IsUtf8}
use Rattle.std.specs.Float.Ieee
use Rattle.std.proofs.lemmas.Bool.{cases_eq}
use Rattle.std.proofs.lemmas.Bool.Decides.{Decides-int_eq}
use Rattle.std.proofs.lemmas.Slice.Eq.{bytes_eq-Decides}
use Rattle.std.proofs.lemmas.List.Elements.{Contains-append_left, Contains-append_right}
use Rattle.std.specs.Ordering.{int_eq}
use Rattle.std.specs.Str.{bytes_eq}
use Rattle.serde_json.specs.Data as json
use Rattle.serde_json.specs.View.{view}
use Rattle.jsonptr.specs.Text.{Text, text, dec}
use Rattle.jsonptr.specs.Assign.{RefusesAssign}
use Rattle.jsonptr.specs.Resolve.{Refuses}
use Rattle.jsonptr.specs.declared.resolve.Error.{Error as ResolveError}
use Rattle.jsonptr.specs.declared.resolve.Error.TheVariants.{Unreachable}
use Rattle.jsonptr.specs.declared.assign.Error.{Error as AssignError}
use Rattle.jsonptr.specs.Documents.{IsDocument}
use Rattle.jsonptr.specs.Node.{key, Path, Scalar, of_json, of_toml, Label, an_object, an_array, a_leaf, NodeMap, sub, Names, IsTree, IsListed}
use Rattle.jsonptr.specs.Following.{Finds}
use Rattle.jsonptr.specs.Assigning.{Assigns}
use Rattle.jsonptr.specs.Json.{nodes, content}
use Rattle.jsonptr.specs.Put.{put}
use Rattle.jsonptr_tree.proofs.AssigningLemmas.{Assigns-LandsNowhere}
use Rattle.jsonptr_tree.proofs.ContentLemmas.{map_of-finite}
use Rattle.jsonptr_tree.proofs.FollowingLemmas.{cases_dec, cases_some, the_label}
use Rattle.jsonptr_tree.proofs.ListedLemmas.{IsListed-sub}
use Rattle.jsonptr_tree.proofs.NodeLemmas.{Names-here}
use Rattle.jsonptr_tree.proofs.RemovingLemmas.{Deletes-some}
use Rattle.jsonptr_walk.specs.PrivatePutting.{HasNoIndex}
use Rattle.jsonptr_patch.specs.Inserting.{with_place}
use Rattle.jsonptr_patch.specs.Adding.{MeansPlace, AddsUnder, Adds}
use Rattle.jsonptr_patch.specs.Operating.{Takes, IsProperPrefix, PassesBy, AppliesBy, RefusesTarget, RefusesAdd, RefusesTestBy, RefusesOperationBy}
use Rattle.jsonptr_patch.specs.Testing.{Reading, nothing, truth, words, whole, reading, SameReading, exact, NumericallyEqual, SameNumbers, SameScalarBy, SameNodeBy, IsEqualBy, IsEqual, HasFloat}
use Rattle.jsonptr_patch.specs.declared.operation.Operation.{Operation}
use Rattle.jsonptr_patch.specs.declared.operation.Operation.TheVariants.{Add, Remove, Replace, Move, Copy, Test}
use Rattle.jsonptr_patch.specs.declared.failed_operation.FailedOperation.{FailedOperation}
use Rattle.jsonptr_patch.specs.declared.failed_operation.PatchPointer.{PatchPointer}
use Rattle.jsonptr_patch.specs.declared.failed_operation.PatchPointer.TheVariants as pointer
use Rattle.jsonptr_patch.specs.Failing.{no_target, bad_place, move_into_self, test_float, test_failed}
use Rattle.jsonptr_patch.proofs.AddingLemmas.{nowhere, scalar_lacks, parent_lacks, place_lacks}
use Rattle.jsonptr_patch.proofs.RestoringLemmas.{cases_token}
use Rattle.jsonptr_patch.proofs.OneLemmas.{takes_tree}
use Rattle.jsonptr_patch.specs.Operations.{IsOperation}
use Rattle.jsonptr_patch.specs.declared.comparison.Comparison.{Comparison}
use Rattle.jsonptr_patch.specs.declared.comparison.Comparison.TheVariants.{Strict, Numeric}

-- ---- decidable properties

cases_text : (x y : Text) → (x ≡ y) ⊎ (x ≡ y → ⊥)
cases_text x y = by_test (bytes_eq x y) refl
  where
    by_test : (b : Bool) → bytes_eq x y ≡ b → (x ≡ y) ⊎ (x ≡ y → ⊥)
    by_test true e = inl ((bytes_eq-Decides x y).0 e)
    by_test false e = inr (λ h. true≢false (sym ((bytes_eq-Decides x y).1 h) ∙ e))

cases_whole : (x y : ℤ) → (x ≡ y) ⊎ (x ≡ y → ⊥)
cases_whole x y = by_test (int_eq x y) refl
  where
    by_test : (b : Bool) → int_eq x y ≡ b → (x ≡ y) ⊎ (x ≡ y → ⊥)
    by_test true e = inl ((Decides-int_eq x y).0 e)
    by_test false e = inr (λ h. true≢false (sym ((Decides-int_eq x y).1 h) ∙ e))

cases_truth : (x y : Bool) → (x ≡ y) ⊎ (x ≡ y → ⊥)
cases_truth true true = inl refl
cases_truth false false = inl refl
cases_truth true false = inr true≢false
cases_truth false true = inr (λ h. true≢false (sym h))

cases_reading : (r q : Reading) → (r ≡ q) ⊎ (r ≡ q → ⊥)
cases_reading nothing nothing = inl refl
cases_reading (truth x) (truth y) = ⊎_elim (λ (e : x ≡ y). inl (ap truth e)) (λ (d : x ≡ y → ⊥). inr (λ h. let same : x ≡ y = cc in d same)) (cases_truth x y)
cases_reading (words x) (words y) = ⊎_elim (λ (e : x ≡ y). inl (ap words e)) (λ (d : x ≡ y → ⊥). inr (λ h. let same : x ≡ y = cc in d same)) (cases_text x y)
cases_reading (whole x) (whole y) = ⊎_elim (λ (e : x ≡ y). inl (ap whole e)) (λ (d : x ≡ y → ⊥). inr (λ h. let same : x ≡ y = cc in d same)) (cases_whole x y)
cases_reading nothing (truth y) = inr (λ h. cc)
cases_reading nothing (words y) = inr (λ h. cc)
cases_reading nothing (whole y) = inr (λ h. cc)
cases_reading (truth x) nothing = inr (λ h. cc)
cases_reading (truth x) (words y) = inr (λ h. cc)
cases_reading (truth x) (whole y) = inr (λ h. cc)
cases_reading (words x) nothing = inr (λ h. cc)
cases_reading (words x) (truth y) = inr (λ h. cc)
cases_reading (words x) (whole y) = inr (λ h. cc)
cases_reading (whole x) nothing = inr (λ h. cc)
cases_reading (whole x) (truth y) = inr (λ h. cc)
cases_reading (whole x) (words y) = inr (λ h. cc)

-- two scalars have the same reading, or they do not
cases_readings : (o p : Option Reading) → ((r : Reading) × (o ≡ Some r) × (p ≡ Some r)) ⊎ (((r : Reading) × (o ≡ Some r) × (p ≡ Some r)) → ⊥)
cases_readings None p = inr (λ h. let none : None ≡ Some h.0 = h.1 in cc)
cases_readings (Some r) None = inr (λ h. let none : None ≡ Some h.0 = h.2 in cc)
cases_readings (Some r) (Some q) = ⊎_elim
    (λ (e : r ≡ q). inl (r, refl, ap (λ (t : Reading). Some t) (sym e)))
    (λ (d : r ≡ q → ⊥). inr (λ h. let a : Some r ≡ Some h.0 = h.1 in let b : Some q ≡ Some h.0 = h.2 in let same : r ≡ q = cc in d same))
    (cases_reading r q)

-- a scalar is a number, or it is not

number_in : (a : Scalar) → ((n : json.Num) × (a ≡ of_json (json.number n))) ⊎ ((n : json.Num) → a ≡ of_json (json.number n) → ⊥)
number_in (of_toml d) = inr (λ n e. cc)
number_in (of_json json.null) = inr (λ n e. cc)
number_in (of_json (json.boolean b)) = inr (λ n e. cc)
number_in (of_json (json.number n)) = inl (n, refl)
number_in (of_json (json.string s)) = inr (λ n e. cc)
number_in (of_json (json.array ds)) = inr (λ n e. cc)
number_in (of_json (json.object ms)) = inr (λ n e. cc)

number_of : (n m : json.Num) → of_json (json.number n) ≡ of_json (json.number m) → n ≡ m
number_of n m e = cc

cases_holds : (b : Bool) → T b ⊎ (T b → ⊥)
cases_holds true = inl tt
cases_holds false = inr (λ h. h)

cases_numbers : (a b : Scalar) → SameNumbers a b ⊎ (SameNumbers a b → ⊥)
cases_numbers a b = ⊎_elim
    (λ (l : (n : json.Num) × (a ≡ of_json (json.number n))). ⊎_elim
    (λ (r : (n : json.Num) × (b ≡ of_json (json.number n))). ⊎_elim
    (λ (same : NumericallyEqual l.0 r.0). inl (l.0, r.0, l.1, r.1, same))
    (λ (other : NumericallyEqual l.0 r.0 → ⊥). inr (λ h.
    let left = number_of h.0 l.0 (sym h.2 ∙ l.1) in
    let right = number_of h.1 r.0 (sym h.3 ∙ r.1) in
    other (subst (λ (n : json.Num). NumericallyEqual n r.0) left (subst (NumericallyEqual h.0) right h.4))))
    (cases_holds (Ieee.eq (exact l.0) (exact r.0))))
    (λ (none : (n : json.Num) → b ≡ of_json (json.number n) → ⊥). inr (λ h. none h.1 h.3))
    (number_in b))
    (λ (none : (n : json.Num) → a ≡ of_json (json.number n) → ⊥). inr (λ h. none h.0 h.2))
    (number_in a)

cases_scalar : (by : Comparison) (a b : Scalar) → SameScalarBy by a b ⊎ (SameScalarBy by a b → ⊥)
cases_scalar Strict a b = cases_readings (reading a) (reading b)
cases_scalar Numeric a b = ⊎_elim
    (λ (r : SameReading a b). inl (inl r))
    (λ (none : SameReading a b → ⊥). ⊎_elim
    (λ (r : SameNumbers a b). inl (inr r))
    (λ (neither : SameNumbers a b → ⊥). inr (λ h. ⊎_elim none neither h))
    (cases_numbers a b))
    (cases_readings (reading a) (reading b))

cases_node : (by : Comparison) (a b : Option Label) → SameNodeBy by a b ⊎ (SameNodeBy by a b → ⊥)
cases_node by None None = inl tt
cases_node by None (Some l) = inr (λ h. h)
cases_node by (Some an_object) None = inr (λ h. h)
cases_node by (Some (an_array len)) None = inr (λ h. h)
cases_node by (Some (a_leaf s)) None = inr (λ h. h)
cases_node by (Some an_object) (Some an_object) = inl tt
cases_node by (Some an_object) (Some (an_array k)) = inr (λ h. h)
cases_node by (Some an_object) (Some (a_leaf t)) = inr (λ h. h)
cases_node by (Some (an_array len)) (Some an_object) = inr (λ h. h)
cases_node by (Some (an_array len)) (Some (an_array k)) = cases_eq len k
cases_node by (Some (an_array len)) (Some (a_leaf t)) = inr (λ h. h)
cases_node by (Some (a_leaf s)) (Some an_object) = inr (λ h. h)
cases_node by (Some (a_leaf s)) (Some (an_array k)) = inr (λ h. h)
cases_node by (Some (a_leaf s)) (Some (a_leaf t)) = cases_scalar by s t

-- there is a float at a node, or there is none
abbrev FloatAt : Option Label → Type 0
FloatAt o = (x : Float) × (o ≡ Some (a_leaf (of_json (json.number (json.float x)))))

cases_float : (o : Option Label) → FloatAt o ⊎ (FloatAt o → ⊥)
cases_float None = inr (λ h. let e = h.1 in cc)
cases_float (Some an_object) = inr (λ h. let e = h.1 in cc)
cases_float (Some (an_array len)) = inr (λ h. let e = h.1 in cc)
cases_float (Some (a_leaf (of_toml d))) = inr (λ h. let e = h.1 in cc)
cases_float (Some (a_leaf (of_json json.null))) = inr (λ h. let e = h.1 in cc)
cases_float (Some (a_leaf (of_json (json.boolean b)))) = inr (λ h. let e = h.1 in cc)
cases_float (Some (a_leaf (of_json (json.string s)))) = inr (λ h. let e = h.1 in cc)
cases_float (Some (a_leaf (of_json (json.array ds)))) = inr (λ h. let e = h.1 in cc)
cases_float (Some (a_leaf (of_json (json.object ms)))) = inr (λ h. let e = h.1 in cc)
cases_float (Some (a_leaf (of_json (json.number (json.unsigned k))))) = inr (λ h. let e = h.1 in cc)
cases_float (Some (a_leaf (of_json (json.number (json.negative z))))) = inr (λ h. let e = h.1 in cc)
cases_float (Some (a_leaf (of_json (json.number (json.float x))))) = inl (x, refl)

-- ---- over all paths of a list

contains_cases : (p : Path) (ps : List Path) (w : Path) → Contains (p ∷ ps) w → (p ≡ w) ⊎ Contains ps w
contains_cases p ps w h = go h.0 h.1 h.2
  where
    go : (i : ℕ) → i < length (p ∷ ps) → get_or (p ∷ ps) i w ≡ w → (p ≡ w) ⊎ Contains ps w
    go zero b e = inl e
    go (suc i) b e = inr (i, omega arith, e)

any_path : (P : Path → Type 0) → ((w : Path) → P w ⊎ (P w → ⊥)) → (ps : List Path) → ((w : Path) × P w) ⊎ ((w : Path) → Contains ps w → P w → ⊥)
any_path P decide [] = inr (λ w c p. omega (arith, c.1))
any_path P decide (q ∷ ps) = ⊎_elim
    (λ (p : P q). inl (q, p))
    (λ (d : P q → ⊥). ⊎_elim
    (λ (r : (w : Path) × P w). inl r)
    (λ (none : (w : Path) → Contains ps w → P w → ⊥). inr (λ w c. ⊎_elim (λ (e : q ≡ w). subst (λ (v : Path). P v → ⊥) e d) (λ (i : Contains ps w). none w i) (contains_cases q ps w c)))
    (any_path P decide ps))
    (decide q)

some_label : (o : Option Label) (l : Label) → o ≡ Some l → IsSome o
some_label o l e = subst (λ (q : Option Label). IsSome q) (sym e) refl

cases_has_float : (n : NodeMap) → IsListed n → HasFloat n ⊎ (HasFloat n → ⊥)
cases_has_float n h = ⊎_elim
    (λ (r : (w : Path) × FloatAt (n w)). inl (r.0, r.1.0, r.1.1))
    (λ (none : (w : Path) → Contains h.0 w → FloatAt (n w) → ⊥). inr (λ f. none f.0 (h.1 f.0 (some_label (n f.0) (a_leaf (of_json (json.number (json.float f.1)))) f.2)) (f.1, f.2)))
    (any_path (λ (w : Path). FloatAt (n w)) (λ w. cases_float (n w)) h.0)

cases_equal : (by : Comparison) (n m : NodeMap) → IsListed n → IsListed m → IsEqualBy by n m ⊎ (IsEqualBy by n m → ⊥)
cases_equal by n m h k = ⊎_elim
    (λ (r : (w : Path) × (SameNodeBy by (n w) (m w) → ⊥)). inr (λ all. r.1 (all r.0)))
    (λ (none : (w : Path) → Contains (h.0 ++ k.0) w → (SameNodeBy by (n w) (m w) → ⊥) → ⊥). inl (λ w. at none w (cases_node by (n w) (m w))))
    (any_path (λ (w : Path). SameNodeBy by (n w) (m w) → ⊥) (λ w. flip (n w) (m w) (cases_node by (n w) (m w))) (h.0 ++ k.0))
  where
    flip : (a b : Option Label) → SameNodeBy by a b ⊎ (SameNodeBy by a b → ⊥) → (SameNodeBy by a b → ⊥) ⊎ ((SameNodeBy by a b → ⊥) → ⊥)
    flip a b (inl s) = inr (λ d. d s)
    flip a b (inr d) = inl d

    neither : (a b : Option Label) → a ≡ None → b ≡ None → SameNodeBy by a b
    neither a b e f = subst (λ (o : Option Label). SameNodeBy by o b) (sym e) (subst (λ (o : Option Label). SameNodeBy by None o) (sym f) tt)

    at : ((w : Path) → Contains (h.0 ++ k.0) w → (SameNodeBy by (n w) (m w) → ⊥) → ⊥) → (w : Path) → SameNodeBy by (n w) (m w) ⊎ (SameNodeBy by (n w) (m w) → ⊥) → SameNodeBy by (n w) (m w)
    at none w (inl s) = s
    at none w (inr d) = ⊎_elim
        (λ (i : IsSome (n w)). absurd (none w (Contains-append_left h.0 k.0 w (h.1 w i)) d))
        (λ (e : n w ≡ None). ⊎_elim
        (λ (i : IsSome (m w)). absurd (none w (Contains-append_right h.0 k.0 w (k.1 w i)) d))
        (λ (f : m w ≡ None). neither (n w) (m w) e f)
        (cases_some (m w)))
        (cases_some (n w))

-- ---- a prefix of a list

cases_proper : (f p : List Text) → IsProperPrefix f p ⊎ (IsProperPrefix f p → ⊥)
cases_proper [] [] = inr (λ r. let e : [] ≡ r.0 ∷ r.1 = r.2 in cc)
cases_proper [] (t ∷ p) = inl (t, p, refl)
cases_proper (a ∷ f) [] = inr (λ r. let e : [] ≡ a ∷ (f ++ r.0 ∷ r.1) = r.2 in cc)
cases_proper (a ∷ f) (b ∷ p) = ⊎_elim
    (λ (e : a ≡ b). ⊎_elim
    (λ (r : IsProperPrefix f p). inl (r.0, r.1, subst (λ (t : Text). b ∷ p ≡ t ∷ (f ++ r.0 ∷ r.1)) (sym e) (ap (λ (l : List Text). b ∷ l) r.2)))
    (λ (d : IsProperPrefix f p → ⊥). inr (λ r. let g : b ∷ p ≡ a ∷ (f ++ r.0 ∷ r.1) = r.2 in let tail : p ≡ f ++ r.0 ∷ r.1 = cc in d (r.0, r.1, tail)))
    (cases_proper f p))
    (λ (d : a ≡ b → ⊥). inr (λ r. let g : b ∷ p ≡ a ∷ (f ++ r.0 ∷ r.1) = r.2 in let head : a ≡ b = cc in d head))
    (cases_text a b)

-- ---- operations

utf8_front : (front : List Text) (x : Text) → All IsUtf8 (front ++ x ∷ []) → All IsUtf8 front
utf8_front front x all = λ i d b. subst IsUtf8 (before front i d b) (all i d (omega (arith, length-append front (x ∷ []))))
  where
    before : (f : List Text) (i : ℕ) (d : Text) → i < length f → get_or (f ++ x ∷ []) i d ≡ get_or f i d
    before [] i d b = absurd (omega arith)
    before (t ∷ f) zero d b = refl
    before (t ∷ f) (suc i) d b = before f i d (omega arith)

abbrev pub ResolveSome : Type 0
ResolveSome = (n : NodeMap) (tokens : List Text) → IsTree n → All IsUtf8 tokens → ((m : NodeMap) × Finds n tokens m) ⊎ ((e : ResolveError) × Refuses n tokens e)

abbrev pub AssignSome : Type 0
AssignSome = (n : NodeMap) (tokens : List Text) (v : NodeMap) → IsTree n → All IsUtf8 tokens → ((m : NodeMap) × (old : Option NodeMap) × Assigns n tokens v m old) ⊎ ((e : AssignError) × RefusesAssign n tokens e)

module _ (resolve_some : ResolveSome) (assign_some : AssignSome) where
  -- a value is added, or why not
  adds_under : (n : NodeMap) (k : ℕ) (front : List Text) (x : Text) (v : NodeMap) (w : Path) (l : Label) → IsTree n → All IsUtf8 (front ++ x ∷ []) → Names n front w → n w ≡ Some l → ((m : NodeMap) × Adds n (front ++ x ∷ []) v m) ⊎ ((e : FailedOperation) × RefusesAdd n k (front ++ x ∷ []) e)
  adds_under n k front x v w an_object tree utf8 named is = inl (put n (w ++ key x ∷ []) v, inr (record { front = front; last = x; path = w; split = refl; named = named; made = subst (λ (o : Option Label). AddsUnder n w o x v (put n (w ++ key x ∷ []) v)) (sym is) refl }))
  adds_under n k front x v w (a_leaf a) tree utf8 named is = inr (no_target k pointer.Path (Unreachable (length front) (length (text front))), inl (_, refl, scalar_lacks n (front ++ x ∷ []) front x w a (length front) (length (text front)) refl named is refl refl))
  adds_under n k front x v w (an_array len) tree utf8 named is = ⊎_elim
      (λ (r : (i : ℕ) × (i < suc len) × (x ≡ dec i)). at r.0 (omega (arith, r.1), inl r.2))
      (λ (none : (i : ℕ) → i < suc len → x ≡ dec i → ⊥). ⊎_elim
      (λ (d : x ≡ codes "-"). at len (omega arith, inr (d, refl)))
      (λ (d : x ≡ codes "-" → ⊥). lacks (record { no_dash = d; no_place = λ i b. none i (omega arith) }))
      (cases_text x (codes "-")))
      (cases_dec (suc len) x)
    where
      at : (i : ℕ) → MeansPlace len x i → ((m : NodeMap) × Adds n (front ++ x ∷ []) v m) ⊎ ((e : FailedOperation) × RefusesAdd n k (front ++ x ∷ []) e)
      at i means = inl (put n w (with_place i v (sub n w)), inr (record { front = front; last = x; path = w; split = refl; named = named; made = subst (λ (o : Option Label). AddsUnder n w o x v (put n w (with_place i v (sub n w)))) (sym is) (i, means, refl) }))

      lacks : HasNoIndex len x → ((m : NodeMap) × Adds n (front ++ x ∷ []) v m) ⊎ ((e : FailedOperation) × RefusesAdd n k (front ++ x ∷ []) e)
      lacks none = ⊎_elim
          (λ (r : (m : NodeMap) × (old : Option NodeMap) × Assigns n (front ++ x ∷ []) v m old). absurd (Assigns-LandsNowhere n (front ++ x ∷ []) v r.0 r.1 (length front) (length (text front)) len x r.2 (nowhere n front x w len (length front) (length (text front)) named is none refl refl)))
          (λ (r : (e : AssignError) × RefusesAssign n (front ++ x ∷ []) e). inr (bad_place k r.0, inr (r.0, refl, place_lacks n front x w len r.0 named is r.1)))
          (assign_some n (front ++ x ∷ []) v tree utf8)

  pub adds_some : (n : NodeMap) (k : ℕ) (tokens : List Text) (v : NodeMap) → IsTree n → All IsUtf8 tokens → ((m : NodeMap) × Adds n tokens v m) ⊎ ((e : FailedOperation) × RefusesAdd n k tokens e)
  adds_some n k tokens v tree utf8 = go (cases_token tokens)
    where
      below : (front : List Text) (x : Text) → All IsUtf8 (front ++ x ∷ []) → ((m : NodeMap) × Adds n (front ++ x ∷ []) v m) ⊎ ((e : FailedOperation) × RefusesAdd n k (front ++ x ∷ []) e)
      below front x all = ⊎_elim
          (λ (r : (m : NodeMap) × Finds n front m).
          let label = the_label (n r.1.path) (Names-here n front r.1.path r.1.named) in
          adds_under n k front x v r.1.path label.0 tree all r.1.named label.1)
          (λ (r : (e : ResolveError) × Refuses n front e). inr (no_target k pointer.Path r.0, inl (r.0, refl, parent_lacks n (front ++ x ∷ []) front x r.0 refl r.1)))
          (resolve_some n front tree (utf8_front front x all))

      go : (tokens ≡ []) ⊎ ((front : List Text) × (x : Text) × (tokens ≡ front ++ x ∷ [])) → ((m : NodeMap) × Adds n tokens v m) ⊎ ((e : FailedOperation) × RefusesAdd n k tokens e)
      go (inl e) = inl (v, inl (e, refl))
      go (inr r) = subst (λ (ts : List Text). ((m : NodeMap) × Adds n ts v m) ⊎ ((e : FailedOperation) × RefusesAdd n k ts e)) (sym r.2) (below r.0 r.1 (subst (λ (ts : List Text). All IsUtf8 ts) r.2 utf8))

  takes_some : (n : NodeMap) (k : ℕ) (which : PatchPointer) (tokens : List Text) → IsTree n → All IsUtf8 tokens → ((v m : NodeMap) × Takes n tokens v m) ⊎ ((e : FailedOperation) × RefusesTarget n k which tokens e)
  takes_some n k which tokens tree utf8 = ⊎_elim
      (λ (r : (m : NodeMap) × Finds n tokens m).
      let gone = Deletes-some n (nodes json.null) tokens tree in
      inl (r.0, gone.0, record { found = r.1; left = gone.1 }))
      (λ (r : (e : ResolveError) × Refuses n tokens e). inr (no_target k which r.0, (r.0, refl, r.1)))
      (resolve_some n tokens tree utf8)

  tests_some : (by : Comparison) (n : NodeMap) (k : ℕ) (tokens : List Text) (v : NodeMap) → IsDocument n → IsListed v → All IsUtf8 tokens → PassesBy by n tokens v ⊎ ((e : FailedOperation) × RefusesTestBy by n k tokens v e)
  tests_some by n k tokens v document listed utf8 = ⊎_elim
      (λ (r : (m : NodeMap) × Finds n tokens m). found by r.0 r.1 (subst IsListed (sym r.1.below) (IsListed-sub n r.1.path document.1)))
      (λ (r : (e : ResolveError) × Refuses n tokens e). inr (no_target k pointer.Path r.0, inl (r.0, refl, r.1)))
      (resolve_some n tokens document.0 utf8)
    where
      found : (by : Comparison) (t : NodeMap) → Finds n tokens t → IsListed t → PassesBy by n tokens v ⊎ ((e : FailedOperation) × RefusesTestBy by n k tokens v e)
      found Strict t f finite = ⊎_elim
          (λ (a : HasFloat t). inr (test_float k, inr (inl (refl, t, f, inl a))))
          (λ (a : HasFloat t → ⊥). ⊎_elim
          (λ (b : HasFloat v). inr (test_float k, inr (inl (refl, t, f, inr b))))
          (λ (b : HasFloat v → ⊥). ⊎_elim
          (λ (s : IsEqual t v). inl (t, record { found = f; target_plain = a; value_plain = b }, s))
          (λ (d : IsEqual t v → ⊥). inr (test_failed k, inr (inr (refl, t, record { found = f; target_plain = a; value_plain = b }, d))))
          (cases_equal Strict t v finite listed))
          (cases_has_float v listed))
          (cases_has_float t finite)
      found Numeric t f finite = ⊎_elim
          (λ (s : IsEqualBy Numeric t v). inl (t, f, s))
          (λ (d : IsEqualBy Numeric t v → ⊥). inr (test_failed k, inr (refl, t, f, d)))
          (cases_equal Numeric t v finite listed)

  pub applies_some : (by : Comparison) (n : NodeMap) (k : ℕ) (o : Operation) → IsDocument n → IsOperation o → ((m : NodeMap) × AppliesBy by n o m) ⊎ ((e : FailedOperation) × RefusesOperationBy by n k o e)
  applies_some by n k (Add path value) document utf8 = adds_some n k path (nodes (view value)) document.0 utf8
  applies_some by n k (Remove path) document utf8 = ⊎_elim
      (λ (r : (v m : NodeMap) × Takes n path v m). inl (r.1, (r.0, r.2)))
      (λ (r : (e : FailedOperation) × RefusesTarget n k pointer.Path path e). inr r)
      (takes_some n k pointer.Path path document.0 utf8)
  applies_some by n k (Replace path value) document utf8 = ⊎_elim
      (λ (r : (m : NodeMap) × Finds n path m). inl (put n r.1.path (nodes (view value)), record { path = r.1.path; named = r.1.named; made = refl }))
      (λ (r : (e : ResolveError) × Refuses n path e). inr (no_target k pointer.Path r.0, (r.0, refl, r.1)))
      (resolve_some n path document.0 utf8)
  applies_some by n k (Move from path) document utf8 = ⊎_elim
      (λ (f : IsProperPrefix from path). inr (move_into_self k, inl (refl, f)))
      (λ (apart : IsProperPrefix from path → ⊥). ⊎_elim
      (λ (r : (v m : NodeMap) × Takes n from v m). ⊎_elim
      (λ (a : (m : NodeMap) × Adds r.1 path r.0 m). inl (a.0, record { node = r.0; left = r.1; apart = apart; taken = r.2; added = a.1 }))
      (λ (a : (e : FailedOperation) × RefusesAdd r.1 k path e). inr (a.0, inr (apart, inr (r.0, r.1, r.2, a.1))))
      (adds_some r.1 k path r.0 ((takes_tree n from r.0 r.1 document.0 r.2).1) utf8.1))
      (λ (r : (e : FailedOperation) × RefusesTarget n k pointer.From from e). inr (r.0, inr (apart, inl r.1)))
      (takes_some n k pointer.From from document.0 utf8.0))
      (cases_proper from path)
  applies_some by n k (Copy from path) document utf8 = ⊎_elim
      (λ (r : (m : NodeMap) × Finds n from m). ⊎_elim
      (λ (a : (m : NodeMap) × Adds n path r.0 m). inl (a.0, record { node = r.0; found = r.1; added = a.1 }))
      (λ (a : (e : FailedOperation) × RefusesAdd n k path e). inr (a.0, inr (r.0, r.1, a.1)))
      (adds_some n k path r.0 document.0 utf8.1))
      (λ (r : (e : ResolveError) × Refuses n from e). inr (no_target k pointer.From r.0, inl (r.0, refl, r.1)))
      (resolve_some n from document.0 utf8.0)
  applies_some by n k (Test path value) document utf8 = ⊎_elim
      (λ (p : PassesBy by n path (nodes (view value))). inl (n, (p, refl)))
      (λ (r : (e : FailedOperation) × RefusesTestBy by n k path (nodes (view value)) e). inr r)
      (tests_some by n k path (nodes (view value)) document (map_of-finite (content (view value))) utf8)
