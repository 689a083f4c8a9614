-- How strict tests and numerical ones are related.
use Rattle.std.proofs.Common.{◌≡◌, ◌↔◌, ℕ, ℤ, pos, inl, inr, List, [], ◌∷◌, length, Option, Some, None, option_map, Float, refl, sym, ap, ◌∙◌, subst}
use Rattle.serde_json.specs.Data.{Num, unsigned, negative, float, number}
use Rattle.serde_json.specs.Find.{as_integer}
use Rattle.serde_json.specs.View.{view}
use Rattle.jsonptr.specs.Node.{Scalar, of_json, Label, an_object, an_array, a_leaf, NodeMap}
use Rattle.jsonptr.specs.Json.{nodes}
use Rattle.jsonptr_patch.specs.Failing.{failed}
use Rattle.jsonptr_patch.specs.Operating.{Applies, AppliesBy, RefusesOperation, RefusesOperationBy}
use Rattle.jsonptr_patch.specs.Patching.{Patches, PatchesBy, FailsBy, RefusesPatch, RefusesPatchBy}
use Rattle.jsonptr_patch.specs.Testing.{whole, SameReading, NumericallyEqual, SameNodeBy, IsEqual, IsEqualBy, HasFloat}
use Rattle.jsonptr_patch.specs.declared.comparison.Comparison.TheVariants.{Strict, Numeric}
use Rattle.jsonptr_patch.specs.declared.operation.Operation.{Operation}
use Rattle.jsonptr_patch.specs.declared.operation.Operation.TheVariants.{Add, Remove, Replace, Move, Copy, Test}
use Rattle.jsonptr_patch.specs.declared.failed_operation.FailedOperation.{FailedOperation}
use Rattle.jsonptr_patch.specs.declared.operation.PatchError.{PatchError}
use Rattle.jsonptr_patch.specs.declared.operation.PatchError.TheVariants.{TestFloat}
use Rattle.jsonptr_patch.proofs.NumberLemmas.{integers_equal, whole_numbers}

-- two integers
pub integers_same : (a b : Num) (z w : ℤ) → as_integer a ≡ Some z → as_integer b ≡ Some w → NumericallyEqual a b ↔ (z ≡ w)
integers_same a b z w left right = (whole_numbers a b z w left right, λ same. integers_equal a b z left (right ∙ ap (λ (v : ℤ). Some v) (sym same)))

-- equal nodes

strict_node : (l k : Option Label) → SameNodeBy Strict l k → SameNodeBy Numeric l k
strict_node None None h = tt
strict_node None (Some k) h = absurd h
strict_node (Some an_object) None h = absurd h
strict_node (Some an_object) (Some an_object) h = tt
strict_node (Some an_object) (Some (an_array k)) h = absurd h
strict_node (Some an_object) (Some (a_leaf b)) h = absurd h
strict_node (Some (an_array len)) None h = absurd h
strict_node (Some (an_array len)) (Some an_object) h = absurd h
strict_node (Some (an_array len)) (Some (an_array k)) h = h
strict_node (Some (an_array len)) (Some (a_leaf b)) h = absurd h
strict_node (Some (a_leaf a)) None h = absurd h
strict_node (Some (a_leaf a)) (Some an_object) h = absurd h
strict_node (Some (a_leaf a)) (Some (an_array k)) h = absurd h
strict_node (Some (a_leaf a)) (Some (a_leaf b)) h = inl h

pub strict_equal : (n m : NodeMap) → IsEqual n m → IsEqualBy Numeric n m
strict_equal n m h w = strict_node (n w) (m w) (h w)

-- `IsNoFloat l`: a node with this label is no float
abbrev IsNoFloat : Option Label → Type 0
IsNoFloat l = (x : Float) → l ≡ Some (a_leaf (of_json (number (float x)))) → ⊥

integer_of : (a : Num) → ((x : Float) → a ≡ float x → ⊥) → (z : ℤ) × (as_integer a ≡ Some z)
integer_of (unsigned n) none = (pos n, refl)
integer_of (negative z) none = (z, refl)
integer_of (float x) none = absurd (none x refl)

plain_numbers : (a b : Num) → ((x : Float) → a ≡ float x → ⊥) → ((x : Float) → b ≡ float x → ⊥) → NumericallyEqual a b → SameReading (of_json (number a)) (of_json (number b))
plain_numbers a b none_a none_b h =
    let left = integer_of a none_a in
    let right = integer_of b none_b in
    let same = whole_numbers a b left.0 right.0 left.1 right.1 h in
    (whole left.0, ap (option_map whole) left.1, ap (option_map whole) (right.1 ∙ ap (λ (v : ℤ). Some v) (sym same)))

plain_node : (l k : Option Label) → IsNoFloat l → IsNoFloat k → SameNodeBy Numeric l k → SameNodeBy Strict l k
plain_node None None p q h = tt
plain_node None (Some k) p q h = absurd h
plain_node (Some an_object) None p q h = absurd h
plain_node (Some an_object) (Some an_object) p q h = tt
plain_node (Some an_object) (Some (an_array k)) p q h = absurd h
plain_node (Some an_object) (Some (a_leaf b)) p q h = absurd h
plain_node (Some (an_array len)) None p q h = absurd h
plain_node (Some (an_array len)) (Some an_object) p q h = absurd h
plain_node (Some (an_array len)) (Some (an_array k)) p q h = h
plain_node (Some (an_array len)) (Some (a_leaf b)) p q h = absurd h
plain_node (Some (a_leaf a)) None p q h = absurd h
plain_node (Some (a_leaf a)) (Some an_object) p q h = absurd h
plain_node (Some (a_leaf a)) (Some (an_array k)) p q h = absurd h
plain_node (Some (a_leaf a)) (Some (a_leaf b)) p q (inl h) = h
plain_node (Some (a_leaf a)) (Some (a_leaf b)) p q (inr h) =
    let read = plain_numbers h.0 h.1
    (λ x is. p x (ap (λ (s : Scalar). Some (a_leaf s)) (h.2 ∙ ap (λ (n : Num). of_json (number n)) is)))
    (λ x is. q x (ap (λ (s : Scalar). Some (a_leaf s)) (h.3 ∙ ap (λ (n : Num). of_json (number n)) is)))
    h.4 in
    subst (λ (s : Scalar). SameReading s b) (sym h.2) (subst (λ (s : Scalar). SameReading (of_json (number h.0)) s) (sym h.3) read)

pub plain_equal : (n m : NodeMap) → (HasFloat n → ⊥) → (HasFloat m → ⊥) → IsEqualBy Numeric n m → IsEqual n m
plain_equal n m p q h w = plain_node (n w) (m w) (λ x is. p (w, x, is)) (λ x is. q (w, x, is)) (h w)

-- operations

numeric_applies : (n m : NodeMap) (o : Operation) → Applies n o m → AppliesBy Numeric n o m
numeric_applies n m (Add path value) a = a
numeric_applies n m (Remove path) a = a
numeric_applies n m (Replace path value) a = a
numeric_applies n m (Move from path) a = a
numeric_applies n m (Copy from path) a = a
numeric_applies n m (Test path value) a =
    let p = a.0 in
    ((p.0, p.1.found, strict_equal p.0 (nodes (view value)) p.2), a.1)

pub numeric_patches : (n m : NodeMap) (os : List Operation) → Patches n os m → PatchesBy Numeric n os m
numeric_patches n m [] h = h
numeric_patches n m (o ∷ os) h = (h.0, numeric_applies n h.0 o h.1, numeric_patches h.0 m os h.2)

numeric_refuses : (n : NodeMap) (i : ℕ) (o : Operation) (e : FailedOperation) → RefusesOperation n i o e → ((k : ℕ) → e.error ≡ TestFloat k → ⊥) → RefusesOperationBy Numeric n i o e
numeric_refuses n i (Add path value) e r other = r
numeric_refuses n i (Remove path) e r other = r
numeric_refuses n i (Replace path value) e r other = r
numeric_refuses n i (Move from path) e r other = r
numeric_refuses n i (Copy from path) e r other = r
numeric_refuses n i (Test path value) e (inl r) other = inl r
numeric_refuses n i (Test path value) e (inr (inl r)) other = absurd (other i (ap (λ (f : FailedOperation). f.error) r.0))
numeric_refuses n i (Test path value) e (inr (inr r)) other = inr (r.0, r.1, r.2.found, λ same. r.3 (plain_equal r.1 (nodes (view value)) r.2.target_plain r.2.value_plain same))

pub numeric_fails : (n : NodeMap) (os : List Operation) (e : FailedOperation) → FailsBy Strict n os e → ((k : ℕ) → e.error ≡ TestFloat k → ⊥) → FailsBy Numeric n os e
numeric_fails n os e r other = record {
  done = r.done;
  fails = r.fails;
  rest = r.rest;
  left = r.left;
  split = r.split;
  applied = numeric_patches n r.left r.done r.applied;
  refused = numeric_refuses r.left (length r.done) r.fails e r.refused other;
}

pub numeric_refused : (n : NodeMap) (os : List Operation) (e : PatchError) → RefusesPatch n os e → ((k : ℕ) → e ≡ TestFloat k → ⊥) → RefusesPatchBy Numeric n os e
numeric_refused n os e r other = (r.0, numeric_fails n os (failed e r.0) r.1 other)
