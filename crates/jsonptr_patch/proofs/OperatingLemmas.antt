-- Whole operations, and lists of them.
use Rattle.std.proofs.Common.{◌≡◌, ℕ, ◌<◌, inl, inr, List, [], ◌∷◌, ◌++◌, length, get_or, Result, Ok, Err, IfOk, OnErr, refl, sym, ap, ◌∙◌, subst, arith, append_assoc, length-append}
use Rattle.std.specs.Prelude.{All}
use Rattle.std.proofs.lemmas.List.{get_or_append_left}
use Rattle.std.proofs.Math.Seq.{get_or-append_seam}
use Rattle.serde_json.specs.Data.{Data}
use Rattle.serde_json.specs.View.{view}
use Rattle.serde_json.specs.declared.value.Value.{Value}
use Rattle.jsonptr.specs.Fault.{IfRefused, ForRefused}
use Rattle.jsonptr.specs.Text.{Text}
use Rattle.jsonptr.specs.Types.Fault.{Fault}
use Rattle.jsonptr.specs.Types.Fault.TheVariants.{Refused, Memory}
use Rattle.jsonptr.specs.Node.{NodeMap}
use Rattle.jsonptr.specs.Json.{nodes, FindsValue}
use Rattle.jsonptr_tree.proofs.JsonLemmas.{FindsValue-Finds}
use Rattle.jsonptr_patch.specs.Operating.{Takes, IsProperPrefix, Passes, PassesBy, Applies, AppliesBy, RefusesAdd, RefusesMove, RefusesTest, RefusesTestBy, RefusesOperationBy}
use Rattle.jsonptr_patch.specs.Patching.{Patches, PatchesBy, FailsBy}
use Rattle.jsonptr_patch.specs.PrivateTesting.{IsPlain, RefusesCompare, SameValue, SameValueBy, DiffersNumerically}
use Rattle.jsonptr_patch.specs.declared.operation.Operation.{Operation}
use Rattle.jsonptr_patch.specs.declared.failed_operation.FailedOperation.{FailedOperation}
use Rattle.jsonptr_patch.specs.declared.comparison.Comparison.{Comparison}
use Rattle.jsonptr_patch.specs.declared.comparison.Comparison.TheVariants.{Strict, Numeric}

-- tests

pub test_passes : {T : Type 0} (d : Data) (tokens : List Text) (v w : Value) (r : Result T (Fault FailedOperation)) → FindsValue d tokens (view v) → IfOk r (λ _. IsPlain v × IsPlain w × SameValue v w) → IfOk r (λ _. Passes (nodes d) tokens (nodes (view w)))
test_passes d tokens v w (Ok t) found h = (nodes (view v), record { found = FindsValue-Finds d tokens (view v) found; target_plain = h.0; value_plain = h.1 }, h.2)
test_passes d tokens v w (Err e) found h = tt

pub test_refused : {T : Type 0} (d : Data) (k : ℕ) (tokens : List Text) (v w : Value) (r : Result T (Fault FailedOperation)) → FindsValue d tokens (view v) → IfRefused r (RefusesCompare k v w) → IfRefused r (RefusesTest (nodes d) k tokens (nodes (view w)))
test_refused d k tokens v w (Ok t) found h = tt
test_refused d k tokens v w (Err (Memory e)) found h = tt
test_refused d k tokens v w (Err (Refused e)) found (inl h) = inr (inl (h.0, nodes (view v), FindsValue-Finds d tokens (view v) found, h.1))
test_refused d k tokens v w (Err (Refused e)) found (inr h) = inr (inr (h.0, nodes (view v), record { found = FindsValue-Finds d tokens (view v) found; target_plain = h.1; value_plain = h.2 }, h.3))

pub test_passes_numerically : {T : Type 0} (d : Data) (tokens : List Text) (v w : Value) (r : Result T (Fault FailedOperation)) → FindsValue d tokens (view v) → IfOk r (λ _. SameValueBy Numeric v w) → IfOk r (λ _. PassesBy Numeric (nodes d) tokens (nodes (view w)))
test_passes_numerically d tokens v w (Ok t) found h = (nodes (view v), FindsValue-Finds d tokens (view v) found, h)
test_passes_numerically d tokens v w (Err e) found h = tt

pub test_refused_numerically : {T : Type 0} (d : Data) (k : ℕ) (tokens : List Text) (v w : Value) (r : Result T (Fault FailedOperation)) → FindsValue d tokens (view v) → IfRefused r (DiffersNumerically k v w) → IfRefused r (RefusesTestBy Numeric (nodes d) k tokens (nodes (view w)))
test_refused_numerically d k tokens v w (Ok t) found h = tt
test_refused_numerically d k tokens v w (Err (Memory e)) found h = tt
test_refused_numerically d k tokens v w (Err (Refused e)) found h = inr (h.0, nodes (view v), FindsValue-Finds d tokens (view v) found, h.1)

-- lists

-- one operation more
pub patches_push_by : (by : Comparison) (n m k : NodeMap) (os : List Operation) (o : Operation) → PatchesBy by n os m → AppliesBy by m o k → PatchesBy by n (os ++ o ∷ []) k
patches_push_by by n m k [] o h a = (k, subst (λ (l : NodeMap). AppliesBy by l o k) h a, refl)
patches_push_by by n m k (p ∷ os) o h a = (h.0, h.1, patches_push_by by h.0 m k os o h.2 a)

pub patches_push : (n m k : NodeMap) (os : List Operation) (o : Operation) → Patches n os m → Applies m o k → Patches n (os ++ o ∷ []) k
patches_push n m k os o h a = patches_push_by Strict n m k os o h a

-- the next operation fails
pub refused_next : (by : Comparison) (n m : NodeMap) (all os rest : List Operation) (o : Operation) (e : FailedOperation) → all ≡ os ++ o ∷ rest → PatchesBy by n os m → RefusesOperationBy by m (length os) o e → FailsBy by n all e
refused_next by n m all os rest o e split done refused = record {
  done = os;
  fails = o;
  rest = rest;
  left = m;
  split = split;
  applied = done;
  refused = refused;
}

-- what holds of all operations holds of each
pub each_at : (P : Operation → Type 0) (all os rest : List Operation) (o : Operation) → All P all → os ++ o ∷ rest ≡ all → P o
each_at P all os rest o h is =
    let below : length os < length all = omega (arith, ap (λ (l : List Operation). length l) is, length-append os (o ∷ rest)) in
    let here : get_or all (length os) o ≡ o = ap (λ (l : List Operation). get_or l (length os) o) (sym is) ∙ get_or-append_seam os o rest o in
    subst P here (h (length os) o below)

pub all_but_last : (P : Operation → Type 0) (all os : List Operation) (o : Operation) → All P all → all ≡ os ++ o ∷ [] → All P os
all_but_last P all os o h is = λ i d low.
    let more : i < length all = omega (arith, ap (λ (l : List Operation). length l) is, length-append os (o ∷ [])) in
    let same : get_or all i d ≡ get_or os i d = ap (λ (l : List Operation). get_or l i d) is ∙ get_or_append_left os (o ∷ []) d i low in
    subst P same (h i d more)

-- a list that fails also fails with more operations after it
pub refused_longer : (by : Comparison) (n : NodeMap) (os more : List Operation) (e : FailedOperation) → FailsBy by n os e → FailsBy by n (os ++ more) e
refused_longer by n os more e r = record {
  done = r.done;
  fails = r.fails;
  rest = r.rest ++ more;
  left = r.left;
  split = ap (λ (l : List Operation). l ++ more) r.split ∙ append_assoc r.done (r.fails ∷ r.rest) more;
  applied = r.applied;
  refused = r.refused;
}

-- results

pub ok_all : {T E : Type 0} (r : Result T E) (P Q : Type 0) → (P → Q) → IfOk r (λ _. P) → IfOk r (λ _. Q)
ok_all (Ok t) P Q all h = all h
ok_all (Err e) P Q all h = tt

pub ok_each : {T E : Type 0} (r : Result T E) (P Q : T → Type 0) → ((t : T) → P t → Q t) → IfOk r P → IfOk r Q
ok_each (Ok t) P Q all h = all t h
ok_each (Err e) P Q all h = tt

pub on_err : {T E : Type 0} (r : Result T E) (P : Type 0) → P → OnErr r P
on_err (Ok t) P h = tt
on_err (Err e) P h = h

-- errors

pub for_refused : (T : Type 0) {E : Type 0} (fault : Fault E) (P Q : E → Type 0) → ((e : E) → P e → Q e) → ForRefused fault P → IfRefused {T = T} (Err fault) Q
for_refused T (Refused e) P Q all h = all e h
for_refused T (Memory e) P Q all h = tt

pub refused_all : {T E : Type 0} (r : Result T (Fault E)) (P Q : E → Type 0) → ((e : E) → P e → Q e) → IfRefused r P → IfRefused r Q
refused_all (Ok t) P Q all h = tt
refused_all (Err (Refused e)) P Q all h = all e h
refused_all (Err (Memory e)) P Q all h = tt

pub left_refused : (n node left : NodeMap) (k : ℕ) (from path : List Text) (e : FailedOperation) → (IsProperPrefix from path → ⊥) → Takes n from node left → RefusesAdd left k path e → RefusesMove n k from path e
left_refused n node left k from path e apart taken h = inr (apart, inr (node, left, taken, h))

pub way_refused : {T : Type 0} (n : NodeMap) (k : ℕ) (f p from path : List Text) (r : Result T (Fault FailedOperation)) → f ≡ from → p ≡ path → IfRefused r (RefusesMove n k f p) → IfRefused r (RefusesMove n k from path)
way_refused {T} n k f p from path r is_from is_path h = subst (λ (q : List Text). IfRefused r (RefusesMove n k from q)) is_path (subst (λ (q : List Text). IfRefused r (RefusesMove n k q p)) is_from h)
