-- Two lists of operations that a document is make the same text, and fail with the same error.
use Rattle.std.proofs.Common.{◌≡◌, ℕ, suc, List, [], ◌∷◌, ◌++◌, length, All, refl, sym, ap, subst}
use Rattle.std.proofs.lemmas.List.Elements.{All-nil, All-cons, All-head, All-tail}
use Rattle.serde_json.specs.Data.{Data}
use Rattle.serde_json.specs.View.{view}
use Rattle.jsonptr.specs.Json.{nodes, HasSortedKeys}
use Rattle.jsonptr.specs.Node.{NodeMap}
use Rattle.jsonptr.specs.Text.{Text}
use Rattle.jsonptr_patch.specs.Operating.{RefusesOperationBy, RefusesAdd, RefusesTarget, RefusesMove, RefusesCopy, RefusesTestBy}
use Rattle.jsonptr_patch.specs.Order.{OperationHasSortedKeys}
use Rattle.jsonptr_patch.specs.Patching.{FailsBy}
use Rattle.jsonptr_patch.specs.declared.comparison.Comparison.TheVariants.{Numeric}
use Rattle.jsonptr_patch.specs.declared.failed_operation.FailedOperation.{FailedOperation}
use Rattle.jsonptr_patch.specs.declared.failed_operation.PatchPointer.TheVariants as pointer
use Rattle.jsonptr_patch.specs.declared.operation.Operation.{Operation}
use Rattle.jsonptr_patch.specs.declared.operation.Operation.TheVariants.{Add, Remove, Replace, Move, Copy, Test}
use Rattle.jsonptr_patch_document.specs.Same.{IsSameOperation, AreSameOperations}
use Rattle.jsonptr_patch_document.proofs.SameLemmas.{same_effects}
use Rattle.jsonptr_text_step.specs.PatchInText.{PatchesInText, IsPatchError}
use Rattle.jsonptr_text_step.specs.declared.stepped.StepError.{StepError as KindError}
use Rattle.jsonptr_text_step.specs.declared.stepped.StepError.TheVariants as kind

-- what holds of two pointers, or of a pointer and a value, holds of the same ones
both : {A B : Type 0} (P : A → B → Type 0) (a b : A) (v w : B) → a ≡ b → v ≡ w → P a v → P b w
both P a b v w p q h = subst (P b) q (subst (λ x. P x v) p h)

-- the same operation fails with the same error
refused_same : (n : NodeMap) (k : ℕ) (o p : Operation) (e : FailedOperation) → IsSameOperation o p → RefusesOperationBy Numeric n k o e → RefusesOperationBy Numeric n k p e
refused_same n k (Add path v) (Add other w) e s h = subst (λ (ts : List Text). RefusesAdd n k ts e) s.0 h
refused_same n k (Remove path) (Remove other) e s h = subst (λ (ts : List Text). RefusesTarget n k pointer.Path ts e) s h
refused_same n k (Replace path v) (Replace other w) e s h = subst (λ (ts : List Text). RefusesTarget n k pointer.Path ts e) s.0 h
refused_same n k (Move from path) (Move source other) e s h = both (λ (ts us : List Text). RefusesMove n k ts us e) from source path other s.0 s.1 h
refused_same n k (Copy from path) (Copy source other) e s h = both (λ (ts us : List Text). RefusesCopy n k ts us e) from source path other s.0 s.1 h
refused_same n k (Test path v) (Test other w) e s h = both (λ (ts : List Text) (d : Data). RefusesTestBy Numeric n k ts (nodes d) e) path other (view v) (view w) s.0 s.1 h
refused_same n k o p e s h = absurd s

-- a list of the same operations as one in two parts has two such parts
split_same : (ps done : List Operation) (o : Operation) (rest : List Operation) → AreSameOperations (done ++ o ∷ rest) ps → (before : List Operation) × (p : Operation) × (after : List Operation)
    × (ps ≡ before ++ p ∷ after)
    × AreSameOperations done before
    × IsSameOperation o p
    × (length done ≡ length before)
split_same [] [] o rest s = absurd s
split_same [] (d ∷ done) o rest s = absurd s
split_same (p ∷ ps) [] o rest s = ([], p, ps, refl, tt, s.0, refl)
split_same (p ∷ ps) (d ∷ done) o rest s =
    let r = split_same ps done o rest s.1 in
    (p ∷ r.0, r.1, r.2, ap (λ (l : List Operation). p ∷ l) r.3, (s.0, r.4), r.5, ap suc r.6)

-- the same operations fail with the same error
patch_refused_same : (n : NodeMap) (os ps : List Operation) (e : FailedOperation) → AreSameOperations os ps → FailsBy Numeric n os e → FailsBy Numeric n ps e
patch_refused_same n os ps e s h =
    let r = split_same ps h.done h.fails h.rest (subst (λ (l : List Operation). AreSameOperations l ps) h.split s) in
    record {
      done = r.0;
      fails = r.1;
      rest = r.2;
      left = h.left;
      split = r.3;
      applied = same_effects Numeric n h.left h.done r.0 r.4 h.applied;
      refused = refused_same h.left (length r.0) h.fails r.1 e r.5 (subst (λ (k : ℕ). RefusesOperationBy Numeric h.left k h.fails e) r.6 h.refused);
    }

-- the same value has sorted keys
value_sorted : (o p : Operation) → IsSameOperation o p → OperationHasSortedKeys p → OperationHasSortedKeys o
value_sorted (Add path v) (Add other w) s h = subst HasSortedKeys (sym s.1) h
value_sorted (Remove path) (Remove other) s h = tt
value_sorted (Replace path v) (Replace other w) s h = subst HasSortedKeys (sym s.1) h
value_sorted (Move from path) (Move source other) s h = tt
value_sorted (Copy from path) (Copy source other) s h = tt
value_sorted (Test path v) (Test other w) s h = tt
value_sorted o p s h = absurd s

values_sorted : (os ps : List Operation) → AreSameOperations os ps → All OperationHasSortedKeys ps → All OperationHasSortedKeys os
values_sorted [] [] s h = All-nil OperationHasSortedKeys
values_sorted [] (p ∷ ps) s h = absurd s
values_sorted (o ∷ os) [] s h = absurd s
values_sorted (o ∷ os) (p ∷ ps) s h =
    All-cons OperationHasSortedKeys o os
    (value_sorted o p s.0 (All-head OperationHasSortedKeys p ps h))
    (values_sorted os ps s.1 (All-tail OperationHasSortedKeys p ps h))

-- the same operations make the same text
pub patches_same : (old new : Text) (os ps : List Operation) → AreSameOperations os ps → PatchesInText old os new → PatchesInText old ps new
patches_same old new os ps s h = (h.0, h.1, h.2, h.3, same_effects Numeric (nodes h.0) (nodes h.1) os ps s h.4)

-- and fail with the same error
pub patch_error_same : (old : Text) (os ps : List Operation) (e : KindError FailedOperation) → AreSameOperations os ps → IsPatchError old os e → IsPatchError old ps e
patch_error_same old os ps kind.NotJson s h = h
patch_error_same old os ps (kind.Refused f) s h = (h.0, h.1, patch_refused_same (nodes h.0) os ps f s h.2)
patch_error_same old os ps kind.TooDeep s h = (h.0, h.1, h.2, same_effects Numeric (nodes h.0) h.1 os ps s h.3, λ sorted. h.4 (values_sorted os ps s sorted))
patch_error_same old os ps (kind.Memory f) s h = tt
