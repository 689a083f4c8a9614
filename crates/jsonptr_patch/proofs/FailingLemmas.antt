-- Operations that fail: the error alone, and the pointer at fault.
use Rattle.std.proofs.Common.{◌≡◌, ◌↔◌, inl, inr, ℕ, List, ◌∷◌, ◌++◌, Option, Some, None, length, refl, sym, ap, ◌∙◌, subst}
use Rattle.std.specs.Prelude.{IsSome, Err}
use Rattle.jsonptr.specs.Fault.{IfRefused, HasMemory}
use Rattle.jsonptr.specs.Following.{Finds}
use Rattle.jsonptr.specs.Node.{NodeMap}
use Rattle.jsonptr.specs.Resolve.{Refuses}
use Rattle.jsonptr.specs.Text.{Text}
use Rattle.jsonptr.specs.Types.Fault.{Fault}
use Rattle.jsonptr.specs.Types.Fault.TheVariants.{Refused, Memory}
use Rattle.jsonptr.specs.declared.resolve.Error.{Error as ResolveError}
use Rattle.serde_json.specs.View.{view}
use Rattle.jsonptr.specs.Json.{nodes}
use Rattle.jsonptr_patch.specs.Failing.{failed, HasCause, source_of, without_pointer}
use Rattle.jsonptr_patch.specs.Operating.{RefusesAdd, RefusesComparing, RefusesOperationBy}
use Rattle.jsonptr_patch.specs.Patching.{PatchesBy, FailsBy, RefusesPatchBy}
use Rattle.jsonptr_patch.specs.declared.comparison.Comparison.{Comparison}
use Rattle.jsonptr_patch.specs.declared.comparison.Comparison.TheVariants.{Strict, Numeric}
use Rattle.jsonptr_patch.specs.declared.failed_operation.FailedOperation.{FailedOperation}
use Rattle.jsonptr_patch.specs.declared.failed_operation.PatchPointer.{PatchPointer}
use Rattle.jsonptr_patch.specs.declared.failed_operation.PatchPointer.TheVariants as pointer
use Rattle.jsonptr_patch.specs.declared.operation.Operation.{Operation}
use Rattle.jsonptr_patch.specs.declared.operation.Operation.TheVariants.{Add, Remove, Replace, Move, Copy, Test}
use Rattle.jsonptr_patch.specs.declared.operation.PatchError.{PatchError}
use Rattle.jsonptr_patch.specs.declared.operation.PatchError.TheVariants.{NoTarget}

-- the error alone

pub refused_alone : (T : Type 0) (c : Comparison) (n : NodeMap) (os : List Operation) (fault : Fault FailedOperation) → IfRefused {T = T} (Err fault) (FailsBy c n os) → IfRefused {T = T} (Err (without_pointer fault)) (RefusesPatchBy c n os)
refused_alone T c n os (Refused f) r = (f.pointer, r)
refused_alone T c n os (Memory e) r = tt

pub memory_alone : (T : Type 0) (fault : Fault FailedOperation) → HasMemory {T = T} (Err fault) → HasMemory {T = T} (Err (without_pointer fault))
memory_alone T (Refused f) h = tt
memory_alone T (Memory e) h = h

pub refused_as : (T : Type 0) (c : Comparison) (n : NodeMap) (os : List Operation) (fault : Fault FailedOperation) (alone : Fault PatchError) → alone ≡ without_pointer fault → IfRefused {T = T} (Err fault) (FailsBy c n os) → IfRefused {T = T} (Err alone) (RefusesPatchBy c n os)
refused_as T c n os fault alone is r = subst (λ (f : Fault PatchError). IfRefused {T = T} (Err f) (RefusesPatchBy c n os)) (sym is) (refused_alone T c n os fault r)

pub memory_as : (T : Type 0) (fault : Fault FailedOperation) (alone : Fault PatchError) → alone ≡ without_pointer fault → HasMemory {T = T} (Err fault) → HasMemory {T = T} (Err alone)
memory_as T fault alone is h = subst (λ (f : Fault PatchError). HasMemory {T = T} (Err f)) (sym is) (memory_alone T fault h)

-- which pointer is at fault

pointer_of : {f : FailedOperation} {e : PatchError} {at : Option PatchPointer} → f ≡ failed e at → f.pointer ≡ at
pointer_of is = ap (λ (g : FailedOperation). g.pointer) is

error_of : {f : FailedOperation} {e : PatchError} {at : Option PatchPointer} → f ≡ failed e at → f.error ≡ e
error_of is = ap (λ (g : FailedOperation). g.error) is

other : {A : Type 0} (f : FailedOperation) → f.pointer ≡ Some pointer.Path → f.pointer ≡ Some pointer.From → A
other f a b = let same : Some pointer.Path ≡ Some pointer.From = sym a ∙ b in cc

nowhere : {A : Type 0} (f : FailedOperation) (at : PatchPointer) → f.pointer ≡ None → f.pointer ≡ Some at → A
nowhere f at a b = let same : None ≡ Some at = sym a ∙ b in cc

add_path : (n : NodeMap) (k : ℕ) (tokens : List Text) (f : FailedOperation) → RefusesAdd n k tokens f → f.pointer ≡ Some pointer.Path
add_path n k tokens f (inl h) = pointer_of h.1
add_path n k tokens f (inr h) = pointer_of h.1

compared_nowhere : (c : Comparison) (n : NodeMap) (k : ℕ) (tokens : List Text) (v : NodeMap) (f : FailedOperation) → RefusesComparing c n k tokens v f → f.pointer ≡ None
compared_nowhere Strict n k tokens v f (inl h) = pointer_of h.0
compared_nowhere Strict n k tokens v f (inr h) = pointer_of h.0
compared_nowhere Numeric n k tokens v f h = pointer_of h.0

-- `from` does not resolve
from_fault : (c : Comparison) (n : NodeMap) (k : ℕ) (o : Operation) (f : FailedOperation) → RefusesOperationBy c n k o f → f.pointer ≡ Some pointer.From → (from : List Text) × (cause : ResolveError) × (source_of o ≡ Some from) × Refuses n from cause × (f.error ≡ NoTarget k cause)
from_fault c n k (Add path value) f h is = other f (add_path n k path f h) is
from_fault c n k (Remove path) f h is = other f (pointer_of h.1) is
from_fault c n k (Replace path value) f h is = other f (pointer_of h.1) is
from_fault c n k (Move from path) f (inl h) is = nowhere f pointer.From (pointer_of h.0) is
from_fault c n k (Move from path) f (inr (apart, inl h)) is = (from, h.0, refl, h.2, error_of h.1)
from_fault c n k (Move from path) f (inr (apart, inr h)) is = other f (add_path h.1 k path f h.3) is
from_fault c n k (Copy from path) f (inl h) is = (from, h.0, refl, h.2, error_of h.1)
from_fault c n k (Copy from path) f (inr h) is = other f (add_path n k path f h.2) is
from_fault c n k (Test path value) f (inl h) is = other f (pointer_of h.1) is
from_fault c n k (Test path value) f (inr h) is = nowhere f pointer.From (compared_nowhere c n k path (nodes (view value)) f h) is

-- `from` resolves
path_fault : (c : Comparison) (n : NodeMap) (k : ℕ) (o : Operation) (f : FailedOperation) → RefusesOperationBy c n k o f → f.pointer ≡ Some pointer.Path → (from : List Text) → source_of o ≡ Some from → (v : NodeMap) × Finds n from v
path_fault c n k (Add path value) f h is from source = cc
path_fault c n k (Remove path) f h is from source = cc
path_fault c n k (Replace path value) f h is from source = cc
path_fault c n k (Move here path) f (inl h) is from source = nowhere f pointer.Path (pointer_of h.0) is
path_fault c n k (Move here path) f (inr (apart, inl h)) is from source = other f is (pointer_of h.1)
path_fault c n k (Move here path) f (inr (apart, inr h)) is from source =
    let same : here ≡ from = cc in
    (h.0, subst (λ (ts : List Text). Finds n ts h.0) same h.2.found)
path_fault c n k (Copy here path) f (inl h) is from source = other f is (pointer_of h.1)
path_fault c n k (Copy here path) f (inr h) is from source =
    let same : here ≡ from = cc in
    (h.0, subst (λ (ts : List Text). Finds n ts h.0) same h.1)
path_fault c n k (Test path value) f h is from source = cc

pub blames_from : (c : Comparison) (n : NodeMap) (os : List Operation) (f : FailedOperation) → FailsBy c n os f → f.pointer ≡ Some pointer.From → (done rest : List Operation) × (o : Operation) × (left : NodeMap) × (from : List Text) × (cause : ResolveError) × (os ≡ done ++ o ∷ rest) × PatchesBy c n done left × (source_of o ≡ Some from) × Refuses left from cause × (f.error ≡ NoTarget (length done) cause)
blames_from c n os f r is =
    let h = from_fault c r.left (length r.done) r.fails f r.refused is in
    (r.done, r.rest, r.fails, r.left, h.0, h.1, r.split, r.applied, h.2, h.3, h.4)

pub blames_path : (c : Comparison) (n : NodeMap) (os : List Operation) (f : FailedOperation) → FailsBy c n os f → f.pointer ≡ Some pointer.Path → (done rest : List Operation) × (o : Operation) × (left : NodeMap) × (os ≡ done ++ o ∷ rest) × PatchesBy c n done left × ((from : List Text) → source_of o ≡ Some from → (v : NodeMap) × Finds left from v)
blames_path c n os f r is = (r.done, r.rest, r.fails, r.left, r.split, r.applied, path_fault c r.left (length r.done) r.fails f r.refused is)

-- an error with a cause is that of a pointer

abbrev Agrees : FailedOperation → Type 0
Agrees f = HasCause f.error ↔ IsSome f.pointer

agrees : {f : FailedOperation} {e : PatchError} {at : Option PatchPointer} → f ≡ failed e at → (HasCause e ↔ IsSome at) → Agrees f
agrees is h = subst Agrees (sym is) h

both : {A B : Type 0} → A → B → A ↔ B
both a b = (λ _. b, λ _. a)

neither : {A B : Type 0} → (A → ⊥) → (B → ⊥) → A ↔ B
neither a b = (λ h. absurd (a h), λ h. absurd (b h))

no_pointer : IsSome {T = PatchPointer} None → ⊥
no_pointer e = cc

agrees_add : (n : NodeMap) (k : ℕ) (tokens : List Text) (f : FailedOperation) → RefusesAdd n k tokens f → Agrees f
agrees_add n k tokens f (inl h) = agrees h.1 (both tt refl)
agrees_add n k tokens f (inr h) = agrees h.1 (both tt refl)

agrees_compared : (c : Comparison) (n : NodeMap) (k : ℕ) (tokens : List Text) (v : NodeMap) (f : FailedOperation) → RefusesComparing c n k tokens v f → Agrees f
agrees_compared Strict n k tokens v f (inl h) = agrees h.0 (neither (λ h. h) no_pointer)
agrees_compared Strict n k tokens v f (inr h) = agrees h.0 (neither (λ h. h) no_pointer)
agrees_compared Numeric n k tokens v f h = agrees h.0 (neither (λ h. h) no_pointer)

agrees_one : (c : Comparison) (n : NodeMap) (k : ℕ) (o : Operation) (f : FailedOperation) → RefusesOperationBy c n k o f → Agrees f
agrees_one c n k (Add path value) f h = agrees_add n k path f h
agrees_one c n k (Remove path) f h = agrees h.1 (both tt refl)
agrees_one c n k (Replace path value) f h = agrees h.1 (both tt refl)
agrees_one c n k (Move from path) f (inl h) = agrees h.0 (neither (λ h. h) no_pointer)
agrees_one c n k (Move from path) f (inr (apart, inl h)) = agrees h.1 (both tt refl)
agrees_one c n k (Move from path) f (inr (apart, inr h)) = agrees_add h.1 k path f h.3
agrees_one c n k (Copy from path) f (inl h) = agrees h.1 (both tt refl)
agrees_one c n k (Copy from path) f (inr h) = agrees_add n k path f h.2
agrees_one c n k (Test path value) f (inl h) = agrees h.1 (both tt refl)
agrees_one c n k (Test path value) f (inr h) = agrees_compared c n k path (nodes (view value)) f h

pub cause_of_pointer : (c : Comparison) (n : NodeMap) (os : List Operation) (f : FailedOperation) → FailsBy c n os f → Agrees f
cause_of_pointer c n os f r = agrees_one c r.left (length r.done) r.fails f r.refused
