-- The same operations are read from the same objects, and do the same.
use Rattle.std.proofs.Common.{◌≡◌, List, [], ◌∷◌, Some, ap, ◌∙◌, subst}
use Rattle.serde_json.specs.Data as json
use Rattle.serde_json.specs.View.{view}
use Rattle.serde_json.specs.declared.value.Value.{Value}
use Rattle.jsonptr.specs.Following.{Finds}
use Rattle.jsonptr.specs.Json.{nodes}
use Rattle.jsonptr.specs.Node.{NodeMap}
use Rattle.jsonptr.specs.Resolve.{PutsAt}
use Rattle.jsonptr.specs.Text.{Text}
use Rattle.jsonptr_patch.specs.Adding.{Adds}
use Rattle.jsonptr_patch.specs.Inverse.{TakesAddBack, TakesBack, TakesAllBackBy}
use Rattle.jsonptr_patch.specs.Operating.{AppliesBy, Takes, Moves, Copies, PassesBy, RestoresAt}
use Rattle.jsonptr_patch.specs.Patching.{PatchesBy}
use Rattle.jsonptr_patch.specs.declared.comparison.Comparison.{Comparison}
use Rattle.jsonptr_patch.specs.declared.operation.Operation.{Operation}
use Rattle.jsonptr_patch.specs.declared.operation.Operation.TheVariants.{Add, Remove, Replace, Move, Copy, Test}
use Rattle.jsonptr_patch_document.specs.Object.{HasPointer, IsOperationObject}
use Rattle.jsonptr_patch_document.specs.Same.{IsSameOperation, AreSameOperations}
use Rattle.jsonptr_patch_document.specs.declared.member.Member.TheVariants.{Path, From}

-- what holds of a pointer and a value holds of the same ones
both : {A B : Type 0} (P : A → B → Type 0) (a b : A) (v w : B) → a ≡ b → v ≡ w → P a v → P b w
both P a b v w p q h = subst (P b) q (subst (λ x. P x v) p h)

-- the object of an operation is one of the same operation
pub same_object : (d : json.Data) (o p : Operation) → IsSameOperation o p → IsOperationObject d o → IsOperationObject d p
same_object d (Add path v) (Add other w) s h = (h.0, subst (HasPointer d Path) s.0 h.1, h.2 ∙ ap (λ (x : json.Data). Some x) s.1)
same_object d (Remove path) (Remove other) s h = (h.0, subst (HasPointer d Path) s h.1)
same_object d (Replace path v) (Replace other w) s h = (h.0, subst (HasPointer d Path) s.0 h.1, h.2 ∙ ap (λ (x : json.Data). Some x) s.1)
same_object d (Move from path) (Move source other) s h = (h.0, subst (HasPointer d Path) s.1 h.1, subst (HasPointer d From) s.0 h.2)
same_object d (Copy from path) (Copy source other) s h = (h.0, subst (HasPointer d Path) s.1 h.1, subst (HasPointer d From) s.0 h.2)
same_object d (Test path v) (Test other w) s h = (h.0, subst (HasPointer d Path) s.0 h.1, h.2 ∙ ap (λ (x : json.Data). Some x) s.1)
same_object d o p s h = absurd s

-- the same operation makes the same map
same_effect : (c : Comparison) (n m : NodeMap) (o p : Operation) → IsSameOperation o p → AppliesBy c n o m → AppliesBy c n p m
same_effect c n m (Add path v) (Add other w) s h = both (λ (ts : List Text) (d : json.Data). Adds n ts (nodes d) m) path other (view v) (view w) s.0 s.1 h
same_effect c n m (Remove path) (Remove other) s h = subst (λ (ts : List Text). (v : NodeMap) × Takes n ts v m) s h
same_effect c n m (Replace path v) (Replace other w) s h = both (λ (ts : List Text) (d : json.Data). PutsAt n ts (nodes d) m) path other (view v) (view w) s.0 s.1 h
same_effect c n m (Move from path) (Move source other) s h = both (λ (ts us : List Text). Moves n ts us m) from source path other s.0 s.1 h
same_effect c n m (Copy from path) (Copy source other) s h = both (λ (ts us : List Text). Copies n ts us m) from source path other s.0 s.1 h
same_effect c n m (Test path v) (Test other w) s h = (both (λ (ts : List Text) (d : json.Data). PassesBy c n ts (nodes d)) path other (view v) (view w) s.0 s.1 h.0, h.1)
same_effect c n m o p s h = absurd s

-- so do the same operations
pub same_effects : (c : Comparison) (n m : NodeMap) (os ps : List Operation) → AreSameOperations os ps → PatchesBy c n os m → PatchesBy c n ps m
same_effects c n m [] [] s h = h
same_effects c n m [] (p ∷ ps) s h = absurd s
same_effects c n m (o ∷ os) [] s h = absurd s
same_effects c n m (o ∷ os) (p ∷ ps) s h = (h.0, same_effect c n h.0 o p s.0 h.1, same_effects c h.0 m os ps s.1 h.2)

-- what takes an operation back takes back the same operation
same_back : (n : NodeMap) (o p : Operation) (back : List Operation) → IsSameOperation o p → TakesBack n o back → TakesBack n p back
same_back n (Add path v) (Add other w) back s h = subst (λ (ts : List Text). (q : Operation) × (back ≡ q ∷ []) × TakesAddBack n ts q) s.0 h
same_back n (Remove path) (Remove other) back s h = subst (λ (ts : List Text). (q : Operation) × (back ≡ q ∷ []) × RestoresAt n ts q) s h
same_back n (Replace path v) (Replace other w) back s h = subst (λ (ts : List Text). (old : Value) × (back ≡ Replace ts old ∷ []) × Finds n ts (nodes (view old))) s.0 h
same_back n (Move from path) (Move source other) back s h = both (λ (ts us : List Text). TakesBack n (Move ts us) back) from source path other s.0 s.1 h
same_back n (Copy from path) (Copy source other) back s h = subst (λ (ts : List Text). (q : Operation) × (back ≡ q ∷ []) × TakesAddBack n ts q) s.1 h
same_back n (Test path v) (Test other w) back s h = h
same_back n o p back s h = absurd s

-- and so it is with lists
pub same_inverse : (c : Comparison) (n : NodeMap) (os ps back : List Operation) → AreSameOperations os ps → TakesAllBackBy c n os back → TakesAllBackBy c n ps back
same_inverse c n [] [] back s h = h
same_inverse c n [] (p ∷ ps) back s h = absurd s
same_inverse c n (o ∷ os) [] back s h = absurd s
same_inverse c n (o ∷ os) (p ∷ ps) back s h = (h.0, h.1, h.2, same_effect c n h.0 o p s.0 h.3, same_back n o p h.1 s.0 h.4, same_inverse c h.0 os ps h.2 s.1 h.5, h.6)
