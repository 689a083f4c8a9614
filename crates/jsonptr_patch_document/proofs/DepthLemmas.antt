-- How deep the document of what takes a patch back nests.
use Rattle.std.proofs.Common.{◌≡◌, ℕ, suc, ◌+◌, ◌<◌, ◌≤◌, ⊎_elim, List, [], ◌∷◌, map, All, subst, arith}
use Rattle.std.proofs.lemmas.Bool.{cases_lt}
use Rattle.std.proofs.lemmas.List.Elements.{All-head, All-tail}
use Rattle.serde_json.specs.Data.{depth, items_depth}
use Rattle.serde_json.specs.View.{view, items_of}
use Rattle.jsonptr.specs.Node.{NodeMap}
use Rattle.jsonptr.specs.Json.{nodes}
use Rattle.jsonptr_value.specs.Nesting.{NestsWithin}
use Rattle.jsonptr_value.proofs.LevelLemmas.{NestsWithin-depth, depth-within}
use Rattle.jsonptr_value.proofs.NestingLemmas.{NestsWithin-more}
use Rattle.jsonptr_patch.specs.Inverse.{IsAlike, AreAlike, IsOfBefore, HasDeepNodeBefore}
use Rattle.jsonptr_patch.specs.Order.{OperationHasSortedKeys}
use Rattle.jsonptr_patch.specs.declared.comparison.Comparison.{Comparison}
use Rattle.jsonptr_patch.specs.declared.operation.Operation.{Operation}
use Rattle.jsonptr_patch.specs.declared.operation.Operation.TheVariants.{Add, Remove, Replace, Move, Copy, Test}
use Rattle.jsonptr_patch_document.specs.Writing.{written_object, document_of}

abbrev value_depth : Operation → ℕ
value_depth (Add path value) = depth (view value)
value_depth (Remove path) = 0
value_depth (Replace path value) = depth (view value)
value_depth (Move from path) = 0
value_depth (Copy from path) = 0
value_depth (Test path value) = depth (view value)

-- the object of an operation is one level deeper than its value

object_depth : (o : Operation) → depth (written_object o) ≡ suc (value_depth o)
object_depth (Add path value) = omega arith
object_depth (Remove path) = omega arith
object_depth (Replace path value) = omega arith
object_depth (Move from path) = omega arith
object_depth (Copy from path) = omega arith
object_depth (Test path value) = omega arith

-- a deep document has a deep value

deep_value : (P Q : Operation → Type 0) (k : ℕ) (os : List Operation) → All P os → All Q os → suc k < items_depth (items_of (map written_object os)) → (o : Operation) × P o × Q o × (k < value_depth o)
deep_value P Q k [] p q deep = absurd (omega (arith, deep))
deep_value P Q k (o ∷ os) p q deep = ⊎_elim
    (λ (here : k < value_depth o). (o, All-head P o os p, All-head Q o os q, here))
    (λ (low : value_depth o ≤ k). deep_value P Q k os (All-tail P o os p) (All-tail Q o os q) (omega (arith, deep, low, object_depth o)))
    (cases_lt k (value_depth o))

pub deep_node : (c : Comparison) (n : NodeMap) (os back : List Operation) (k : ℕ) → All (IsOfBefore c n os) back → All OperationHasSortedKeys back → k + 2 < depth (document_of back) → HasDeepNodeBefore c n os k
deep_node c n os back k before sorted deep =
    let r = deep_value (IsOfBefore c n os) OperationHasSortedKeys k back before sorted (omega (arith, deep)) in
    go r.0 r.1 r.2 r.3
  where
    go : (o : Operation) → IsOfBefore c n os o → OperationHasSortedKeys o → k < value_depth o → HasDeepNodeBefore c n os k
    go (Add path value) found s deep = (path, nodes (view value), found, λ within. omega (arith, deep, depth-within (view value) k s within))
    go (Remove path) found s deep = absurd (omega (arith, deep))
    go (Replace path value) found s deep = (path, nodes (view value), found, λ within. omega (arith, deep, depth-within (view value) k s within))
    go (Move from path) found s deep = absurd (omega (arith, deep))
    go (Copy from path) found s deep = absurd (omega (arith, deep))
    go (Test path value) found s deep = absurd found

-- operations that are alike have documents of one depth, if the keys are sorted

alike_value : (c : Comparison) (n : NodeMap) (os : List Operation) (k : ℕ) (o p : Operation) → IsAlike o p → IsOfBefore c n os p → OperationHasSortedKeys p → value_depth o ≤ k → value_depth p ≤ k
alike_value c n os k (Add path v) (Add other w) alike found sorted low =
    depth-within (view w) k sorted (subst (NestsWithin k) alike.1 (NestsWithin-more (depth (view v)) k (nodes (view v)) low (NestsWithin-depth (view v))))
alike_value c n os k (Remove path) (Remove other) alike found sorted low = omega arith
alike_value c n os k (Replace path v) (Replace other w) alike found sorted low =
    depth-within (view w) k sorted (subst (NestsWithin k) alike.1 (NestsWithin-more (depth (view v)) k (nodes (view v)) low (NestsWithin-depth (view v))))
alike_value c n os k (Move from path) (Move source other) alike found sorted low = omega arith
alike_value c n os k (Copy from path) (Copy source other) alike found sorted low = omega arith
alike_value c n os k (Test path v) (Test other w) alike found sorted low = absurd found
alike_value c n os k o p alike found sorted low = absurd alike

alike_items : (c : Comparison) (n : NodeMap) (os : List Operation) (k : ℕ) (back others : List Operation) → AreAlike back others → All (IsOfBefore c n os) others → All OperationHasSortedKeys others → items_depth (items_of (map written_object back)) ≤ suc k → items_depth (items_of (map written_object others)) ≤ suc k
alike_items c n os k [] [] alike found sorted low = omega arith
alike_items c n os k [] (p ∷ ps) alike found sorted low = absurd alike
alike_items c n os k (o ∷ back) [] alike found sorted low = absurd alike
alike_items c n os k (o ∷ back) (p ∷ others) alike found sorted low =
    let value : value_depth o ≤ k = omega (arith, low, object_depth o) in
    let first : value_depth p ≤ k = alike_value c n os k o p alike.0 (All-head (IsOfBefore c n os) p others found) (All-head OperationHasSortedKeys p others sorted) value in
    let rest : items_depth (items_of (map written_object others)) ≤ suc k = alike_items c n os k back others alike.1 (All-tail (IsOfBefore c n os) p others found) (All-tail OperationHasSortedKeys p others sorted) (omega (arith, low)) in
    omega (arith, first, rest, object_depth p)

pub alike_depth : (c : Comparison) (n : NodeMap) (os back others : List Operation) (k : ℕ) → AreAlike back others → All (IsOfBefore c n os) others → All OperationHasSortedKeys others → depth (document_of back) ≤ k + 2 → depth (document_of others) ≤ k + 2
alike_depth c n os back others k alike found sorted low =
    omega (arith, alike_items c n os k back others alike found sorted (omega (arith, low)))
