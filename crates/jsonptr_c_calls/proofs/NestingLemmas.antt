-- How deep a document nests after the operations of a patch.
use Rattle.std.proofs.Common.{◌≡◌, ℕ, zero, suc, ◌+◌, ◌-◌, ◌<◌, ◌≤◌, max, List, [], ◌∷◌, ◌++◌, length, slice_index_or, Option, Some, None, Ordering, Less, Equal, Greater, nat_cmp, All, inl, inr, sym, ap, ◌∙◌, subst, arith}
use Rattle.std.specs.Ordering.{match_ordering}
use Rattle.std.specs.Cmp.Lexicographic.{slice_cmp}
use Rattle.std.proofs.lemmas.List.{length-append}
use Rattle.std.proofs.lemmas.List.Elements.{All-nil, All-cons, All-head, All-tail}
use Rattle.std.proofs.lemmas.List.Sums.{sum_by-cons}
use Rattle.serde_json.specs.Data.{Data, null, boolean, number, string, array, object, Items, no_items, item, Members, no_members, member, depth, items_depth, members_depth}
use Rattle.serde_json.specs.Find.{get, get_member}
use Rattle.serde_json.specs.Read.{max_depth, read}
use Rattle.serde_json.specs.View.{view}
use Rattle.serde_json.proofs.Nesting.{depth-read}
use Rattle.jsonptr.specs.Text.{Text}
use Rattle.jsonptr.specs.Node.{key, place, Path, Label, an_object, an_array, a_leaf, NodeMap, sub}
use Rattle.jsonptr.specs.Following.{Finds}
use Rattle.jsonptr.specs.Json.{nodes, HasSortedKeys}
use Rattle.jsonptr_tree.proofs.NodeLemmas.{Names-length}
use Rattle.jsonptr_value.specs.Nesting.{IsContainer, NestsWithin}
use Rattle.jsonptr_value.proofs.LevelLemmas.{NestsWithin-depth, depth-within}
use Rattle.jsonptr_value.proofs.NestingLemmas.{NestsWithin-more, NestsWithin-sub, NestsWithin-put, Names-within, Finds-within, Deletes-within}
use Rattle.jsonptr_patch.specs.Adding.{Adds, AddsUnder}
use Rattle.jsonptr_patch.specs.Inserting.{one_more, place_of_old, below_element, with_place}
use Rattle.jsonptr_patch.specs.Operating.{AppliesBy, Takes}
use Rattle.jsonptr_patch.specs.Order.{OperationHasSortedKeys}
use Rattle.jsonptr_patch.specs.Patching.{PatchesBy}
use Rattle.jsonptr_patch.specs.declared.operation.Operation.{Operation}
use Rattle.jsonptr_patch.specs.declared.operation.Operation.TheVariants.{Add, Remove, Replace, Move, Copy, Test}
use Rattle.jsonptr_patch.specs.declared.comparison.Comparison.TheVariants.{Numeric}
use Rattle.jsonptr_patch_document.specs.Object.{member_key, IsOperationObject}
use Rattle.jsonptr_patch_document.specs.Document.{AreOperations, IsPatch}
use Rattle.jsonptr_patch_document.specs.declared.member.Member.TheVariants.{Value}
use Rattle.jsonptr_c_calls.specs.Depths.{max_levels, IsBounded, AddsParsed, level_of, descent_of, descent, StaysShallow}

-- insertion into an array

container_of_one_more : (l : Option Label) → IsContainer (one_more l) → IsContainer l
container_of_one_more None c = c
container_of_one_more (Some an_object) c = c
container_of_one_more (Some (an_array len)) c = tt
container_of_one_more (Some (a_leaf v)) c = c

below_within : (k j : ℕ) (n v : NodeMap) → NestsWithin k n → NestsWithin j v → 1 + j ≤ k → (o : Option ℕ) (p : Path) → IsContainer (below_element o v n p) → suc (length p) < k
below_within k j n v h below le None p c = let low : length p < j = below p c in omega (arith, low, le)
below_within k j n v h below le (Some q) p c = h (place q ∷ p) c

with_place-within : (k j : ℕ) (n v : NodeMap) (i : ℕ) → NestsWithin k n → NestsWithin j v → 1 + j ≤ k → NestsWithin k (with_place i v n)
with_place-within k j n v i h below le [] c = h [] (container_of_one_more (n []) c)
with_place-within k j n v i h below le (key x ∷ p) c = h (key x ∷ p) c
with_place-within k j n v i h below le (place q ∷ p) c = below_within k j n v h below le (place_of_old i q) p c

-- addition

AddsUnder-within : (k j : ℕ) (n : NodeMap) (w : Path) (l : Option Label) (x : Text) (v m : NodeMap) → AddsUnder n w l x v m → NestsWithin k n → NestsWithin j v → length w + 1 + j ≤ k → NestsWithin k m
AddsUnder-within k j n w None x v m made h below le = absurd made
AddsUnder-within k j n w (Some an_object) x v m made h below le =
    let len : length (w ++ key x ∷ []) ≡ length w + length (key x ∷ []) = length-append w (key x ∷ []) in
    subst (NestsWithin k) (sym made) (NestsWithin-put k j n (w ++ key x ∷ []) v h below (omega (arith, len, le)))
AddsUnder-within k j n w (Some (an_array len)) x v m made h below le =
    subst (NestsWithin k) (sym made.2)
    (NestsWithin-put k (k - length w) n w (with_place made.0 v (sub n w)) h
    (with_place-within (k - length w) j (sub n w) v made.0 (NestsWithin-sub k n w h) below (omega (arith, le)))
    (omega (arith, le)))
AddsUnder-within k j n w (Some (a_leaf a)) x v m made h below le = absurd made

Adds-within : (k j : ℕ) (n : NodeMap) (tokens : List Text) (v m : NodeMap) → Adds n tokens v m → NestsWithin k n → NestsWithin j v → length tokens + j ≤ k → NestsWithin k m
Adds-within k j n tokens v m (inl (none, made)) h below le =
    let len : length tokens ≡ 0 = ap length none in
    subst (NestsWithin k) (sym made) (NestsWithin-more j k v (omega (arith, len, le)) below)
Adds-within k j n tokens v m (inr made) h below le =
    let all : length tokens ≡ length made.front + length (made.last ∷ []) = ap length made.split ∙ length-append made.front (made.last ∷ []) in
    let path : length made.front ≡ length made.path = Names-length n made.front made.path made.named in
    AddsUnder-within k j n made.path (n made.path) made.last v m made.made h below (omega (arith, all, path, le))

-- operations

null-within : (k : ℕ) → NestsWithin k (nodes null)
null-within k = NestsWithin-more 0 k (nodes null) (omega arith) (NestsWithin-depth null)

-- the node at `from`, added at `path` in a map that nests as deep
lower-within : (k : ℕ) (n left : NodeMap) (from path : List Text) (v m : NodeMap) → Finds n from v → Adds left path v m → NestsWithin k n → NestsWithin k left → NestsWithin (k + (length path - length from)) m
lower-within k n left from path v m found added h rest =
    let within : length from ≤ k = Names-within k n from found.path h found.named in
    Adds-within (k + (length path - length from)) (k - length from) left path v m added
    (NestsWithin-more k (k + (length path - length from)) left (omega arith) rest)
    (Finds-within k n from v h found)
    (omega (arith, within))

Takes-within : (k : ℕ) (n : NodeMap) (tokens : List Text) (v m : NodeMap) → Takes n tokens v m → NestsWithin k n → NestsWithin k m
Takes-within k n tokens v m taken h = Deletes-within k n tokens (nodes null) m taken.found.path taken.left taken.found.named h (null-within k)

Applies-within : (k : ℕ) (n : NodeMap) (o : Operation) (m : NodeMap) → AppliesBy Numeric n o m → NestsWithin k n → AddsParsed o → level_of o + max_depth ≤ k → NestsWithin (k + descent_of o) m
Applies-within k n (Add path value) m applied h parsed le =
    let value_depth : depth (view value) ≤ max_depth = parsed.1 in
    NestsWithin-more k (k + 0) m (omega arith)
    (Adds-within k (depth (view value)) n path (nodes (view value)) m applied h (NestsWithin-depth (view value)) (omega (arith, value_depth, le)))
Applies-within k n (Remove path) m applied h parsed le =
    NestsWithin-more k (k + 0) m (omega arith) (Takes-within k n path applied.0 m applied.1 h)
Applies-within k n (Replace path value) m applied h parsed le =
    let value_depth : depth (view value) ≤ max_depth = parsed.1 in
    let len : length path ≡ length applied.path = Names-length n path applied.path applied.named in
    NestsWithin-more k (k + 0) m (omega arith)
    (subst (NestsWithin k) (sym applied.made) (NestsWithin-put k (depth (view value)) n applied.path (nodes (view value)) h (NestsWithin-depth (view value)) (omega (arith, value_depth, le, len))))
Applies-within k n (Move from path) m applied h parsed le =
    lower-within k n applied.left from path applied.node m applied.taken.found applied.added h (Takes-within k n from applied.node applied.left applied.taken h)
Applies-within k n (Copy from path) m applied h parsed le =
    lower-within k n n from path applied.node m applied.found applied.added h h
Applies-within k n (Test path value) m applied h parsed le =
    NestsWithin-more k (k + 0) m (omega arith) (subst (NestsWithin k) (sym applied.1) h)

levels_more : (k j : ℕ) (os : List Operation) → k ≤ j → All (λ o. level_of o + max_depth ≤ k) os → All (λ o. level_of o + max_depth ≤ j) os
levels_more k j os le h = λ i o low.
    let one : level_of (slice_index_or os i o) + max_depth ≤ k = h i o low in
    omega (arith, le, one)

Patches-within : (k : ℕ) (n : NodeMap) (os : List Operation) (m : NodeMap) → PatchesBy Numeric n os m → NestsWithin k n → All AddsParsed os → All (λ o. level_of o + max_depth ≤ k) os → NestsWithin (k + descent os) m
Patches-within k n [] m patched h parsed le =
    NestsWithin-more k (k + descent []) m (omega arith) (subst (NestsWithin k) (sym patched) h)
Patches-within k n (o ∷ os) m patched h parsed le =
    let here : level_of o + max_depth ≤ k = All-head (λ p. level_of p + max_depth ≤ k) o os le in
    let later : All (λ p. level_of p + max_depth ≤ k) os = All-tail (λ p. level_of p + max_depth ≤ k) o os le in
    let one : NestsWithin (k + descent_of o) patched.0 = Applies-within k n o patched.0 patched.1 h (All-head AddsParsed o os parsed) here in
    let rest : NestsWithin (k + descent_of o + descent os) m = Patches-within (k + descent_of o) patched.0 os m patched.2 one (All-tail AddsParsed o os parsed) (levels_more k (k + descent_of o) os (omega arith) later) in
    let sum : descent (o ∷ os) ≡ descent_of o + descent os = sum_by-cons descent_of o os in
    NestsWithin-more (k + descent_of o + descent os) (k + descent (o ∷ os)) m (omega (arith, sum)) rest

-- the levels that the operations leave to each value that they add
added_levels : (down : ℕ) (os : List Operation) → All (λ o. level_of o + down ≤ max_levels) os → All (λ o. level_of o + max_depth ≤ max_depth + max_levels - down) os
added_levels down os h = λ i o low.
    let one : level_of (slice_index_or os i o) + down ≤ max_levels = h i o low in
    omega (arith, one)

-- the depth that the operations leave to the document
left_levels : (d : Data) (down : ℕ) → depth d ≤ max_depth + max_levels → (0 < down → depth d + down ≤ max_depth + max_levels) → depth d ≤ max_depth + max_levels - down
left_levels d zero most held = omega (arith, most)
left_levels d (suc down) most held = let low : depth d + suc down ≤ max_depth + max_levels = held (omega arith) in omega (arith, low)

-- a document that may be patched nests at most 10,127 levels deep afterwards
pub bounded-patch : (d n : Data) (os : List Operation) → PatchesBy Numeric (nodes d) os (nodes n) → StaysShallow d os → All AddsParsed os → IsBounded d → HasSortedKeys n → IsBounded n
bounded-patch d n os patched shallow parsed bounded sorted =
    let left = max_depth + max_levels - descent os in
    let before : NestsWithin left (nodes d) = NestsWithin-more (depth d) left (nodes d) (left_levels d (descent os) bounded.1 shallow.held) (NestsWithin-depth d) in
    let after : NestsWithin (left + descent os) (nodes n) = Patches-within left (nodes d) os (nodes n) patched before parsed (added_levels (descent os) os shallow.added) in
    let moved : descent os ≤ max_levels = shallow.moved in
    let low : depth n ≤ left + descent os = depth-within n (left + descent os) sorted after in
    (sorted, omega (arith, low, moved))

-- patches that are read from a text

member_depth : (k : Text) (ms : Members) (e : Data) → get_member k ms ≡ Some e → depth e ≤ members_depth ms
member_depth k no_members e at = let no : ⊥ = cc in absurd no
member_depth k (member l d ms) e at = go (slice_cmp nat_cmp k l) (member_depth k ms e) at
  where
    go : (o : Ordering) → (get_member k ms ≡ Some e → depth e ≤ members_depth ms) → match_ordering o (get_member k ms) (Some d) (get_member k ms) ≡ Some e → depth e ≤ max (depth d) (members_depth ms)
    go Less later at = let low : depth e ≤ members_depth ms = later at in omega (arith, low)
    go Equal later at =
        let same : d ≡ e = cc in
        let one : depth d ≡ depth e = ap depth same in
        omega (arith, one)
    go Greater later at = let low : depth e ≤ members_depth ms = later at in omega (arith, low)

get_depth : (k : Text) (d e : Data) → get k d ≡ Some e → depth e ≤ depth d
get_depth k null e at = let no : ⊥ = cc in absurd no
get_depth k (boolean b) e at = let no : ⊥ = cc in absurd no
get_depth k (number n) e at = let no : ⊥ = cc in absurd no
get_depth k (string s) e at = let no : ⊥ = cc in absurd no
get_depth k (array ds) e at = let no : ⊥ = cc in absurd no
get_depth k (object ms) e at = let low : depth e ≤ members_depth ms = member_depth k ms e at in omega (arith, low)

operation_parsed : (d : Data) (o : Operation) → IsOperationObject d o → depth d ≤ max_depth → OperationHasSortedKeys o → AddsParsed o
operation_parsed d (Add path value) is low sorted = let under : depth (view value) ≤ depth d = get_depth (member_key Value) d (view value) is.2 in (sorted, omega (arith, under, low))
operation_parsed d (Remove path) is low sorted = tt
operation_parsed d (Replace path value) is low sorted = let under : depth (view value) ≤ depth d = get_depth (member_key Value) d (view value) is.2 in (sorted, omega (arith, under, low))
operation_parsed d (Move from path) is low sorted = tt
operation_parsed d (Copy from path) is low sorted = tt
operation_parsed d (Test path value) is low sorted = tt

operations_parsed : (ds : Items) (os : List Operation) → AreOperations ds os → items_depth ds ≤ max_depth → All OperationHasSortedKeys os → All AddsParsed os
operations_parsed no_items [] are low sorted = All-nil AddsParsed
operations_parsed no_items (o ∷ os) are low sorted = absurd are
operations_parsed (item d ds) [] are low sorted = All-nil AddsParsed
operations_parsed (item d ds) (o ∷ os) are low sorted =
    All-cons AddsParsed o os
    (operation_parsed d o are.0 (omega (arith, low)) (All-head OperationHasSortedKeys o os sorted))
    (operations_parsed ds os are.1 (omega (arith, low)) (All-tail OperationHasSortedKeys o os sorted))

pub patch_parsed : (text : List ℕ) (d : Data) (os : List Operation) → read text ≡ Some d → IsPatch d os → All OperationHasSortedKeys os → All AddsParsed os
patch_parsed text d os is patch sorted =
    let low : depth d ≤ max_depth = depth-read text d is in
    let same : depth d ≡ depth (array patch.0) = ap depth patch.1 in
    operations_parsed patch.0 os patch.2 (omega (arith, low, same)) sorted

parsed_sorted : (o : Operation) → AddsParsed o → OperationHasSortedKeys o
parsed_sorted (Add path value) h = h.0
parsed_sorted (Remove path) h = tt
parsed_sorted (Replace path value) h = h.0
parsed_sorted (Move from path) h = tt
parsed_sorted (Copy from path) h = tt
parsed_sorted (Test path value) h = tt

pub all_sorted : (os : List Operation) → All AddsParsed os → All OperationHasSortedKeys os
all_sorted os h = λ i o low. parsed_sorted (slice_index_or os i o) (h i o low)
