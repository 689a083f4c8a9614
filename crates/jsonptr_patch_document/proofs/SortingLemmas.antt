-- The keys of what is read and of what is written are sorted if those of the document and of the values are.
use Rattle.std.proofs.Common.{◌≡◌, Ordering, Less, Equal, Greater, nat_cmp, List, [], ◌∷◌, map, Some, refl, subst}
use Rattle.std.specs.Prelude.{All}
use Rattle.std.specs.Cmp.Lexicographic.{slice_cmp}
use Rattle.std.specs.Ordering.{match_ordering}
use Rattle.std.proofs.lemmas.List.Elements.{All-nil, All-cons, All-head, All-tail}
use Rattle.serde_json.specs.Data as json
use Rattle.serde_json.specs.Find.{get, get_member}
use Rattle.serde_json.specs.View.{view, items_of}
use Rattle.jsonptr.specs.Json.{HasSortedKeys, ItemsHaveSortedKeys, MembersHaveSortedKeys}
use Rattle.jsonptr.specs.Text.{Text}
use Rattle.jsonptr_patch.specs.Order.{OperationHasSortedKeys}
use Rattle.jsonptr_patch.specs.declared.operation.Operation.{Operation}
use Rattle.jsonptr_patch.specs.declared.operation.Operation.TheVariants.{Add, Remove, Replace, Move, Copy, Test}
use Rattle.jsonptr_patch_document.specs.Object.{member_key, IsOperationObject}
use Rattle.jsonptr_patch_document.specs.Document.{AreOperations, IsPatch}
use Rattle.jsonptr_patch_document.specs.Writing.{written_object, document_of, ValueHasSortedKeys}
use Rattle.jsonptr_patch_document.specs.declared.member.Member.TheVariants.{Value}

-- a member
sorted_member : (k : Text) (ms : json.Members) (e : json.Data) → MembersHaveSortedKeys ms → get_member k ms ≡ Some e → HasSortedKeys e
sorted_member k json.no_members e s h = let no : ⊥ = cc in absurd no
sorted_member k (json.member l x ms) e s h = by_order (sorted_member k ms e s.2) (slice_cmp nat_cmp k l) h
  where
    by_order : (get_member k ms ≡ Some e → HasSortedKeys e) → (o : Ordering) → match_ordering o (get_member k ms) (Some x) (get_member k ms) ≡ Some e → HasSortedKeys e
    by_order later Less is = later is
    by_order later Equal is =
        let same : x ≡ e = cc in
        subst HasSortedKeys same s.0
    by_order later Greater is = later is

sorted_part : (k : Text) (d e : json.Data) → HasSortedKeys d → get k d ≡ Some e → HasSortedKeys e
sorted_part k json.null e s h = let no : ⊥ = cc in absurd no
sorted_part k (json.boolean b) e s h = let no : ⊥ = cc in absurd no
sorted_part k (json.number n) e s h = let no : ⊥ = cc in absurd no
sorted_part k (json.string t) e s h = let no : ⊥ = cc in absurd no
sorted_part k (json.array ds) e s h = let no : ⊥ = cc in absurd no
sorted_part k (json.object ms) e s h = sorted_member k ms e s h

-- an operation that is read
operation_sorted : (d : json.Data) (o : Operation) → HasSortedKeys d → IsOperationObject d o → OperationHasSortedKeys o
operation_sorted d (Add path value) s h = sorted_part (member_key Value) d (view value) s h.2
operation_sorted d (Remove path) s h = tt
operation_sorted d (Replace path value) s h = sorted_part (member_key Value) d (view value) s h.2
operation_sorted d (Move from path) s h = tt
operation_sorted d (Copy from path) s h = tt
operation_sorted d (Test path value) s h = tt

operations_sorted : (ds : json.Items) (os : List Operation) → ItemsHaveSortedKeys ds → AreOperations ds os → All OperationHasSortedKeys os
operations_sorted json.no_items [] s h = All-nil OperationHasSortedKeys
operations_sorted json.no_items (o ∷ os) s h = absurd h
operations_sorted (json.item d ds) [] s h = absurd h
operations_sorted (json.item d ds) (o ∷ os) s h = All-cons OperationHasSortedKeys o os (operation_sorted d o s.0 h.0) (operations_sorted ds os s.1 h.1)

-- a patch that is read
pub patch_sorted : (d : json.Data) (os : List Operation) → HasSortedKeys d → IsPatch d os → All OperationHasSortedKeys os
patch_sorted d os s h = operations_sorted h.0 os (subst HasSortedKeys h.1 s) h.2

-- an operation that is written
object_sorted : (o : Operation) → ValueHasSortedKeys o → HasSortedKeys (written_object o)
object_sorted (Add path value) s = (tt, (refl, (refl, tt)), (tt, (refl, tt), (s, tt, tt)))
object_sorted (Remove path) s = (tt, (refl, tt), (tt, tt, tt))
object_sorted (Replace path value) s = (tt, (refl, (refl, tt)), (tt, (refl, tt), (s, tt, tt)))
object_sorted (Move from path) s = (tt, (refl, (refl, tt)), (tt, (refl, tt), (tt, tt, tt)))
object_sorted (Copy from path) s = (tt, (refl, (refl, tt)), (tt, (refl, tt), (tt, tt, tt)))
object_sorted (Test path value) s = (tt, (refl, (refl, tt)), (tt, (refl, tt), (s, tt, tt)))

objects_sorted : (os : List Operation) → All ValueHasSortedKeys os → ItemsHaveSortedKeys (items_of (map written_object os))
objects_sorted [] s = tt
objects_sorted (o ∷ os) s = (object_sorted o (All-head ValueHasSortedKeys o os s), objects_sorted os (All-tail ValueHasSortedKeys o os s))

-- a patch that is written
pub document_sorted : (os : List Operation) → All ValueHasSortedKeys os → HasSortedKeys (document_of os)
document_sorted os s = objects_sorted os s
