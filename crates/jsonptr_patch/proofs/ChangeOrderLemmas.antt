-- The order of the keys of a content after a change.
use Rattle.std.proofs.Common.{◌≡◌, ℕ, zero, suc, Bool, true, false, cond, Ordering, Less, Equal, Greater, nat_cmp, bytes_eq, [], ◌∷◌, ◌++◌, Option, Some, None, option_and_then, inl, inr, refl, sym, ap, ◌∙◌, subst}
use Rattle.std.specs.Cmp.Lexicographic.{slice_cmp}
use Rattle.std.specs.Ordering.{match_ordering}
use Rattle.jsonptr.specs.Text.{Text}
use Rattle.jsonptr.specs.Node.{Step, key, place, Path}
use Rattle.jsonptr.specs.Content.{Content, scalar, array, object, Items, no_items, item, Members, no_members, member, child, content_at, KeysAbove, SortedContent, SortedItems, SortedMembers}
use Rattle.jsonptr_tree.proofs.ContentMapLemmas.{below_flip, above_more}
use Rattle.jsonptr_tree.proofs.ContentOrderLemmas.{part_has_sorted_keys}
use Rattle.jsonptr_tree.proofs.JsonLemmas.{null_is}
use Rattle.jsonptr_patch_journal.specs.Writing.{write_item, write_member, write_step, write_below, write_at, At}
use Rattle.jsonptr_patch_journal.specs.Children.{insert_item, without_item, put_member, without_member}
use Rattle.jsonptr_patch_journal.specs.Changes.{PutsMember, PutsElement, TakesChild, TakesAt, Writes}
use Rattle.jsonptr_patch.proofs.ChangeMapLemmas.{child_at}

-- written

items_written : (ds : Items) (i : ℕ) (x : Content) → SortedItems ds → SortedContent x → SortedItems (write_item i x ds)
items_written no_items i x a h = tt
items_written (item d ds) zero x a h = (h, a.1)
items_written (item d ds) (suc i) x a h = (a.0, items_written ds i x a.1 h)

above_written : (j k : Text) (ms : Members) (x : Content) → KeysAbove j ms → KeysAbove j (write_member k x ms)
above_written j k no_members x a = tt
above_written j k (member l d ms) x a = by_test (above_written j k ms x a.1) (bytes_eq k l)
  where
    by_test : KeysAbove j (write_member k x ms) → (b : Bool) → KeysAbove j (cond b (member l x ms) (member l d (write_member k x ms)))
    by_test later true = (a.0, a.1)
    by_test later false = (a.0, later)

members_written : (ms : Members) (k : Text) (x : Content) → SortedMembers ms → SortedContent x → SortedMembers (write_member k x ms)
members_written no_members k x a h = tt
members_written (member l d ms) k x a h = by_test (members_written ms k x a.2 h) (bytes_eq k l)
  where
    by_test : SortedMembers (write_member k x ms) → (b : Bool) → SortedMembers (cond b (member l x ms) (member l d (write_member k x ms)))
    by_test later true = (h, a.1, a.2)
    by_test later false = (a.0, above_written l k ms x a.1, later)

step_written : (s : Step) (x d : Content) → SortedContent d → SortedContent x → SortedContent (write_step s x d)
step_written s x (scalar v) a h = tt
step_written (key k) x (array ds) a h = a
step_written (place i) x (array ds) a h = items_written ds i x a h
step_written (key k) x (object ms) a h = members_written ms k x a h
step_written (place i) x (object ms) a h = a

-- what is written at a path
pub write_sorted : (w : Path) (x d : Content) → SortedContent d → SortedContent x → SortedContent (write_at w x d)
write_sorted [] x d a h = h
write_sorted (s ∷ w) x d a h = below (λ e b. write_sorted w x e b h) (child s d) refl
  where
    below : ((e : Content) → SortedContent e → SortedContent (write_at w x e)) → (o : Option Content) → child s d ≡ o → SortedContent (write_below s (write_at w x) d o)
    below later None is = a
    below later (Some e) is = step_written s (write_at w x e) d a (later e (part_has_sorted_keys (s ∷ []) d e a (one is)))
      where
        one : child s d ≡ Some e → content_at (s ∷ []) d ≡ Some e
        one f = ap (option_and_then (content_at [])) f

-- a change at a path
pub change_sorted : (w : Path) (R : Content → Content → Type 0) (c d : Content) (a : At w R c d) → ((old new : Content) → R old new → SortedContent old → SortedContent new) → SortedContent c → SortedContent d
change_sorted w R c d a keeps h = subst SortedContent (sym a.made) (write_sorted w a.new c h (keeps a.old a.new a.related (part_has_sorted_keys w c a.old h a.there)))

-- a member put

above_put : (j k : Text) (ms : Members) (x : Content) → slice_cmp nat_cmp j k ≡ Less → KeysAbove j ms → KeysAbove j (put_member k x ms)
above_put j k no_members x h a = (h, tt)
above_put j k (member l d ms) x h a = by_order (above_put j k ms x h a.1) (slice_cmp nat_cmp k l)
  where
    by_order : KeysAbove j (put_member k x ms) → (o : Ordering) → KeysAbove j (match_ordering o (member k x (member l d ms)) (member l x ms) (member l d (put_member k x ms)))
    by_order later Less = (h, a)
    by_order later Equal = (a.0, a.1)
    by_order later Greater = (a.0, later)

members_put : (ms : Members) (k : Text) (x : Content) → SortedMembers ms → SortedContent x → SortedMembers (put_member k x ms)
members_put no_members k x a h = (h, tt, tt)
members_put (member l d ms) k x a h = by_order (members_put ms k x a.2 h) (slice_cmp nat_cmp k l) refl
  where
    by_order : SortedMembers (put_member k x ms) → (o : Ordering) → slice_cmp nat_cmp k l ≡ o → SortedMembers (match_ordering o (member k x (member l d ms)) (member l x ms) (member l d (put_member k x ms)))
    by_order later Less is = (h, (is, above_more k l ms is a.1), a)
    by_order later Equal is = (h, a.1, a.2)
    by_order later Greater is = (a.0, above_put l k ms x (below_flip k l is) a.1, later)

pub sorted_with_member : (w : Path) (k : Text) (v c d : Content) → At w (PutsMember k v) c d → SortedContent v → SortedContent c → SortedContent d
sorted_with_member w k v c d a h = change_sorted w (PutsMember k v) c d a keeps
  where
    keeps : (old new : Content) → PutsMember k v old new → SortedContent old → SortedContent new
    keeps old new r s = subst SortedContent (sym r.made) (members_put r.ms k v (subst SortedContent r.object_is s) h)

-- an element inserted

items_inserted : (ds : Items) (i : ℕ) (x : Content) → SortedItems ds → SortedContent x → SortedItems (insert_item i x ds)
items_inserted no_items zero x a h = (h, tt)
items_inserted no_items (suc i) x a h = (h, tt)
items_inserted (item d ds) zero x a h = (h, a)
items_inserted (item d ds) (suc i) x a h = (a.0, items_inserted ds i x a.1 h)

pub sorted_with_element : (w : Path) (i : ℕ) (v c d : Content) → At w (PutsElement i v) c d → SortedContent v → SortedContent c → SortedContent d
sorted_with_element w i v c d a h = change_sorted w (PutsElement i v) c d a keeps
  where
    keeps : (old new : Content) → PutsElement i v old new → SortedContent old → SortedContent new
    keeps old new r s = subst SortedContent (sym r.made) (items_inserted r.ds i v (subst SortedContent r.array_is s) h)

-- a value replaced

pub sorted_with_value : (w : Path) (v c d : Content) → At w (Writes v) c d → SortedContent v → SortedContent c → SortedContent d
sorted_with_value w v c d a h = change_sorted w (Writes v) c d a (λ old new r s. subst SortedContent (sym r) h)

-- a child removed

items_removed : (ds : Items) (i : ℕ) → SortedItems ds → SortedItems (without_item i ds)
items_removed no_items zero a = tt
items_removed no_items (suc i) a = tt
items_removed (item d ds) zero a = a.1
items_removed (item d ds) (suc i) a = (a.0, items_removed ds i a.1)

above_removed : (j k : Text) (ms : Members) → KeysAbove j ms → KeysAbove j (without_member k ms)
above_removed j k no_members a = tt
above_removed j k (member l d ms) a = by_test (above_removed j k ms a.1) (bytes_eq k l)
  where
    by_test : KeysAbove j (without_member k ms) → (b : Bool) → KeysAbove j (cond b ms (member l d (without_member k ms)))
    by_test later true = a.1
    by_test later false = (a.0, later)

members_removed : (ms : Members) (k : Text) → SortedMembers ms → SortedMembers (without_member k ms)
members_removed no_members k a = tt
members_removed (member l d ms) k a = by_test (members_removed ms k a.2) (bytes_eq k l)
  where
    by_test : SortedMembers (without_member k ms) → (b : Bool) → SortedMembers (cond b ms (member l d (without_member k ms)))
    by_test later true = a.2
    by_test later false = (a.0, above_removed l k ms a.1, later)

child_removed : (s : Step) (v c d : Content) → TakesChild s v c d → SortedContent c → SortedContent d
child_removed (key k) v c d t a = subst SortedContent (sym t.made) (members_removed t.ms k (subst SortedContent t.object_is a))
child_removed (place i) v c d t a = subst SortedContent (sym t.made) (items_removed t.ds i (subst SortedContent t.array_is a))

-- what is left
pub sorted_without : (w : Path) (v c d : Content) → TakesAt w v c d → SortedContent c → SortedContent d
sorted_without w v c d (inl r) a = subst SortedContent (sym (r.2 ∙ null_is)) tt
sorted_without w v c d (inr r) a = change_sorted r.0 (TakesChild r.1 v) c d r.3 (child_removed r.1 v) a

-- and what is removed
pub sorted_taken : (w : Path) (v c d : Content) → TakesAt w v c d → SortedContent c → SortedContent v
sorted_taken w v c d (inl r) a = subst SortedContent r.1 a
sorted_taken w v c d (inr r) a = part_has_sorted_keys (r.0 ++ r.1 ∷ []) c v a (child_at r.0 r.1 v c d r.3)
