-- The members of an object that is parsed have sorted keys.
use Rattle.std.proofs.Common.{◌≡◌, Ordering, Less, Equal, Greater, nat_cmp, List, ℕ, refl}
use Rattle.std.specs.Cmp.Lexicographic.{slice_cmp}
use Rattle.std.specs.Ordering.{match_ordering}
use Rattle.serde_json.specs.Data.{Data, Members, no_members, member, put}
use Rattle.jsonptr_tree.specs.Content.{KeysAbove}
use Rattle.jsonptr_tree.specs.Json.{members, HasSortedKeys, MembersHaveSortedKeys}
use Rattle.jsonptr_tree.proofs.ContentMapLemmas.{below_flip, above_more}

above_put : (j k : List ℕ) (d : Data) (ms : Members) → slice_cmp nat_cmp j k ≡ Less → KeysAbove j (members ms) → KeysAbove j (members (put k d ms))
above_put j k d no_members h a = (h, tt)
above_put j k d (member l e ms) h a = by_order (above_put j k d ms h a.1) (slice_cmp nat_cmp k l)
  where
    by_order : KeysAbove j (members (put k d ms)) → (o : Ordering) → KeysAbove j (members (match_ordering o (member k d (member l e ms)) (member l d ms) (member l e (put k d ms))))
    by_order later Less = (h, (a.0, a.1))
    by_order later Equal = (a.0, a.1)
    by_order later Greater = (a.0, later)

-- a member that is inserted
pub ascends_put : (k : List ℕ) (d : Data) (ms : Members) → HasSortedKeys d → MembersHaveSortedKeys ms → MembersHaveSortedKeys (put k d ms)
ascends_put k d no_members h a = (h, tt, tt)
ascends_put k d (member l e ms) h a = by_order (ascends_put k d ms h a.2) (slice_cmp nat_cmp k l) refl
  where
    by_order : MembersHaveSortedKeys (put k d ms) → (o : Ordering) → slice_cmp nat_cmp k l ≡ o → MembersHaveSortedKeys (match_ordering o (member k d (member l e ms)) (member l d ms) (member l e (put k d ms)))
    by_order later Less is = (h, (is, above_more k l (members ms) is a.1), a)
    by_order later Equal is = (h, a.1, a.2)
    by_order later Greater is = (a.0, above_put l k d ms (below_flip k l is) a.1, later)
