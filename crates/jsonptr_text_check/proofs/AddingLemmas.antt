-- One turn of reading a value beside the same value with one child more.
use Rattle.std.proofs.Common.{◌≡◌, ℕ, List, [], ◌∷◌, ◌++◌, length, Bool, true, false, ◌||◌, IsTrue, ◌↔◌, true≢false, refl, sym, subst}
use Rattle.json.specs.Token.{Token}
use Rattle.serde_json.specs.Data.{Data, Members, put}
use Rattle.jsonptr_text_search.specs.PrivateReading.{ItemsSoFar, MembersSoFar}
use Rattle.jsonptr_text_search.proofs.ReadingLemmas.{items_go_on, members_go_on}
use Rattle.jsonptr_text_check.specs.PrivateEditing.{AddsItemIf, AddsMemberIf, ItemsAdded, MembersAdded, MayFollow}
use Rattle.jsonptr_text_check.proofs.ChildLemmas.{new_item, old_item, new_member, shadowed_member, old_member}

pub items_after : (done wanted : Bool) (i depth : ℕ) (value : List ℕ) (first now new : List Token) (ds ds2 : List Data) (d : Data) → ItemsSoFar depth first now ds → ItemsAdded done i value ds ds2 → AddsItemIf wanted value depth now d new → (IsTrue wanted → length ds2 ≡ i)
    → (ds' : List Data) × ItemsSoFar depth first new ds' × ItemsAdded (done || wanted) i value ds' (ds2 ++ d ∷ [])
items_after false true i depth value first now new ds ds2 d so h v at =
    (ds, subst (λ (ts : List Token). ItemsSoFar depth first ts ds) (sym v.1) so, new_item false i value ds ds2 d h (at refl) v.0)
items_after true true i depth value first now new ds ds2 d so h v at =
    (ds, subst (λ (ts : List Token). ItemsSoFar depth first ts ds) (sym v.1) so, new_item true i value ds ds2 d h (at refl) v.0)
items_after false false i depth value first now new ds ds2 d so h v at =
    (ds ++ d ∷ [], items_go_on depth first now now new ds d so (v.0, refl) v.1 v.2, old_item false i value ds ds2 d h)
items_after true false i depth value first now new ds ds2 d so h v at =
    (ds ++ d ∷ [], items_go_on depth first now now new ds d so (v.0, refl) v.1 v.2, old_item true i value ds ds2 d h)

pub members_after : (done wanted named : Bool) (k name : List ℕ) (depth : ℕ) (value : List ℕ) (first now new : List Token) (ms ms2 : Members) (d : Data) → MembersSoFar depth first now ms → MembersAdded done k value ms ms2 → AddsMemberIf wanted named value depth name now d new → (IsTrue named ↔ (name ≡ k)) → MayFollow done wanted named
    → (ms' : Members) × MembersSoFar depth first new ms' × MembersAdded (done || wanted) k value ms' (put name d ms2)
members_after false true named k name depth value first now new ms ms2 d so h v iff may =
    (ms, subst (λ (ts : List Token). MembersSoFar depth first ts ms) (sym v.1) so, new_member k name value ms ms2 d h (iff.0 may) v.0)
members_after true true named k name depth value first now new ms ms2 d so h v iff may = absurd may
members_after false false true k name depth value first now new ms ms2 d so h v iff may =
    (ms, subst (λ (ts : List Token). MembersSoFar depth first ts ms) (sym v) so, shadowed_member k name value ms ms2 d h (iff.0 refl))
members_after true false true k name depth value first now new ms ms2 d so h v iff may = absurd (true≢false may)
members_after false false false k name depth value first now new ms ms2 d so h v iff may =
    (put name d ms, members_go_on depth first now v.0 new name d ms so v.1 v.2 v.3, old_member false k name value ms ms2 d h (λ e. true≢false (sym (iff.1 (sym e)))))
members_after true false false k name depth value first now new ms ms2 d so h v iff may =
    (put name d ms, members_go_on depth first now v.0 new name d ms so v.1 v.2 v.3, old_member true k name value ms ms2 d h (λ e. true≢false (sym (iff.1 (sym e)))))
