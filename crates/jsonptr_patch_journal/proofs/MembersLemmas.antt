-- Members of an object put into room for them, and taken out of it.
use Rattle.std.proofs.Common.{◌≡◌, Bool, true, false, cond, Ordering, Less, Equal, Greater, nat_cmp, is_eq, bytes_eq, List, [], ◌∷◌, ◌++◌, Option, Some, None, option_map, IsSome, String, string_bytes, BTreeMap, Global, refl, sym, ap, ap₂, ◌∙◌, subst}
use Rattle.std.specs.Prelude.{⊤}
use Rattle.std.specs.BTreeMap.{insert_entry, IsOrdered, is_at, get_by_text}
use Rattle.std.specs.Map.{remove_entry, keys_of, lookup}
use Rattle.std.specs.List.{AllByRecursion}
use Rattle.std.specs.List.Sorted.{IsStrictlySortedBy}
use Rattle.std.specs.Prelude.{string_cmp}
use Rattle.std.specs.Cmp.Lexicographic.{slice_cmp}
use Rattle.std.specs.Ordering.{ordering_reverse, match_ordering}
use Rattle.std.proofs.lemmas.Cmp.{nat_list_cmp_total}
use Rattle.std.proofs.lemmas.Map.Text.{is_eq-slice_cmp}
use Rattle.std.proofs.lemmas.Slice.Eq.{bytes_eq-Decides}
use Rattle.serde_json.specs.declared.value.Value.{Value}
use Rattle.jsonptr.specs.Text.{Text}
use Rattle.jsonptr.specs.Content.{Content, Members, no_members, member, get_member, KeysAbove}
use Rattle.jsonptr_patch_journal.specs.Location.{contents_of}
use Rattle.jsonptr_tree.proofs.ContentMapLemmas.{above_more, below_flip}
use Rattle.jsonptr_patch_journal.specs.Children.{members_in, members_of, put_member, put_all, without_member, KeysRise, HasAll, IsRoom}

-- the first members have the keys of the second ones, in the same order
abbrev pub SameKeys : Members → Members → Type 0
SameKeys no_members no_members = ⊤
SameKeys no_members (member l d ms) = ⊥
SameKeys (member k c ns) no_members = ⊥
SameKeys (member k c ns) (member l d ms) = (k ≡ l) × SameKeys ns ms

-- ---- keys

same_key : (k l : Text) → slice_cmp nat_cmp k l ≡ Equal → k ≡ l
same_key k l e = (bytes_eq-Decides k l).0 (sym (is_eq-slice_cmp k l) ∙ ap is_eq e)

above_flip : (k l : Text) → slice_cmp nat_cmp k l ≡ Less → slice_cmp nat_cmp l k ≡ Greater
above_flip k l e = nat_list_cmp_total.antisymm l k ∙ ap ordering_reverse e

equal_from : (k l : Text) → is_eq (slice_cmp nat_cmp k l) ≡ true → slice_cmp nat_cmp k l ≡ Equal
equal_from k l h = by_order (slice_cmp nat_cmp k l) h
  where
    by_order : (o : Ordering) → is_eq o ≡ true → o ≡ Equal
    by_order Less e = let no : ⊥ = cc in absurd no
    by_order Equal e = refl
    by_order Greater e = let no : ⊥ = cc in absurd no

same_cmp : (k : Text) → slice_cmp nat_cmp k k ≡ Equal
same_cmp k = equal_from k k (is_eq-slice_cmp k k ∙ (bytes_eq-Decides k k).1 refl)

other_from : (k l : Text) (o : Ordering) → slice_cmp nat_cmp k l ≡ o → is_eq o ≡ false → bytes_eq k l ≡ false
other_from k l o is h = sym (is_eq-slice_cmp k l) ∙ ap is_eq is ∙ h

other_key : (k l : Text) → slice_cmp nat_cmp k l ≡ Greater → bytes_eq k l ≡ false
other_key k l is = other_from k l Greater is refl

above_lacks : (k : Text) (ms : Members) → KeysAbove k ms → get_member k ms ≡ None
above_lacks k no_members h = refl
above_lacks k (member l d ms) h = ap (λ (b : Bool). cond b (Some d) (get_member k ms)) (other_from k l Less h.0 refl) ∙ above_lacks k ms h.1

-- ---- one put

put_here : (k : Text) (c d : Content) (ms : Members) → put_member k c (member k d ms) ≡ member k c ms
put_here k c d ms = ap (λ (o : Ordering). match_ordering o (member k c (member k d ms)) (member k c ms) (member k d (put_member k c ms))) (same_cmp k)

put_beyond : (k l : Text) (c d : Content) (ms : Members) → slice_cmp nat_cmp l k ≡ Less → put_member k c (member l d ms) ≡ member l d (put_member k c ms)
put_beyond k l c d ms h = ap (λ (o : Ordering). match_ordering o (member k c (member l d ms)) (member l c ms) (member l d (put_member k c ms))) (above_flip l k h)

-- ---- all put

all_beyond : (l : Text) (d : Content) (xs base : Members) → KeysAbove l xs → put_all xs (member l d base) ≡ member l d (put_all xs base)
all_beyond l d no_members base h = refl
all_beyond l d (member k c xs) base h = ap (put_all xs) (put_beyond k l c d base h.0) ∙ all_beyond l d xs (put_member k c base) h.1

all_same : (ms base : Members) → KeysRise ms → SameKeys base ms → put_all ms base ≡ ms
all_same no_members no_members rise same = refl
all_same no_members (member l b base) rise same = absurd same
all_same (member k c ms) no_members rise same = absurd same
all_same (member k c ms) (member l b base) rise same =
    ap (λ (t : Text). put_all ms (put_member k c (member t b base))) same.0
    ∙ ap (put_all ms) (put_here k c b base)
    ∙ all_beyond k c ms base rise.0
    ∙ ap (member k c) (all_same ms base rise.1 same.1)

above_without : (l k : Text) (ms : Members) → KeysAbove l ms → KeysAbove l (without_member k ms)
above_without l k no_members h = tt
above_without l k (member q d ms) h = by_test (above_without l k ms h.1) (bytes_eq k q)
  where
    by_test : KeysAbove l (without_member k ms) → (b : Bool) → KeysAbove l (cond b ms (member q d (without_member k ms)))
    by_test later true = h.1
    by_test later false = (h.0, later)

above_found : (l k : Text) (c : Content) (ms : Members) → KeysAbove l ms → get_member k ms ≡ Some c → slice_cmp nat_cmp l k ≡ Less
above_found l k c no_members h found = let no : ⊥ = cc in absurd no
above_found l k c (member q d ms) h found = by_test (above_found l k c ms h.1) (bytes_eq k q) refl found
  where
    by_test : (get_member k ms ≡ Some c → slice_cmp nat_cmp l k ≡ Less) → (b : Bool) → bytes_eq k q ≡ b → cond b (Some d) (get_member k ms) ≡ Some c → slice_cmp nat_cmp l k ≡ Less
    by_test later true is g = subst (λ (t : Text). slice_cmp nat_cmp l t ≡ Less) (sym ((bytes_eq-Decides k q).0 is)) h.0
    by_test later false is g = later g

-- ---- there is room

still_there : (q k : Text) (c : Content) (ms : Members) → IsSome (get_member q ms) → IsSome (get_member q (put_member k c ms))
still_there q k c no_members h = let no : ⊥ = cc in absurd no
still_there q k c (member l d ms) h = by_order (still_there q k c ms) (slice_cmp nat_cmp k l)
  where
    either : (b : Bool) (o : Option Content) (e : Content) → IsSome o → IsSome (cond b (Some e) o)
    either true o e g = refl
    either false o e g = g

    change : (b : Bool) (d e : Content) (o p : Option Content) → (IsSome o → IsSome p) → IsSome (cond b (Some d) o) → IsSome (cond b (Some e) p)
    change true d e o p f g = refl
    change false d e o p f g = f g

    by_order : (IsSome (get_member q ms) → IsSome (get_member q (put_member k c ms))) → (o : Ordering) → IsSome (get_member q (match_ordering o (member k c (member l d ms)) (member l c ms) (member l d (put_member k c ms))))
    by_order later Less = either (bytes_eq q k) (get_member q (member l d ms)) c h
    by_order later Equal = change (bytes_eq q l) d c (get_member q ms) (get_member q ms) (λ g. g) h
    by_order later Greater = change (bytes_eq q l) d d (get_member q ms) (get_member q (put_member k c ms)) later h

pub has_still : (k : Text) (c : Content) (ms base : Members) → HasAll ms base → HasAll ms (put_member k c base)
has_still k c no_members base h = tt
has_still k c (member q d ms) base h = (still_there q k c base h.0, has_still k c ms base h.1)

has_wider : (l : Text) (b : Content) (ms base : Members) → HasAll ms base → HasAll ms (member l b base)
has_wider l b no_members base h = tt
has_wider l b (member q d ms) base h = (wider (bytes_eq q l), has_wider l b ms base h.1)
  where
    wider : (t : Bool) → IsSome (cond t (Some b) (get_member q base))
    wider true = refl
    wider false = h.0

first_there : (k : Text) (d : Content) (ms : Members) → get_member k (member k d ms) ≡ Some d
first_there k d ms = ap (λ (b : Bool). cond b (Some d) (get_member k ms)) ((bytes_eq-Decides k k).1 refl)

has_same : (ms base : Members) → SameKeys base ms → HasAll ms base
has_same no_members base same = tt
has_same (member k c ms) no_members same = absurd same
has_same (member k c ms) (member l b base) same =
    (subst (λ (t : Text). IsSome (get_member k (member t b base))) (sym same.0) (subst (λ (o : Option Content). IsSome o) (sym (first_there k b base)) refl), has_wider l b ms base (has_same ms base same.1))

has_less : (k : Text) (ms base : Members) → HasAll ms base → HasAll (without_member k ms) base
has_less k no_members base h = tt
has_less k (member l d ms) base h = by_test (has_less k ms base h.1) (bytes_eq k l)
  where
    by_test : HasAll (without_member k ms) base → (b : Bool) → HasAll (cond b ms (member l d (without_member k ms))) base
    by_test later true = h.1
    by_test later false = (h.0, later)

-- room for members is room for them still once one of them is moved into it

put_before : (k l : Text) (c d : Content) (ms : Members) → slice_cmp nat_cmp k l ≡ Less → put_member k c (member l d ms) ≡ member k c (member l d ms)
put_before k l c d ms h = ap (λ (o : Ordering). match_ordering o (member k c (member l d ms)) (member l c ms) (member l d (put_member k c ms))) h

put_equal : (k l : Text) (c d : Content) (ms : Members) → slice_cmp nat_cmp k l ≡ Equal → put_member k c (member l d ms) ≡ member l c ms
put_equal k l c d ms h = ap (λ (o : Ordering). match_ordering o (member k c (member l d ms)) (member l c ms) (member l d (put_member k c ms))) h

put_after : (k l : Text) (c d : Content) (ms : Members) → slice_cmp nat_cmp k l ≡ Greater → put_member k c (member l d ms) ≡ member l d (put_member k c ms)
put_after k l c d ms h = ap (λ (o : Ordering). match_ordering o (member k c (member l d ms)) (member l c ms) (member l d (put_member k c ms))) h

less_on : (k l q : Text) (c : Content) → slice_cmp nat_cmp k l ≡ Less → slice_cmp nat_cmp l q ≡ Less → slice_cmp nat_cmp k q ≡ Less
less_on k l q c h i = (above_more k l (member q c no_members) h (i, tt)).0

put_in_order : (k l : Text) (c d : Content) (ms : Members) → slice_cmp nat_cmp k l ≡ Less → put_member k c (put_member l d ms) ≡ put_member l d (put_member k c ms)
put_in_order k l c d no_members h = put_before k l c d no_members h ∙ sym (put_beyond l k d c no_members h)
put_in_order k l c d (member q x ms) h = by_order (put_in_order k l c d ms h) (slice_cmp nat_cmp l q) refl (slice_cmp nat_cmp k q) refl
  where
    before : slice_cmp nat_cmp k q ≡ Less → put_member l d (put_member k c (member q x ms)) ≡ member k c (put_member l d (member q x ms))
    before a = ap (put_member l d) (put_before k q c x ms a) ∙ put_beyond l k d c (member q x ms) h

    by_order : put_member k c (put_member l d ms) ≡ put_member l d (put_member k c ms) → (b : Ordering) → slice_cmp nat_cmp l q ≡ b → (a : Ordering) → slice_cmp nat_cmp k q ≡ a → put_member k c (put_member l d (member q x ms)) ≡ put_member l d (put_member k c (member q x ms))
    by_order later Less l_q a k_q =
        ap (put_member k c) (put_before l q d x ms l_q)
        ∙ put_before k l c d (member q x ms) h
        ∙ sym (before (less_on k l q c h l_q) ∙ ap (member k c) (put_before l q d x ms l_q))
    by_order later Equal l_q a k_q =
        let below : slice_cmp nat_cmp k q ≡ Less = subst (λ (t : Text). slice_cmp nat_cmp k t ≡ Less) (same_key l q l_q) h in
        ap (put_member k c) (put_equal l q d x ms l_q)
        ∙ put_before k q c d ms below
        ∙ sym (before below ∙ ap (member k c) (put_equal l q d x ms l_q))
    by_order later Greater l_q Less k_q =
        ap (put_member k c) (put_after l q d x ms l_q)
        ∙ put_before k q c x (put_member l d ms) k_q
        ∙ sym (before k_q ∙ ap (member k c) (put_after l q d x ms l_q))
    by_order later Greater l_q Equal k_q =
        ap (put_member k c) (put_after l q d x ms l_q)
        ∙ put_equal k q c x (put_member l d ms) k_q
        ∙ sym (ap (put_member l d) (put_equal k q c x ms k_q) ∙ put_after l q d c ms l_q)
    by_order later Greater l_q Greater k_q =
        ap (put_member k c) (put_after l q d x ms l_q)
        ∙ put_after k q c x (put_member l d ms) k_q
        ∙ ap (member q x) later
        ∙ sym (ap (put_member l d) (put_after k q c x ms k_q) ∙ put_after l q d x (put_member k c ms) l_q)

put_commutes : (k l : Text) (c d : Content) (ms : Members) → bytes_eq k l ≡ false → put_member k c (put_member l d ms) ≡ put_member l d (put_member k c ms)
put_commutes k l c d ms other = by_order (slice_cmp nat_cmp k l) refl
  where
    by_order : (o : Ordering) → slice_cmp nat_cmp k l ≡ o → put_member k c (put_member l d ms) ≡ put_member l d (put_member k c ms)
    by_order Less h = put_in_order k l c d ms h
    by_order Greater h = sym (put_in_order l k d c ms (below_flip k l h))
    by_order Equal h =
        let same : bytes_eq k l ≡ true = (bytes_eq-Decides k l).1 (same_key k l h) in
        let no : ⊥ = cc in absurd no

put_aside : (k : Text) (c : Content) (left room : Members) → get_member k left ≡ Some c → put_all (without_member k left) (put_member k c room) ≡ put_all left room
put_aside k c no_members room found = let no : ⊥ = cc in absurd no
put_aside k c (member l d left) room found = by_test (λ base. put_aside k c left base) (bytes_eq k l) refl found
  where
    by_test : ((base : Members) → get_member k left ≡ Some c → put_all (without_member k left) (put_member k c base) ≡ put_all left base) → (t : Bool) → bytes_eq k l ≡ t → cond t (Some d) (get_member k left) ≡ Some c → put_all (cond t left (member l d (without_member k left))) (put_member k c room) ≡ put_all left (put_member l d room)
    by_test later true is g =
        let one : k ≡ l = (bytes_eq-Decides k l).0 is in
        let value : c ≡ d = cc in
        ap₂ (λ (t : Text) (x : Content). put_all left (put_member t x room)) one value
    by_test later false is g =
        ap (put_all (without_member k left)) (sym (put_commutes k l c d room is)) ∙ later (put_member l d room) g

pub has_found : (k : Text) (c : Content) (ms base : Members) → HasAll ms base → get_member k ms ≡ Some c → IsSome (get_member k base)
has_found k c no_members base h found = let no : ⊥ = cc in absurd no
has_found k c (member l d ms) base h found = by_test (has_found k c ms base h.1) (bytes_eq k l) refl found
  where
    by_test : (get_member k ms ≡ Some c → IsSome (get_member k base)) → (t : Bool) → bytes_eq k l ≡ t → cond t (Some d) (get_member k ms) ≡ Some c → IsSome (get_member k base)
    by_test later true is g = subst (λ (t : Text). IsSome (get_member t base)) (sym ((bytes_eq-Decides k l).0 is)) h.0
    by_test later false is g = later g

module _ (k : Text) (c : Content) (room left ms : Members) (r : IsRoom room left ms) (found : get_member k left ≡ Some c) where
  pub room_has : IsSome (get_member k room)
  room_has = has_found k c left room r.has found

  pub room_aside : IsRoom (put_member k c room) (without_member k left) ms
  room_aside = record {
    has = has_still k c (without_member k left) room (has_less k left room r.has);
    whole = put_aside k c left room found ∙ r.whole;
  }

pub room_of_all : (room ms : Members) → KeysRise ms → SameKeys room ms → IsRoom room ms ms
room_of_all room ms rise same = record { has = has_same ms room same; whole = all_same ms room rise same }

-- ---- a member put, and what undoes it

pub found_put : (k : Text) (v : Content) (ms : Members) → get_member k (put_member k v ms) ≡ Some v
found_put k v no_members = first_there k v no_members
found_put k v (member l d ms) = by_order (found_put k v ms) (slice_cmp nat_cmp k l) refl
  where
    by_order : get_member k (put_member k v ms) ≡ Some v → (o : Ordering) → slice_cmp nat_cmp k l ≡ o → get_member k (match_ordering o (member k v (member l d ms)) (member l v ms) (member l d (put_member k v ms))) ≡ Some v
    by_order later Less is = first_there k v (member l d ms)
    by_order later Equal is = subst (λ (t : Text). get_member k (member t v ms) ≡ Some v) (same_key k l is) (first_there k v ms)
    by_order later Greater is = ap (λ (b : Bool). cond b (Some d) (get_member k (put_member k v ms))) (other_key k l is) ∙ later

pub without_put : (k : Text) (v : Content) (ms : Members) → get_member k ms ≡ None → without_member k (put_member k v ms) ≡ ms
without_put k v no_members lacks = ap (λ (b : Bool). cond b no_members (member k v no_members)) ((bytes_eq-Decides k k).1 refl)
without_put k v (member l d ms) lacks = by_order (without_put k v ms) (slice_cmp nat_cmp k l) refl
  where
    by_order : (get_member k ms ≡ None → without_member k (put_member k v ms) ≡ ms) → (o : Ordering) → slice_cmp nat_cmp k l ≡ o → without_member k (match_ordering o (member k v (member l d ms)) (member l v ms) (member l d (put_member k v ms))) ≡ member l d ms
    by_order later Less is = ap (λ (b : Bool). cond b (member l d ms) (member k v (without_member k (member l d ms)))) ((bytes_eq-Decides k k).1 refl)
    by_order later Equal is =
        let there : get_member k (member l d ms) ≡ Some d = subst (λ (t : Text). get_member k (member t d ms) ≡ Some d) (same_key k l is) (first_there k d ms) in
        let no : ⊥ = cc in absurd no
    by_order later Greater is =
        let lacks_still : get_member k ms ≡ None = sym (ap (λ (b : Bool). cond b (Some d) (get_member k ms)) (other_key k l is)) ∙ lacks in
        ap (λ (b : Bool). cond b (put_member k v ms) (member l d (without_member k (put_member k v ms)))) (other_key k l is) ∙ ap (member l d) (later lacks_still)

pub put_back : (k : Text) (v w : Content) (ms : Members) → KeysRise ms → get_member k ms ≡ Some w → put_member k w (put_member k v ms) ≡ ms
put_back k v w no_members rise found = let no : ⊥ = cc in absurd no
put_back k v w (member l d ms) rise found = by_order (put_back k v w ms rise.1) (slice_cmp nat_cmp k l) refl
  where
    by_order : (get_member k ms ≡ Some w → put_member k w (put_member k v ms) ≡ ms) → (o : Ordering) → slice_cmp nat_cmp k l ≡ o → put_member k w (match_ordering o (member k v (member l d ms)) (member l v ms) (member l d (put_member k v ms))) ≡ member l d ms
    by_order later Less is =
        let none : get_member k (member l d ms) ≡ None = above_lacks k (member l d ms) (is, above_more k l ms is rise.0) in
        let no : ⊥ = cc in absurd no
    by_order later Equal is =
        let there : get_member k (member l d ms) ≡ Some d = subst (λ (t : Text). get_member k (member t d ms) ≡ Some d) (same_key k l is) (first_there k d ms) in
        let value : w ≡ d = cc in
        put_equal k l w v ms is ∙ ap (λ (x : Content). member l x ms) value
    by_order later Greater is =
        let found_still : get_member k ms ≡ Some w = sym (ap (λ (b : Bool). cond b (Some d) (get_member k ms)) (other_key k l is)) ∙ found in
        put_after k l w d (put_member k v ms) is ∙ ap (member l d) (later found_still)

-- ---- in a map

pub members-insert : (es : List (String Global × Value)) (k : String Global) (x : Value) → members_in (insert_entry string_cmp es k x) ≡ put_member (string_bytes k) (contents_of x) (members_in es)
members-insert [] k x = refl
members-insert (e ∷ es) k x = by_order (members-insert es k x) (string_cmp k e.0)
  where
    by_order : members_in (insert_entry string_cmp es k x) ≡ put_member (string_bytes k) (contents_of x) (members_in es) → (o : Ordering) → members_in (match_ordering o ((k, x) ∷ e ∷ es) ((e.0, x) ∷ es) (e ∷ insert_entry string_cmp es k x)) ≡ match_ordering o (member (string_bytes k) (contents_of x) (members_in (e ∷ es))) (member (string_bytes e.0) (contents_of x) (members_in es)) (member (string_bytes e.0) (contents_of e.1) (put_member (string_bytes k) (contents_of x) (members_in es)))
    by_order later Less = refl
    by_order later Equal = refl
    by_order later Greater = ap (member (string_bytes e.0) (contents_of e.1)) later

pub members-remove : (k : Text) (es : List (String Global × Value)) → members_in (remove_entry (is_at (λ q. slice_cmp nat_cmp k (string_bytes q))) es) ≡ without_member k (members_in es)
members-remove k [] = refl
members-remove k (e ∷ es) = by_test (members-remove k es) (is_eq (slice_cmp nat_cmp k (string_bytes e.0))) (bytes_eq k (string_bytes e.0)) (is_eq-slice_cmp k (string_bytes e.0))
  where
    by_test : members_in (remove_entry (is_at (λ q. slice_cmp nat_cmp k (string_bytes q))) es) ≡ without_member k (members_in es) → (a b : Bool) → a ≡ b → members_in (cond a es (e ∷ remove_entry (is_at (λ q. slice_cmp nat_cmp k (string_bytes q))) es)) ≡ cond b (members_in es) (member (string_bytes e.0) (contents_of e.1) (without_member k (members_in es)))
    by_test later true true h = refl
    by_test later true false h = let no : ⊥ = cc in absurd no
    by_test later false true h = let no : ⊥ = cc in absurd no
    by_test later false false h = ap (member (string_bytes e.0) (contents_of e.1)) later

keys_above : (k : String Global) (es : List (String Global × Value)) → AllByRecursion (λ y. string_cmp k y ≡ Less) (keys_of es) → KeysAbove (string_bytes k) (members_in es)
keys_above k [] h = tt
keys_above k (e ∷ es) h = (h.0, keys_above k es h.1)

rising : (es : List (String Global × Value)) → IsStrictlySortedBy string_cmp (keys_of es) → KeysRise (members_in es)
unfolding IsStrictlySortedBy
rising [] order = tt
rising (e ∷ es) order = (keys_above e.0 es order.0, rising es order.1)

pub map_rises : (m : BTreeMap (String Global) Value) → IsOrdered string_cmp m → KeysRise (members_of m)
map_rises m order = rising m.entries order

-- what a look-up finds

looked_none : (k : Text) (es : List (String Global × Value)) → lookup (is_at (λ q. slice_cmp nat_cmp k (string_bytes q))) es ≡ None → get_member k (members_in es) ≡ None
looked_none k [] h = refl
looked_none k (e ∷ es) h = by_test (looked_none k es) (is_eq (slice_cmp nat_cmp k (string_bytes e.0))) (bytes_eq k (string_bytes e.0)) (is_eq-slice_cmp k (string_bytes e.0)) h
  where
    by_test : (lookup (is_at (λ q. slice_cmp nat_cmp k (string_bytes q))) es ≡ None → get_member k (members_in es) ≡ None) → (a b : Bool) → a ≡ b → cond a (Some e.1) (lookup (is_at (λ q. slice_cmp nat_cmp k (string_bytes q))) es) ≡ None → cond b (Some (contents_of e.1)) (get_member k (members_in es)) ≡ None
    by_test later true b is g = let no : ⊥ = cc in absurd no
    by_test later false true is g = let no : ⊥ = cc in absurd no
    by_test later false false is g = later g

looked_some : (k : Text) (es : List (String Global × Value)) (v : Value) → lookup (is_at (λ q. slice_cmp nat_cmp k (string_bytes q))) es ≡ Some v → get_member k (members_in es) ≡ Some (contents_of v)
looked_some k [] v h = let no : ⊥ = cc in absurd no
looked_some k (e ∷ es) v h = by_test (looked_some k es v) (is_eq (slice_cmp nat_cmp k (string_bytes e.0))) (bytes_eq k (string_bytes e.0)) (is_eq-slice_cmp k (string_bytes e.0)) h
  where
    by_test : (lookup (is_at (λ q. slice_cmp nat_cmp k (string_bytes q))) es ≡ Some v → get_member k (members_in es) ≡ Some (contents_of v)) → (a b : Bool) → a ≡ b → cond a (Some e.1) (lookup (is_at (λ q. slice_cmp nat_cmp k (string_bytes q))) es) ≡ Some v → cond b (Some (contents_of e.1)) (get_member k (members_in es)) ≡ Some (contents_of v)
    by_test later true true is g = let same : e.1 ≡ v = cc in ap (λ (x : Value). Some (contents_of x)) same
    by_test later true false is g = let no : ⊥ = cc in absurd no
    by_test later false true is g = let no : ⊥ = cc in absurd no
    by_test later false false is g = later g

pub map_lacks : (m : BTreeMap (String Global) Value) (k : Text) → get_by_text m k ≡ None → get_member k (members_of m) ≡ None
map_lacks m k h = looked_none k m.entries h

pub map_finds : (m : BTreeMap (String Global) Value) (k : Text) (v : Value) → get_by_text m k ≡ Some v → get_member k (members_of m) ≡ Some (contents_of v)
map_finds m k v h = looked_some k m.entries v h

pub map_looks : (m : BTreeMap (String Global) Value) (k : Text) (o : Option Value) → o ≡ get_by_text m k → get_member k (members_of m) ≡ option_map contents_of o
map_looks m k None h = map_lacks m k (sym h)
map_looks m k (Some v) h = map_finds m k v (sym h)

pub not_lacking : {P : Type 0} (o : Option Content) → IsSome o → o ≡ None → P
not_lacking o h e = let no : ⊥ = cc in absurd no

-- room made member by member

above_last : (l : Text) (done : List (String Global × Value)) (e : String Global × Value) (left : List (String Global × Value)) → KeysAbove l (members_in (done ++ e ∷ left)) → slice_cmp nat_cmp l (string_bytes e.0) ≡ Less
above_last l [] e left h = h.0
above_last l (d ∷ done) e left h = above_last l done e left h.1

pub room_more : (ns : Members) (done : List (String Global × Value)) (e : String Global × Value) (left : List (String Global × Value)) (k : Text) (c : Content) → k ≡ string_bytes e.0 → KeysRise (members_in (done ++ e ∷ left)) → SameKeys ns (members_in done) → SameKeys (put_member k c ns) (members_in (done ++ e ∷ []))
room_more no_members [] e left k c is rise same = (is, tt)
room_more (member n x ns) [] e left k c is rise same = absurd same
room_more no_members (d ∷ done) e left k c is rise same = absurd same
room_more (member n x ns) (d ∷ done) e left k c is rise same =
    let above : slice_cmp nat_cmp n k ≡ Less = subst (λ (t : Text). slice_cmp nat_cmp n t ≡ Less) (sym is) (subst (λ (t : Text). slice_cmp nat_cmp t (string_bytes e.0) ≡ Less) (sym same.0) (above_last (string_bytes d.0) done e left rise.0)) in
    subst (λ (m : Members). SameKeys m (members_in (d ∷ done ++ e ∷ []))) (sym (put_beyond k n c x ns above)) (same.0, room_more ns done e left k c is rise.1 same.1)

pub map_put : (m n : BTreeMap (String Global) Value) (k : String Global) (x : Value) → n.entries ≡ insert_entry string_cmp m.entries k x → members_of n ≡ put_member (string_bytes k) (contents_of x) (members_of m)
map_put m n k x h = ap members_in h ∙ members-insert m.entries k x

pub moved_there : (now next room : BTreeMap (String Global) Value) (k : String Global) (x : Value) → now.entries ≡ (k, x) ∷ next.entries → HasAll (members_of now) (members_of room) → IsSome (get_member (string_bytes k) (members_of room))
moved_there now next room k x popped h = (subst (λ (es : List (String Global × Value)). HasAll (members_in es) (members_of room)) popped h).0

-- one member moved into the room
module _ (now next room more : BTreeMap (String Global) Value) (k : String Global) (x : Value) (popped : now.entries ≡ (k, x) ∷ next.entries) (put : members_of more ≡ put_member (string_bytes k) (contents_of x) (members_of room)) where
  pub moved_has : HasAll (members_of now) (members_of room) → HasAll (members_of next) (members_of more)
  moved_has h = subst (λ (ms : Members). HasAll (members_of next) ms) (sym put) (has_still (string_bytes k) (contents_of x) (members_of next) (members_of room) (subst (λ (es : List (String Global × Value)). HasAll (members_in es) (members_of room)) popped h).1)

  pub moved_all : put_all (members_of next) (members_of more) ≡ put_all (members_of now) (members_of room)
  moved_all = ap (put_all (members_of next)) put ∙ sym (ap (λ (es : List (String Global × Value)). put_all (members_in es) (members_of room)) popped)
