-- Two contents with one map are equal, if the keys of their objects are sorted.
use Rattle.std.proofs.Common.{◌≡◌, ℕ, suc, Bool, true, false, cond, Ordering, Less, Equal, Greater, nat_cmp, is_eq, bytes_eq, [], ◌∷◌, Option, Some, None, option_and_then, option_map, refl, sym, ap, ap₂, ◌∙◌, subst}
use mathlib.Core.Path.{fun_ext}
use Rattle.std.specs.Cmp.Lexicographic.{slice_cmp}
use Rattle.std.specs.Ordering.{ordering_reverse}
use Rattle.std.proofs.lemmas.Cmp.{nat_list_cmp_total}
use Rattle.std.proofs.lemmas.Map.Text.{is_eq-slice_cmp}
use Rattle.std.proofs.lemmas.Slice.Eq.{bytes_eq-Decides}
use Rattle.jsonptr_grammar.specs.Text.{Text}
use Rattle.jsonptr_tree.specs.Node.{Scalar, key, place, Path, Label, a_leaf, NodeMap}
use Rattle.jsonptr_tree.specs.Content.{Content, scalar, array, object, Items, no_items, item, Members, no_members, member, get_item, get_member, label_of, content_at, map_of, KeysAbove, SortedContent, SortedItems, SortedMembers}

-- the label at a path, if there is one
seen : Path → Option Content → Option Label
seen p o = option_map label_of (option_and_then (content_at p) o)

-- keys

same_key : (k l : Text) → slice_cmp nat_cmp k l ≡ Equal → k ≡ l
same_key k l e = (bytes_eq-Decides k l).0 (sym (is_eq-slice_cmp k l) ∙ ap is_eq e)

pub below_flip : (k l : Text) → slice_cmp nat_cmp k l ≡ Greater → slice_cmp nat_cmp l k ≡ Less
below_flip k l e = nat_list_cmp_total.antisymm l k ∙ ap ordering_reverse e

pub above_more : (k l : Text) (ms : Members) → slice_cmp nat_cmp k l ≡ Less → KeysAbove l ms → KeysAbove k ms
above_more k l no_members e h = tt
above_more k l (member q d ms) e h = (nat_list_cmp_total.trans k l q e h.0, above_more k l ms e h.1)

-- a key below all keys is of no member
above_none : (k : Text) (ms : Members) → KeysAbove k ms → get_member k ms ≡ None
above_none k no_members h = refl
above_none k (member l d ms) h =
    let other : bytes_eq k l ≡ false = sym (is_eq-slice_cmp k l) ∙ ap is_eq h.0 in
    ap (λ (b : Bool). cond b (Some d) (get_member k ms)) other ∙ above_none k ms h.1

first_found : (k : Text) (d : Content) (ms : Members) → get_member k (member k d ms) ≡ Some d
first_found k d ms = ap (λ (b : Bool). cond b (Some d) (get_member k ms)) ((bytes_eq-Decides k k).1 refl)

-- the label of the first of two members would be there and not there
not_there : {P : Type 0} (a b : Option Content) (d : Content) → seen [] a ≡ seen [] b → a ≡ Some d → b ≡ None → P
unfolding seen
not_there a b d same f g =
    let both : Some (label_of d) ≡ None = sym (ap (seen []) f) ∙ same ∙ ap (seen []) g in
    cc

-- one member less in both
tails : (q k : Text) (d e : Content) (ms fs : Members) (p : Path) → KeysAbove k ms → KeysAbove k fs → seen p (get_member q (member k d ms)) ≡ seen p (get_member q (member k e fs)) → seen p (get_member q ms) ≡ seen p (get_member q fs)
tails q k d e ms fs p h g same = by_test (bytes_eq q k) refl
  where
    by_test : (b : Bool) → bytes_eq q k ≡ b → seen p (get_member q ms) ≡ seen p (get_member q fs)
    by_test true is =
        let one : q ≡ k = (bytes_eq-Decides q k).0 is in
        ap (seen p) (subst (λ (l : Text). KeysAbove l ms → get_member l ms ≡ None) (sym one) (above_none k ms) (subst (λ (l : Text). KeysAbove l ms) (sym one) h))
        ∙ sym (ap (seen p) (subst (λ (l : Text). KeysAbove l fs → get_member l fs ≡ None) (sym one) (above_none k fs) (subst (λ (l : Text). KeysAbove l fs) (sym one) g)))
    by_test false is = subst (λ (b : Bool). seen p (cond b (Some d) (get_member q ms)) ≡ seen p (cond b (Some e) (get_member q fs))) is same

-- a scalar's label determines it
leaf_only : (e : Content) (v : Scalar) → label_of e ≡ a_leaf v → e ≡ scalar v
leaf_only (scalar u) v h = let same : u ≡ v = cc in ap scalar same
leaf_only (array ds) v h = cc
leaf_only (object ms) v h = cc

same_root : (d e : Content) → map_of d ≡ map_of e → label_of e ≡ label_of d
same_root d e h =
    let both : Some (label_of d) ≡ Some (label_of e) = ap (λ (n : NodeMap). n []) h in
    cc both

mutual
  unfolding seen

  same_content : (d e : Content) → SortedContent d → SortedContent e → map_of d ≡ map_of e → d ≡ e
  same_content (scalar v) e a b h = sym (leaf_only e v (same_root (scalar v) e h))
  same_content (array ds) (scalar v) a b h = absurd (other (same_root (array ds) (scalar v) h))
    where
      other : label_of (scalar v) ≡ label_of (array ds) → ⊥
      other f = cc
  same_content (array ds) (array es) a b h = ap array (same_items ds es a b (λ i p. ap (λ (n : NodeMap). n (place i ∷ p)) h))
  same_content (array ds) (object fs) a b h = absurd (other (same_root (array ds) (object fs) h))
    where
      other : label_of (object fs) ≡ label_of (array ds) → ⊥
      other f = cc
  same_content (object ms) (scalar v) a b h = absurd (other (same_root (object ms) (scalar v) h))
    where
      other : label_of (scalar v) ≡ label_of (object ms) → ⊥
      other f = cc
  same_content (object ms) (array es) a b h = absurd (other (same_root (object ms) (array es) h))
    where
      other : label_of (array es) ≡ label_of (object ms) → ⊥
      other f = cc
  same_content (object ms) (object fs) a b h = ap object (same_members ms fs a b (λ k p. ap (λ (n : NodeMap). n (key k ∷ p)) h))

  same_items : (ds es : Items) → SortedItems ds → SortedItems es → ((i : ℕ) (p : Path) → seen p (get_item i ds) ≡ seen p (get_item i es)) → ds ≡ es
  same_items no_items no_items a b h = refl
  same_items no_items (item e es) a b h = not_there (Some e) None e (sym (h 0 [])) refl refl
  same_items (item d ds) no_items a b h = not_there (Some d) None d (h 0 []) refl refl
  same_items (item d ds) (item e es) a b h =
      ap₂ item (same_content d e a.0 b.0 (fun_ext (h 0))) (same_items ds es a.1 b.1 (λ i p. h (suc i) p))

  same_members : (ms fs : Members) → SortedMembers ms → SortedMembers fs → ((k : Text) (p : Path) → seen p (get_member k ms) ≡ seen p (get_member k fs)) → ms ≡ fs
  same_members no_members no_members a b h = refl
  same_members no_members (member l e fs) a b h = not_there (get_member l (member l e fs)) None e (sym (h l [])) (first_found l e fs) refl
  same_members (member k d ms) no_members a b h = not_there (get_member k (member k d ms)) None d (h k []) (first_found k d ms) refl
  same_members (member k d ms) (member l e fs) a b h = by_order (slice_cmp nat_cmp k l) refl (same_content d e a.0 b.0) (same_members ms fs a.2 b.2)
    where
      by_order : (o : Ordering) → slice_cmp nat_cmp k l ≡ o → (map_of d ≡ map_of e → d ≡ e) → (((q : Text) (p : Path) → seen p (get_member q ms) ≡ seen p (get_member q fs)) → ms ≡ fs) → member k d ms ≡ member l e fs
      by_order Less is first rest = not_there (get_member k (member k d ms)) (get_member k (member l e fs)) d (h k []) (first_found k d ms) (above_none k (member l e fs) (is, above_more k l fs is b.1))
      by_order Greater is first rest =
          let less = below_flip k l is in
          not_there (get_member l (member l e fs)) (get_member l (member k d ms)) e (sym (h l [])) (first_found l e fs) (above_none l (member k d ms) (less, above_more l k ms less a.1))
      by_order Equal is first rest =
          let one : k ≡ l = same_key k l is in
          let above : KeysAbove k fs = subst (λ (q : Text). KeysAbove q fs) (sym one) b.1 in
          let all : (q : Text) (p : Path) → seen p (get_member q (member k d ms)) ≡ seen p (get_member q (member k e fs)) = λ q p. subst (λ (r : Text). seen p (get_member q (member k d ms)) ≡ seen p (get_member q (member r e fs))) (sym one) (h q p) in
          let same : d ≡ e = first (fun_ext (λ (p : Path). sym (ap (seen p) (first_found k d ms)) ∙ all k p ∙ ap (seen p) (first_found k e fs))) in
          let left : ms ≡ fs = rest (λ q p. tails q k d e ms fs p a.1 above (all q p)) in
          cc

-- two contents with one map are equal
pub map_of_one : (d e : Content) → SortedContent d → SortedContent e → map_of d ≡ map_of e → d ≡ e
map_of_one = same_content
