-- Entries in the order of their keys: two objects with the same keys have them at the same positions.
use Rattle.std.proofs.Common.{◌≡◌, suc, Bool, true, false, cond, is_eq, bytes_eq, List, [], ◌∷◌, ◌++◌, length, Option, Some, None, string_bytes, nat_cmp, refl, sym, ap, ◌∙◌, subst, Ordering, Less, Equal, Greater, string_cmp}
use Rattle.std.specs.Prelude.{⊤}
use Rattle.std.proofs.lemmas.Cmp.{nat_list_cmp_total, tied_itself}
use Rattle.std.proofs.lemmas.Map.Text.{is_eq-slice_cmp}
use Rattle.std.proofs.lemmas.Slice.Eq.{bytes_eq-Decides}
use Rattle.std.specs.Cmp.Lexicographic.{slice_cmp}
use Rattle.std.specs.List.{AllByRecursion}
use Rattle.std.specs.List.Sorted.{IsStrictlySortedBy}
use Rattle.std.specs.Map.{keys_of}
use Rattle.std.specs.Ordering.{ordering_reverse}
use Rattle.serde_json.specs.declared.value.Value.{Value}
use Rattle.serde_json.proofs.Views.{Entry}
use Rattle.jsonptr.specs.Text.{Text}
use Rattle.jsonptr_patch.proofs.TestingLemmas.{found_under}
use Rattle.jsonptr_patch_diff.specs.PrivateSame.{SameMember}

-- the keys of entries
abbrev pub texts : List Entry → List Text
texts [] = []
texts (e ∷ es) = string_bytes e.0 ∷ texts es

-- `Below k es`: the key `k` is less than those of the entries
abbrev Below : Text → List Entry → Type 0
Below k [] = ⊤
Below k (e ∷ es) = (slice_cmp nat_cmp k (string_bytes e.0) ≡ Less) × Below k es

-- `Ascend es`: the keys of the entries ascend
abbrev pub Ascend : List Entry → Type 0
Ascend [] = ⊤
Ascend (e ∷ es) = Below (string_bytes e.0) es × Ascend es

-- the entries of an object
pub ascend : (es : List Entry) → IsStrictlySortedBy string_cmp (keys_of es) → Ascend es
unfolding IsStrictlySortedBy
ascend [] h = tt
ascend (e ∷ es) h = (below es h.0, ascend es h.1)
  where
    below : (fs : List Entry) → AllByRecursion (λ y. string_cmp e.0 y ≡ Less) (keys_of fs) → Below (string_bytes e.0) fs
    below [] i = tt
    below (f ∷ fs) i = (i.0, below fs i.1)

below_less : (k l : Text) (es : List Entry) → slice_cmp nat_cmp k l ≡ Less → Below l es → Below k es
below_less k l [] h b = tt
below_less k l (e ∷ es) h b = (nat_list_cmp_total.trans k l (string_bytes e.0) h b.0, below_less k l es h b.1)

-- a lesser key is not found
found_below : (k : Text) (es : List Entry) → Below k es → found_under k es ≡ None
found_below k [] b = refl
found_below k (e ∷ es) b = ap (λ (o : Ordering). cond (is_eq o) (Some e.1) (found_under k es)) b.0 ∙ found_below k es b.1

found_first : (e : Entry) (es : List Entry) → found_under (string_bytes e.0) (e ∷ es) ≡ Some e.1
found_first e es = ap (λ (o : Ordering). cond (is_eq o) (Some e.1) (found_under (string_bytes e.0) es)) (tied_itself nat_list_cmp_total (string_bytes e.0))

found_other : (k : Text) (e : Entry) (es : List Entry) → bytes_eq k (string_bytes e.0) ≡ false → found_under k (e ∷ es) ≡ found_under k es
found_other k e es other = ap (λ (b : Bool). cond b (Some e.1) (found_under k es)) (is_eq-slice_cmp k (string_bytes e.0) ∙ other)

-- `Alike es fs`: under each key the entries have the same value
abbrev pub Alike : List Entry → List Entry → Type 0
Alike es fs = (k : Text) → SameMember (found_under k es) (found_under k fs)

only_first : (v : Value) (p : Option Value) → p ≡ None → SameMember (Some v) p → ⊥
only_first v p is h = subst (SameMember (Some v)) is h

only_second : (w : Value) (o : Option Value) → o ≡ None → SameMember o (Some w) → ⊥
only_second w o is h = subst (λ (q : Option Value). SameMember q (Some w)) is h

neither : (o p : Option Value) → o ≡ None → p ≡ None → SameMember o p
neither o p is other = subst (λ (q : Option Value). SameMember q p) (sym is) (subst (SameMember None) (sym other) tt)

pub alike_texts : (es fs : List Entry) → Ascend es → Ascend fs → Alike es fs → texts es ≡ texts fs
alike_texts [] [] a b h = refl
alike_texts [] (f ∷ fs) a b h = absurd (subst (SameMember None) (found_first f fs) (h (string_bytes f.0)))
alike_texts (e ∷ es) [] a b h = absurd (subst (λ (o : Option Value). SameMember o None) (found_first e es) (h (string_bytes e.0)))
alike_texts (e ∷ es) (f ∷ fs) a b h = by_order (λ (one : Alike es fs). alike_texts es fs a.1 b.1 one) (slice_cmp nat_cmp (string_bytes e.0) (string_bytes f.0)) refl
  where
    here : SameMember (Some e.1) (found_under (string_bytes e.0) (f ∷ fs))
    here = subst (λ (o : Option Value). SameMember o (found_under (string_bytes e.0) (f ∷ fs))) (found_first e es) (h (string_bytes e.0))

    there : SameMember (found_under (string_bytes f.0) (e ∷ es)) (Some f.1)
    there = subst (SameMember (found_under (string_bytes f.0) (e ∷ es))) (found_first f fs) (h (string_bytes f.0))

    rest : string_bytes e.0 ≡ string_bytes f.0 → Alike es fs
    rest one k = by_test (bytes_eq k (string_bytes e.0)) refl
      where
        by_test : (b : Bool) → bytes_eq k (string_bytes e.0) ≡ b → SameMember (found_under k es) (found_under k fs)
        by_test true is =
            let same : k ≡ string_bytes e.0 = (bytes_eq-Decides k (string_bytes e.0)).0 is in
            neither (found_under k es) (found_under k fs) (found_below k es (subst (λ (t : Text). Below t es) (sym same) a.0)) (found_below k fs (subst (λ (t : Text). Below t fs) (sym (same ∙ one)) b.0))
        by_test false is =
            let left : found_under k (e ∷ es) ≡ found_under k es = found_other k e es is in
            let right : found_under k (f ∷ fs) ≡ found_under k fs = found_other k f fs (ap (bytes_eq k) (sym one) ∙ is) in
            subst (λ (o : Option Value). SameMember o (found_under k fs)) left (subst (SameMember (found_under k (e ∷ es))) right (h k))

    by_order : (Alike es fs → texts es ≡ texts fs) → (o : Ordering) → slice_cmp nat_cmp (string_bytes e.0) (string_bytes f.0) ≡ o → texts (e ∷ es) ≡ texts (f ∷ fs)
    by_order more Less is = absurd (only_first e.1 (found_under (string_bytes e.0) (f ∷ fs)) (found_below (string_bytes e.0) (f ∷ fs) (is, below_less (string_bytes e.0) (string_bytes f.0) fs is b.0)) here)
    by_order more Greater is =
        let less : slice_cmp nat_cmp (string_bytes f.0) (string_bytes e.0) ≡ Less = nat_list_cmp_total.antisymm (string_bytes f.0) (string_bytes e.0) ∙ ap ordering_reverse is in
        absurd (only_second f.1 (found_under (string_bytes f.0) (e ∷ es)) (found_below (string_bytes f.0) (e ∷ es) (less, below_less (string_bytes f.0) (string_bytes e.0) es less a.0)) there)
    by_order more Equal is =
        let one : string_bytes e.0 ≡ string_bytes f.0 = (bytes_eq-Decides (string_bytes e.0) (string_bytes f.0)).0 (sym (is_eq-slice_cmp (string_bytes e.0) (string_bytes f.0)) ∙ ap is_eq is) in
        ap (λ (t : Text). t ∷ texts es) one ∙ ap (λ (ts : List Text). string_bytes f.0 ∷ ts) (more (rest one))

-- where the keys before are the same, so are those here
pub texts_here : (es fs more rest : List Entry) (e f : Entry) → texts es ≡ texts fs → texts (es ++ e ∷ more) ≡ texts (fs ++ f ∷ rest) → string_bytes e.0 ≡ string_bytes f.0
texts_here [] [] more rest e f before all = first (string_bytes e.0) (string_bytes f.0) (texts more) (texts rest) all
  where
    first : (k l : Text) (ks ls : List Text) → k ∷ ks ≡ l ∷ ls → k ≡ l
    first k l ks ls is = cc
texts_here [] (y ∷ fs) more rest e f before all = let none : ⊥ = cc in absurd none
texts_here (x ∷ es) [] more rest e f before all = let none : ⊥ = cc in absurd none
texts_here (x ∷ es) (y ∷ fs) more rest e f before all = texts_here es fs more rest e f (tail (string_bytes x.0) (string_bytes y.0) (texts es) (texts fs) before) (tail (string_bytes x.0) (string_bytes y.0) (texts (es ++ e ∷ more)) (texts (fs ++ f ∷ rest)) all)
  where
    tail : (k l : Text) (ks ls : List Text) → k ∷ ks ≡ l ∷ ls → ks ≡ ls
    tail k l ks ls is = cc

-- as many keys as entries
pub texts_length : (es fs : List Entry) → texts es ≡ texts fs → length es ≡ length fs
texts_length es fs is = sym (long es) ∙ ap (λ (ts : List Text). length ts) is ∙ long fs
  where
    long : (gs : List Entry) → length (texts gs) ≡ length gs
    long [] = refl
    long (g ∷ gs) = ap suc (long gs)
