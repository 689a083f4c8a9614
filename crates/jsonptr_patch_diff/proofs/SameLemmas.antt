-- Values that are the same, part by part.
use Rattle.std.proofs.Common.{◌≡◌, ℕ, ◌<◌, ◌≤◌, Bool, true, false, not, bytes_eq, is_some, cond, is_eq, nat_cmp, length-append, append-nil, List, [], ◌∷◌, ◌++◌, length, Option, Some, None, IsTrue, ◌↔◌, ⊎_elim, Vec, Global, string_bytes, refl, sym, ap, ◌∙◌, subst, arith, true≢false, string_cmp}
use Rattle.std.specs.Prelude.{⊤}
use mathlib.Core.Path.{fun_ext}
use mathlib.Core.Bool.{beq}
use Rattle.std.proofs.lemmas.Bool.{cases_lt}
use Rattle.std.proofs.lemmas.Slice.Eq.{bytes_eq-Decides}
use Rattle.std.specs.BTreeMap.{get_by_text}
use Rattle.std.specs.Cmp.Lexicographic.{slice_cmp}
use Rattle.std.specs.List.Sorted.{IsStrictlySortedBy}
use Rattle.std.specs.Map.{keys_of}
use Rattle.serde_json.specs.Data as json
use Rattle.serde_json.specs.Find.{as_null, as_bool, as_number, as_str, as_array, as_object}
use Rattle.serde_json.specs.View.{view, items_view, members_view}
use Rattle.serde_json.specs.declared.value.Value.{Value, Null, Array, Object}
use Rattle.serde_json.proofs.Views.{Entry}
use Rattle.jsonptr.specs.Node.{key, place, Path, Scalar, of_json, Label, an_object, an_array, a_leaf, NodeMap}
use Rattle.jsonptr.specs.Content.{Content, scalar, map_of}
use Rattle.jsonptr.specs.Json.{content, nodes}
use Rattle.jsonptr_tree.proofs.JsonLemmas.{content_of, content_one}
use Rattle.jsonptr_document.proofs.JsonLevel.{array_at, object_at}
use Rattle.jsonptr_patch.specs.PrivateTesting as tested
use Rattle.jsonptr_patch.proofs.TestingLemmas.{never, no_none, found_middle, found_under, label_in, element_label, past_label, array_label, no_key_label, member_label, object_label, no_place_label}
use Rattle.jsonptr_patch_diff.proofs.SortedLemmas.{texts, ascend, Alike, alike_texts, texts_here, texts_length}
use Rattle.jsonptr_patch_diff.specs.PrivateSame.{IsTwin, IsSame, SameElements, SameMember, SameMembers}

-- ---- maps

pub twin_same : (n m : NodeMap) → IsTwin n m → n ≡ m
twin_same n m h = fun_ext h

pub twin_made : (n m : NodeMap) → n ≡ m → IsTwin n m
twin_made n m same w = ap (λ (l : NodeMap). l w) same

-- ---- labels

both : (a b c d : Option Label) → a ≡ c → b ≡ d → c ≡ d → a ≡ b
both a b c d e f h = e ∙ h ∙ sym f

same_length : (n k : ℕ) → Some (an_array n) ≡ Some (an_array k) → n ≡ k
same_length n k h = cc

-- ---- arrays and objects

pub elements_same : (v w : Vec Value Global) → SameElements v.items w.items ↔ IsSame (Array v) (Array w)
elements_same v w = (to, from)
  where
    to : SameElements v.items w.items → IsSame (Array v) (Array w)
    to h [] = both _ _ _ _ (array_label v) (array_label w) (ap (λ (len : ℕ). Some (an_array len)) h.0)
    to h (key k ∷ p) = both _ _ _ _ (no_key_label v k p) (no_key_label w k p) refl
    to h (place i ∷ p) = ⊎_elim
        (λ (b : i < length v.items).
        let c : i < length w.items = omega (arith, h.0) in
        both _ _ _ _ (element_label v i p Null b) (element_label w i p Null c) (h.1 i Null b p))
        (λ (b : length v.items ≤ i).
        let c : length w.items ≤ i = omega (arith, h.0) in
        both _ _ _ _ (past_label v i p b) (past_label w i p c) refl)
        (cases_lt i (length v.items))

    from : IsSame (Array v) (Array w) → SameElements v.items w.items
    from h =
        let long : length v.items ≡ length w.items = same_length (length v.items) (length w.items) (both _ _ _ _ (sym (array_label v)) (sym (array_label w)) (h [])) in (
          long,
          λ i x b p.
              let c : i < length w.items = omega (arith, long) in
              both _ _ _ _ (sym (element_label v i p x b)) (sym (element_label w i p x c)) (h (place i ∷ p)),
        )

to_members : (o q : Option Value) → SameMember o q → (p : Path) → label_in p o ≡ label_in p q
to_members None None h p = refl
to_members (Some v) (Some w) h p = h p
to_members None (Some w) h p = absurd h
to_members (Some v) None h p = absurd h

from_members : (o q : Option Value) → ((p : Path) → label_in p o ≡ label_in p q) → SameMember o q
from_members None None h = tt
from_members (Some v) (Some w) h = h
from_members None (Some w) h = no_none _ (h [])
from_members (Some v) None h = no_none _ (sym (h []))

pub members_same : (m n : tested.Object) → SameMembers m n ↔ IsSame (Object m) (Object n)
members_same m n = (to, from)
  where
    to : SameMembers m n → IsSame (Object m) (Object n)
    to h [] = both _ _ _ _ (object_label m) (object_label n) refl
    to h (key k ∷ p) = both _ _ _ _ (member_label m k p) (member_label n k p) (to_members (get_by_text m k) (get_by_text n k) (h k) p)
    to h (place i ∷ p) = both _ _ _ _ (no_place_label m i p) (no_place_label n i p) refl

    from : IsSame (Object m) (Object n) → SameMembers m n
    from h k = from_members (get_by_text m k) (get_by_text n k) (λ p. both _ _ _ _ (sym (member_label m k p)) (sym (member_label n k p)) (h (key k ∷ p)))

-- ---- scalars

-- a scalar is the same as the values that contain it alone
scalar_same : (a : Scalar) (e : json.Data) → (content e ≡ scalar a) ↔ IsTwin (map_of (scalar a)) (nodes e)
scalar_same a e = (to, from e)
  where
    to : content e ≡ scalar a → IsTwin (map_of (scalar a)) (nodes e)
    to is = subst (λ (c : Content). IsTwin (map_of (scalar a)) (map_of c)) (sym is) (λ (w : Path). refl)

    at_root : (b : Scalar) → Some (a_leaf a) ≡ Some (a_leaf b) → scalar b ≡ scalar a
    at_root b h =
        let one : a ≡ b = cc in
        ap scalar (sym one)

    from : (e : json.Data) → IsTwin (map_of (scalar a)) (nodes e) → content e ≡ scalar a
    from json.null h = at_root _ (h [])
    from (json.boolean b) h = at_root _ (h [])
    from (json.number n) h = at_root _ (h [])
    from (json.string s) h = at_root _ (h [])
    from (json.array ds) h = let same = h [] in let none : ⊥ = cc in absurd none
    from (json.object ms) h = let same = h [] in let none : ⊥ = cc in absurd none

-- a value of the content of a scalar, and another
pub scalar_as : (P : Type 0) (v w : Value) (d : json.Data) (a : Scalar) (b : Bool) → content_of v ≡ content d → content d ≡ scalar a → IsTrue b ↔ P → P ↔ (view w ≡ d) → IsTrue b ↔ IsSame v w
scalar_as P v w d a b is leaf here there = (λ h. forth (there.0 (here.0 h)), λ h. here.1 (there.1 (back h)))
  where
    one : (content (view w) ≡ scalar a) ↔ IsTwin (map_of (scalar a)) (nodes (view w))
    one = scalar_same a (view w)

    forth : view w ≡ d → IsSame v w
    forth e = subst (λ (c : Content). IsTwin (map_of c) (nodes (view w))) (sym (is ∙ leaf)) (one.0 (ap content e ∙ leaf))

    back : IsSame v w → view w ≡ d
    back h = content_one (view w) d (one.1 (subst (λ (c : Content). IsTwin (map_of c) (nodes (view w))) (is ∙ leaf) h) ∙ sym leaf)

itself : (P : Type 0) → P ↔ P
itself P = (λ p. p, λ p. p)

flip : {A B : Type 0} → A ↔ B → B ↔ A
flip h = (h.1, h.0)

-- ---- the match arms of the code

null_read : (e : json.Data) (b : Bool) → b ≡ is_some (as_null e) → IsTrue b ↔ (e ≡ json.null)
null_read json.null b is = (λ h. refl, λ h. is)
null_read (json.boolean x) b is = (λ h. absurd (true≢false (sym h ∙ is)), λ h. let none : ⊥ = cc in absurd none)
null_read (json.number n) b is = (λ h. absurd (true≢false (sym h ∙ is)), λ h. let none : ⊥ = cc in absurd none)
null_read (json.string s) b is = (λ h. absurd (true≢false (sym h ∙ is)), λ h. let none : ⊥ = cc in absurd none)
null_read (json.array ds) b is = (λ h. absurd (true≢false (sym h ∙ is)), λ h. let none : ⊥ = cc in absurd none)
null_read (json.object ms) b is = (λ h. absurd (true≢false (sym h ∙ is)), λ h. let none : ⊥ = cc in absurd none)

pub null_same : (v w : Value) (b : Bool) → content_of v ≡ content json.null → b ≡ is_some (as_null (view w)) → IsTrue b ↔ IsSame v w
null_same v w b is by = scalar_as (view w ≡ json.null) v w json.null (of_json json.null) b is refl (null_read (view w) b by) (itself (view w ≡ json.null))

truth_read : (e : json.Data) (t o : Bool) → Some o ≡ as_bool e → IsTrue (beq t o) ↔ (e ≡ json.boolean t)
truth_read json.null t o e = let none : ⊥ = cc in absurd none
truth_read (json.boolean x) t o e = by_value t o (let same : o ≡ x = cc in same)
  where
    by_value : (t o : Bool) → o ≡ x → IsTrue (beq t o) ↔ (json.boolean x ≡ json.boolean t)
    by_value true true f = (λ h. ap json.boolean (sym f), λ h. refl)
    by_value false false f = (λ h. ap json.boolean (sym f), λ h. refl)
    by_value true false f = (λ h. absurd (true≢false (sym h)), λ h. let same : x ≡ true = cc in absurd (true≢false (sym same ∙ sym f)))
    by_value false true f = (λ h. absurd (true≢false (sym h)), λ h. let same : x ≡ false = cc in absurd (true≢false (f ∙ same)))
truth_read (json.number n) t o e = let none : ⊥ = cc in absurd none
truth_read (json.string s) t o e = let none : ⊥ = cc in absurd none
truth_read (json.array ds) t o e = let none : ⊥ = cc in absurd none
truth_read (json.object ms) t o e = let none : ⊥ = cc in absurd none

pub truth_same : (v w : Value) (t o : Bool) → content_of v ≡ content (json.boolean t) → Some o ≡ as_bool (view w) → IsTrue (beq t o) ↔ IsSame v w
truth_same v w t o is by = scalar_as (view w ≡ json.boolean t) v w (json.boolean t) (of_json (json.boolean t)) (beq t o) is refl (truth_read (view w) t o by) (itself (view w ≡ json.boolean t))

pub truth_differs : (v w : Value) (t : Bool) → content_of v ≡ content (json.boolean t) → None ≡ as_bool (view w) → IsTrue false ↔ IsSame v w
truth_differs v w t is by = scalar_as (view w ≡ json.boolean t) v w (json.boolean t) (of_json (json.boolean t)) false is refl (never (view w ≡ json.boolean t) (λ h. no_none t (by ∙ ap as_bool h))) (itself (view w ≡ json.boolean t))

text_seen : (e : json.Data) (o : List ℕ) → Some o ≡ as_str e → e ≡ json.string o
text_seen json.null o e = let none : ⊥ = cc in absurd none
text_seen (json.boolean x) o e = let none : ⊥ = cc in absurd none
text_seen (json.number n) o e = let none : ⊥ = cc in absurd none
text_seen (json.string x) o e = let same : x ≡ o = cc in ap json.string same
text_seen (json.array ds) o e = let none : ⊥ = cc in absurd none
text_seen (json.object ms) o e = let none : ⊥ = cc in absurd none

one_text : (s o : List ℕ) → Some s ≡ Some o → s ≡ o
one_text s o e = cc

pub text_same : (v w : Value) (s o : List ℕ) (b : Bool) → content_of v ≡ content (json.string s) → Some o ≡ as_str (view w) → IsTrue b ↔ (s ≡ o) → IsTrue b ↔ IsSame v w
text_same v w s o b is by h = scalar_as (s ≡ o) v w (json.string s) (of_json (json.string s)) b is refl h (λ e. text_seen (view w) o by ∙ ap json.string (sym e), λ e. one_text s o (sym (ap as_str e) ∙ sym by))

pub text_differs : (v w : Value) (s : List ℕ) → content_of v ≡ content (json.string s) → None ≡ as_str (view w) → IsTrue false ↔ IsSame v w
text_differs v w s is by = scalar_as (view w ≡ json.string s) v w (json.string s) (of_json (json.string s)) false is refl (never (view w ≡ json.string s) (λ h. no_none s (by ∙ ap as_str h))) (itself (view w ≡ json.string s))

number_seen : (e : json.Data) (m : json.Num) → Some m ≡ as_number e → e ≡ json.number m
number_seen json.null m e = let none : ⊥ = cc in absurd none
number_seen (json.boolean x) m e = let none : ⊥ = cc in absurd none
number_seen (json.number n) m e = let same : n ≡ m = cc in ap json.number same
number_seen (json.string s) m e = let none : ⊥ = cc in absurd none
number_seen (json.array ds) m e = let none : ⊥ = cc in absurd none
number_seen (json.object ms) m e = let none : ⊥ = cc in absurd none

one_number : (n m : json.Num) → Some n ≡ Some m → n ≡ m
one_number n m e = cc

pub number_same : (v w : Value) (n m : json.Num) (b : Bool) → content_of v ≡ content (json.number n) → Some m ≡ as_number (view w) → IsTrue b ↔ (n ≡ m) → IsTrue b ↔ IsSame v w
number_same v w n m b is by h = scalar_as (n ≡ m) v w (json.number n) (of_json (json.number n)) b is refl h (λ e. number_seen (view w) m by ∙ ap json.number (sym e), λ e. one_number n m (sym (ap as_number e) ∙ sym by))

pub number_differs : (v w : Value) (n : json.Num) → content_of v ≡ content (json.number n) → None ≡ as_number (view w) → IsTrue false ↔ IsSame v w
number_differs v w n is by = scalar_as (view w ≡ json.number n) v w (json.number n) (of_json (json.number n)) false is refl (never (view w ≡ json.number n) (λ h. no_none n (by ∙ ap as_number h))) (itself (view w ≡ json.number n))

pub array_same : (v w : Value) (a o : Vec Value Global) (b : Bool) → v ≡ Array a → Some (items_view o.items) ≡ as_array (view w) → IsTrue b ↔ SameElements a.items o.items → IsTrue b ↔ IsSame v w
array_same v w a o b is by h =
    let all = elements_same a o in (
      λ t. subst (λ (u : Value). IsSame u w) (sym is) (subst (λ (c : Content). IsTwin (nodes (view (Array a))) (map_of c)) (sym (array_at w o by)) (all.0 (h.0 t))),
      λ s. h.1 (all.1 (subst (λ (c : Content). IsTwin (nodes (view (Array a))) (map_of c)) (array_at w o by) (subst (λ (u : Value). IsSame u w) is s))),
    )

array_only : (len : ℕ) (e : json.Data) → None ≡ as_array e → Some (an_array len) ≡ nodes e [] → ⊥
array_only len json.null e h = let same = h in cc
array_only len (json.boolean x) e h = let same = h in cc
array_only len (json.number n) e h = let same = h in cc
array_only len (json.string s) e h = let same = h in cc
array_only len (json.array ds) e h = cc
array_only len (json.object ms) e h = let same = h in cc

pub same_arrays : (v w : Value) (a o : Vec Value Global) → v ≡ Array a → Some (items_view o.items) ≡ as_array (view w) → IsSame v w → SameElements a.items o.items
same_arrays v w a o is by s = (elements_same a o).1 (subst (λ (c : Content). IsTwin (nodes (view (Array a))) (map_of c)) (array_at w o by) (subst (λ (u : Value). IsSame u w) is s))

pub array_differs : (v w : Value) (a : Vec Value Global) → v ≡ Array a → None ≡ as_array (view w) → IsTrue false ↔ IsSame v w
array_differs v w a is by = never (IsSame v w) (λ h. array_only (length a.items) (view w) by (subst (λ (l : Option Label). l ≡ nodes (view w) []) (ap (λ (u : Value). map_of (content_of u) []) is ∙ array_label a) (h [])))

pub object_same : (v w : Value) (m o : tested.Object) (b : Bool) → v ≡ Object m → Some (members_view o.entries) ≡ as_object (view w) → IsTrue b ↔ SameMembers m o → IsTrue b ↔ IsSame v w
object_same v w m o b is by h =
    let all = members_same m o in (
      λ t. subst (λ (u : Value). IsSame u w) (sym is) (subst (λ (c : Content). IsTwin (nodes (view (Object m))) (map_of c)) (sym (object_at w o by)) (all.0 (h.0 t))),
      λ s. h.1 (all.1 (subst (λ (c : Content). IsTwin (nodes (view (Object m))) (map_of c)) (object_at w o by) (subst (λ (u : Value). IsSame u w) is s))),
    )

object_only : (e : json.Data) → None ≡ as_object e → Some an_object ≡ nodes e [] → ⊥
object_only json.null e h = let same = h in cc
object_only (json.boolean x) e h = let same = h in cc
object_only (json.number n) e h = let same = h in cc
object_only (json.string s) e h = let same = h in cc
object_only (json.array ds) e h = let same = h in cc
object_only (json.object ms) e h = cc

pub same_objects : (v w : Value) (m o : tested.Object) → v ≡ Object m → Some (members_view o.entries) ≡ as_object (view w) → IsSame v w → SameMembers m o
same_objects v w m o is by s = (members_same m o).1 (subst (λ (c : Content). IsTwin (nodes (view (Object m))) (map_of c)) (object_at w o by) (subst (λ (u : Value). IsSame u w) is s))

pub object_differs : (v w : Value) (m : tested.Object) → v ≡ Object m → None ≡ as_object (view w) → IsTrue false ↔ IsSame v w
object_differs v w m is by = never (IsSame v w) (λ h. object_only (view w) by (subst (λ (l : Option Label). l ≡ nodes (view w) []) (ap (λ (u : Value). map_of (content_of u) []) is ∙ object_label m) (h [])))

-- ---- the loops of the code

-- `AllSame es fs`: the entries have the same keys and the same values, one by one
abbrev pub AllSame : List Entry → List Entry → Type 0
AllSame [] [] = ⊤
AllSame (e ∷ es) (f ∷ fs) =
    (string_bytes e.0 ≡ string_bytes f.0) × IsSame e.1 f.1 × AllSame es fs
AllSame es fs = ⊥

pub same_push : (es fs : List Entry) (e f : Entry) → AllSame es fs → string_bytes e.0 ≡ string_bytes f.0 → IsSame e.1 f.1 → AllSame (es ++ e ∷ []) (fs ++ f ∷ [])
same_push [] [] e f all key_same same = (key_same, same, tt)
same_push (x ∷ es) (y ∷ fs) e f all key_same same = (all.0, all.1, same_push es fs e f all.2 key_same same)
same_push [] (y ∷ fs) e f all key_same same = absurd all
same_push (x ∷ es) [] e f all key_same same = absurd all

same_texts : (es fs : List Entry) → AllSame es fs → texts es ≡ texts fs
same_texts [] [] all = refl
same_texts (e ∷ es) (f ∷ fs) all = ap (λ (t : List ℕ). t ∷ texts es) all.0 ∙ ap (λ (ts : List (List ℕ)). string_bytes f.0 ∷ ts) (same_texts es fs all.2)
same_texts [] (f ∷ fs) all = absurd all
same_texts (e ∷ es) [] all = absurd all

same_alike : (es fs : List Entry) → AllSame es fs → Alike es fs
same_alike [] [] all k = tt
same_alike (e ∷ es) (f ∷ fs) all k = subst (λ (o : Option Value). SameMember (found_under k (e ∷ es)) o) (ap (λ (l : List ℕ). cond (is_eq (slice_cmp nat_cmp k l)) (Some f.1) (found_under k fs)) all.0) (by_test (same_alike es fs all.2 k) (is_eq (slice_cmp nat_cmp k (string_bytes e.0))))
  where
    by_test : SameMember (found_under k es) (found_under k fs) → (b : Bool) → SameMember (cond b (Some e.1) (found_under k es)) (cond b (Some f.1) (found_under k fs))
    by_test later true = all.1
    by_test later false = later
same_alike [] (f ∷ fs) all k = absurd all
same_alike (e ∷ es) [] all k = absurd all

-- both objects to their ends
pub members_all : (m n : tested.Object) (done also rest : List Entry) → m.entries ≡ done → n.entries ≡ also ++ rest → length m.entries ≡ length n.entries → AllSame done also → SameMembers m n
members_all m n done also rest is other long all k =
    let same_long : length done ≡ length also = texts_length done also (same_texts done also all) in
    let none : rest ≡ [] = no_rest rest (omega (arith, long, same_long, ap (λ (es : List Entry). length es) is, ap (λ (es : List Entry). length es) other, length-append also rest)) in
    let end : n.entries ≡ also = other ∙ ap (λ (es : List Entry). also ++ es) none ∙ append-nil also in
    subst (λ (es : List Entry). SameMember (found_under k es) (get_by_text n k)) (sym is) (subst (λ (es : List Entry). SameMember (found_under k done) (found_under k es)) (sym end) (same_alike done also all k))
  where
    no_rest : (es : List Entry) → length es ≡ 0 → es ≡ []
    no_rest [] h = refl
    no_rest (e ∷ es) h = absurd (omega (arith, h))

-- the keys of objects with the same members
members_texts : (m n : tested.Object) → IsStrictlySortedBy string_cmp (keys_of m.entries) → IsStrictlySortedBy string_cmp (keys_of n.entries) → SameMembers m n → texts m.entries ≡ texts n.entries
members_texts m n ordered also_ordered h = alike_texts m.entries n.entries (ascend m.entries ordered) (ascend n.entries also_ordered) h

pub length_differs : (m n : tested.Object) → IsStrictlySortedBy string_cmp (keys_of m.entries) → IsStrictlySortedBy string_cmp (keys_of n.entries) → (length m.entries ≡ length n.entries → ⊥) → IsTrue false ↔ SameMembers m n
length_differs m n ordered also_ordered apart = never (SameMembers m n) (λ h. apart (texts_length m.entries n.entries (members_texts m n ordered also_ordered h)))

pub key_differs : (m n : tested.Object) (done also more rest : List Entry) (e f : Entry) → m.entries ≡ done ++ e ∷ more → n.entries ≡ also ++ f ∷ rest → IsStrictlySortedBy string_cmp (keys_of m.entries) → IsStrictlySortedBy string_cmp (keys_of n.entries) → AllSame done also → (string_bytes e.0 ≡ string_bytes f.0 → ⊥) → IsTrue false ↔ SameMembers m n
key_differs m n done also more rest e f is other ordered also_ordered all apart = never (SameMembers m n) (λ h.
    apart (texts_here done also more rest e f (same_texts done also all) (sym (ap texts is) ∙ members_texts m n ordered also_ordered h ∙ ap texts other)))

pub value_differs : (m n : tested.Object) (done also more rest : List Entry) (e f : Entry) → m.entries ≡ done ++ e ∷ more → n.entries ≡ also ++ f ∷ rest → IsStrictlySortedBy string_cmp (keys_of m.entries) → IsStrictlySortedBy string_cmp (keys_of n.entries) → string_bytes e.0 ≡ string_bytes f.0 → (IsSame e.1 f.1 → ⊥) → IsTrue false ↔ SameMembers m n
value_differs m n done also more rest e f is other ordered also_ordered key_same apart = never (SameMembers m n) (λ h.
    let left : get_by_text m (string_bytes e.0) ≡ Some e.1 = ap (found_under (string_bytes e.0)) is ∙ found_middle done e more (subst (λ (es : List Entry). IsStrictlySortedBy string_cmp (keys_of es)) is ordered) in
    let right : get_by_text n (string_bytes f.0) ≡ Some f.1 = ap (found_under (string_bytes f.0)) other ∙ found_middle also f rest (subst (λ (es : List Entry). IsStrictlySortedBy string_cmp (keys_of es)) other also_ordered) in
    let there : get_by_text n (string_bytes e.0) ≡ Some f.1 = ap (get_by_text n) key_same ∙ right in
    apart (subst (SameMember (Some e.1)) there (subst (λ (o : Option Value). SameMember o (get_by_text n (string_bytes e.0))) left (h (string_bytes e.0)))))

-- the second object ends before the first one
pub ends_early : (P : Type 0) (m n : tested.Object) (done also more rest : List Entry) (e : Entry) → m.entries ≡ done ++ e ∷ more → n.entries ≡ also ++ rest → rest ≡ [] → length m.entries ≡ length n.entries → AllSame done also → P
ends_early P m n done also more rest e is other none long all =
    let same_long : length done ≡ length also = texts_length done also (same_texts done also all) in
    absurd (omega (arith, long, same_long, ap (λ (es : List Entry). length es) is, ap (λ (es : List Entry). length es) other, ap (λ (es : List Entry). length es) none, length-append also rest, length-append done (e ∷ more)))

-- texts that the code compares
pub equal_texts : (x y k l : List ℕ) (b : Bool) → x ≡ k → y ≡ l → b ≡ not (bytes_eq x y) → b ≡ false → k ≡ l
equal_texts x y k l b left right is h = sym left ∙ (bytes_eq-Decides x y).0 (by_value (bytes_eq x y) (sym is ∙ h)) ∙ right
  where
    by_value : (c : Bool) → not c ≡ false → c ≡ true
    by_value true e = refl
    by_value false e = absurd (true≢false e)

pub other_texts : (x y k l : List ℕ) (b : Bool) → x ≡ k → y ≡ l → b ≡ not (bytes_eq x y) → b ≡ true → k ≡ l → ⊥
other_texts x y k l b left right is h same = true≢false (sym (sym is ∙ h) ∙ ap not ((bytes_eq-Decides x y).1 (left ∙ same ∙ sym right)))
