-- Which operations are appended to a patch.
use Rattle.std.proofs.Common.{◌≡◌, ◌↔◌, Bool, false, Vec, Global, IsTrue, ℕ, ◌<◌, ◌+◌, List, [], ◌∷◌, ◌++◌, length, get_or, All, Option, Some, None, is_some, IsSome, inl, inr, Result, Ok, Err, IfOk, refl, sym, ap, ◌∙◌, subst, true≢false, append_assoc, append-nil, length-append, arith}
use Rattle.std.proofs.lemmas.List.Elements.{All-append, All-nil}
use Rattle.jsonptr.specs.Text.{Text}
use Rattle.jsonptr.specs.Node.{key, Path, Label, an_object, an_array, a_leaf, NodeMap, sub}
use Rattle.jsonptr.specs.Json.{nodes}
use Rattle.jsonptr_document.proofs.JsonLevel.{leaf_of}
use Rattle.serde_json.specs.Data as json
use Rattle.serde_json.specs.Data.{Data}
use Rattle.serde_json.specs.Find.{as_array, as_object}
use Rattle.serde_json.specs.View.{view}
use Rattle.serde_json.specs.declared.value.Value.{Value, Array, Object}
use Rattle.jsonptr_patch.specs.PrivateTesting.{Object as Object'}
use Rattle.jsonptr_patch.proofs.TestingLemmas.{object_label, array_label}
use Rattle.jsonptr_patch.specs.declared.operation.Operation.{Operation}
use Rattle.jsonptr_patch.specs.declared.operation.Operation.TheVariants.{Add, Remove, Replace, Move, Copy, Test}
use Rattle.jsonptr_patch_diff.specs.Diff.{keys, DifferAlong, AreOfOneKind, GoesThroughBoth, IsChange}
use Rattle.jsonptr_patch_diff.specs.PrivateDiff.{AppendsReplace, AppendsRemove, AppendsAdd, Appends, IsChangeBelow, AppendsChanges, IsPartBelow, AppendsParts, IsArray}
use Rattle.jsonptr_patch_diff.specs.PrivateSame.{IsSame}
use Rattle.jsonptr_patch_diff.proofs.SameLemmas.{twin_same, twin_made}
use Rattle.jsonptr_patch_diff.proofs.TurningLemmas.{all_push}

-- ---- results

pub ok_both : {T E : Type 0} (r : Result T E) (A B C : Type 0) → (A → B → C) → IfOk r (λ _. A) → IfOk r (λ _. B) → IfOk r (λ _. C)
ok_both (Ok t) A B C both a b = both a b
ok_both (Err e) A B C both a b = tt

-- ---- lists

pub appends_none : (P : Operation → Type 0) (before : List Operation) → Appends P before before
appends_none P before = record { further = []; appended = sym (append-nil before); all = All-nil P }

pub appends_join : (P : Operation → Type 0) (first mid last : List Operation) → Appends P first mid → Appends P mid last → Appends P first last
appends_join P first mid last one two = record {
  further = one.further ++ two.further;
  appended = two.appended ∙ ap (λ os. os ++ two.further) one.appended ∙ append_assoc first one.further two.further;
  all = All-append P one.further two.further one.all two.all;
}

pub appends_one : (P : Operation → Type 0) (before after : List Operation) (o : Operation) → after ≡ before ++ o ∷ [] → P o → Appends P before after
appends_one P before after o is one = record { further = o ∷ []; appended = is; all = all_push P [] o (All-nil P) one }

pub appends_as : (P Q : Operation → Type 0) (before after : List Operation) → ((o : Operation) → P o → Q o) → Appends P before after → Appends Q before after
appends_as P Q before after turn h = record { further = h.further; appended = h.appended; all = λ i d low. turn (get_or h.further i d) (h.all i d low) }

-- nothing is appended that there is none of
pub appends_kept : (P : Operation → Type 0) (before after : List Operation) → ((o : Operation) → P o → ⊥) → Appends P before after → after ≡ before
appends_kept P before after never h = by_further h.further h.appended h.all
  where
    by_further : (os : List Operation) → after ≡ before ++ os → All P os → after ≡ before
    by_further [] is all = is ∙ append-nil before
    by_further (o ∷ os) is all = absurd (never o (all 0 o (omega arith)))

-- ---- values that differ on the way

cons_same : (x y : Text) (xs ys : List Text) → x ∷ xs ≡ y ∷ ys → (x ≡ y) × (xs ≡ ys)
cons_same x y xs ys e = (cc, cc)

keys-append : (xs ys : List Text) → keys (xs ++ ys) ≡ keys xs ++ keys ys
keys-append [] ys = refl
keys-append (x ∷ xs) ys = ap (λ p. key x ∷ p) (keys-append xs ys)

-- the labels at the end differ
differ_at : (c d : NodeMap) (ts : List Text) → (c (keys ts) ≡ d (keys ts) → ⊥) → DifferAlong c d ts
differ_at c d ts apart = λ front rest is some none.
    let way : keys ts ≡ keys front ++ keys rest = ap keys is ∙ keys-append front rest in
    apart (ap c way ∙ ap (λ (n : NodeMap). n (keys rest)) none ∙ sym (ap d way))

-- the values themselves differ
differ_here : (c d : NodeMap) → (c ≡ d → ⊥) → DifferAlong c d []
differ_here c d apart = by_front
  where
    by_front : (front rest : List Text) → [] ≡ front ++ rest → IsSome (c (keys front)) → sub c (keys front) ≡ sub d (keys front) → ⊥
    by_front [] rest is some none = apart none
    by_front (x ∷ xs) rest is some none = let bad : ⊥ = cc in bad

-- values of members differ
differ_under : (c d v w : NodeMap) (k : Text) (ts : List Text) → sub c (key k ∷ []) ≡ v → sub d (key k ∷ []) ≡ w → IsSome (v []) → DifferAlong v w ts → DifferAlong c d (k ∷ ts)
differ_under c d v w k ts first second there h = by_front
  where
    by_front : (front rest : List Text) → k ∷ ts ≡ front ++ rest → IsSome (c (keys front)) → sub c (keys front) ≡ sub d (keys front) → ⊥
    by_front [] rest is some none = h [] ts refl there (sym first ∙ ap (λ (n : NodeMap). sub n (key k ∷ [])) none ∙ second)
    by_front (x ∷ xs) rest is some none =
        let same = cons_same k x ts (xs ++ rest) is in
        let some_of : IsSome (c (key k ∷ keys xs)) = subst (λ (y : Text). IsSome (c (key y ∷ keys xs))) (sym same.0) some in
        let none_of : sub c (key k ∷ keys xs) ≡ sub d (key k ∷ keys xs) = subst (λ (y : Text). sub c (key y ∷ keys xs) ≡ sub d (key y ∷ keys xs)) (sym same.0) none in
        h xs rest same.1 (subst (λ (n : NodeMap). IsSome (n (keys xs))) first some_of)
        (subst (λ (n : NodeMap). sub n (keys xs) ≡ sub w (keys xs)) first (subst (λ (n : NodeMap). sub (sub c (key k ∷ [])) (keys xs) ≡ sub n (keys xs)) second none_of))

-- ---- containers on the way

-- no value is on the way to the root
through_none : (c d : NodeMap) → GoesThroughBoth c d []
through_none c d = by_front
  where
    by_front : (front : List Text) (x : Text) (rest : List Text) → [] ≡ front ++ x ∷ rest → IsSome (c (keys front)) → AreOfOneKind (c (keys front)) (d (keys front))
    by_front [] x rest is some = let bad : ⊥ = cc in absurd bad
    by_front (y ∷ ys) x rest is some = let bad : ⊥ = cc in absurd bad

-- the root is on the way to a child, and then what is on the way from the child on
through_under : (c d v w : NodeMap) (k : Text) (ts : List Text) → sub c (key k ∷ []) ≡ v → sub d (key k ∷ []) ≡ w → AreOfOneKind (c []) (d []) → GoesThroughBoth v w ts → GoesThroughBoth c d (k ∷ ts)
through_under c d v w k ts first second both h = by_front
  where
    by_front : (front : List Text) (x : Text) (rest : List Text) → k ∷ ts ≡ front ++ x ∷ rest → IsSome (c (keys front)) → AreOfOneKind (c (keys front)) (d (keys front))
    by_front [] x rest is some = both
    by_front (y ∷ ys) x rest is some =
        let same = cons_same k y ts (ys ++ x ∷ rest) is in
        let some_of : IsSome (c (key k ∷ keys ys)) = subst (λ (t : Text). IsSome (c (key t ∷ keys ys))) (sym same.0) some in
        let below : AreOfOneKind (v (keys ys)) (w (keys ys)) = h ys x rest same.1 (subst (λ (n : NodeMap). IsSome (n (keys ys))) first some_of) in
        let one : AreOfOneKind (c (key k ∷ keys ys)) (w (keys ys)) = subst (λ (n : NodeMap). AreOfOneKind (n (keys ys)) (w (keys ys))) (sym first) below in
        let two : AreOfOneKind (c (key k ∷ keys ys)) (d (key k ∷ keys ys)) = subst (λ (n : NodeMap). AreOfOneKind (c (key k ∷ keys ys)) (n (keys ys))) (sym second) one in
        subst (λ (t : Text). AreOfOneKind (c (key t ∷ keys ys)) (d (key t ∷ keys ys))) same.0 two

-- the root alone is on the way, if nothing of the first is under a key
through_inside : (c d : NodeMap) (x : Text) (rest : List Text) → ((y : Text) (front : List Text) → x ∷ rest ≡ y ∷ front → (ys : List Text) (z : Text) (more : List Text) → front ≡ ys ++ z ∷ more → IsSome (c (key y ∷ keys ys)) → ⊥) → AreOfOneKind (c []) (d []) → GoesThroughBoth c d (x ∷ rest)
through_inside c d x rest none both = by_front
  where
    by_front : (front : List Text) (z : Text) (more : List Text) → x ∷ rest ≡ front ++ z ∷ more → IsSome (c (keys front)) → AreOfOneKind (c (keys front)) (d (keys front))
    by_front [] z more is some = both
    by_front (y ∷ ys) z more is some = absurd (none y (ys ++ z ∷ more) is ys z more refl some)

-- the root alone is on the way to a member
through_one : (c d : NodeMap) (k : Text) → AreOfOneKind (c []) (d []) → GoesThroughBoth c d (k ∷ [])
through_one c d k = through_inside c d k [] (λ y front is ys z more split some. no_more y front is ys z more split)
  where
    no_more : (y : Text) (front : List Text) → k ∷ [] ≡ y ∷ front → (ys : List Text) (z : Text) (more : List Text) → front ≡ ys ++ z ∷ more → ⊥
    no_more y front is [] z more split = let bad : ⊥ = cc in bad
    no_more y front is (t ∷ ts) z more split = let bad : ⊥ = cc in bad

-- ---- changes of a member

module _ (base : List Text) (c d v w : NodeMap) (k : Text) (both : AreOfOneKind (c []) (d [])) (first : sub c (key k ∷ []) ≡ v) (second : sub d (key k ∷ []) ≡ w) (there : IsSome (v [])) where
  longer : (path rest : List Text) → path ≡ (base ++ k ∷ []) ++ rest → path ≡ base ++ k ∷ rest
  longer path rest is = is ∙ append_assoc base (k ∷ []) rest

  change_under : (o : Operation) → IsChangeBelow (base ++ k ∷ []) v w o → IsChangeBelow base c d o
  change_under (Add path value) h = (
    k ∷ h.0,
    longer path h.0 h.1,
    (
      differ_under c d v w k h.0 first second there h.2.0,
      ap (λ (n : NodeMap). n (keys h.0)) first ∙ h.2.1,
      through_under c d v w k h.0 first second both h.2.2,
    ),
  )
  change_under (Remove path) h = (
    k ∷ h.0,
    longer path h.0 h.1,
    (
      differ_under c d v w k h.0 first second there h.2.0,
      ap (λ (n : NodeMap). n (keys h.0)) second ∙ h.2.1,
      through_under c d v w k h.0 first second both h.2.2,
    ),
  )
  change_under (Replace path value) h = (
    k ∷ h.0,
    longer path h.0 h.1,
    (
      differ_under c d v w k h.0 first second there h.2.0,
      λ one. h.2.1 (subst (λ (n : NodeMap). AreOfOneKind (n (keys h.0)) (w (keys h.0))) first (subst (λ (n : NodeMap). AreOfOneKind (c (key k ∷ keys h.0)) (n (keys h.0))) second one)),
      through_under c d v w k h.0 first second both h.2.2,
    ),
  )
  change_under (Move from path) h = absurd h
  change_under (Copy from path) h = absurd h
  change_under (Test path value) h = absurd h

  pub changes_under : (before after : List Operation) → AppendsChanges (base ++ k ∷ []) v w before after → AppendsChanges base c d before after
  changes_under before after h = appends_as (IsChangeBelow (base ++ k ∷ []) v w) (IsChangeBelow base c d) before after change_under h

some_none : (l : Option Label) → IsSome l → l ≡ None → ⊥
some_none l some none = true≢false (sym some ∙ ap is_some none)

-- a member that the second lacks is removed
pub changes_remove : (base : List Text) (c d : NodeMap) (k : Text) (before after : List Operation) → AreOfOneKind (c []) (d []) → IsSome (c (key k ∷ [])) → d (key k ∷ []) ≡ None → AppendsRemove before after (base ++ k ∷ []) → AppendsChanges base c d before after
changes_remove base c d k before after both some none h = appends_one (IsChangeBelow base c d) before after (Remove h.path) h.appended
    (k ∷ [], h.at, (differ_at c d (k ∷ []) (λ same. some_none (c (key k ∷ [])) some (same ∙ none)), none, through_one c d k both))

-- a member that the first lacks is added
pub changes_add : (base : List Text) (c d : NodeMap) (k : Text) (e : Data) (before after : List Operation) → AreOfOneKind (c []) (d []) → c (key k ∷ []) ≡ None → IsSome (d (key k ∷ [])) → AppendsAdd before after (base ++ k ∷ []) e → AppendsChanges base c d before after
changes_add base c d k e before after both none some h = appends_one (IsChangeBelow base c d) before after (Add h.path h.value) h.appended
    (k ∷ [], h.at, (differ_at c d (k ∷ []) (λ same. some_none (d (key k ∷ [])) some (sym same ∙ none)), none, through_one c d k both))

-- a value is replaced
pub changes_replace : (base : List Text) (c : NodeMap) (d : Data) (before after : List Operation) → (c ≡ nodes d → ⊥) → (AreOfOneKind (c []) (nodes d []) → ⊥) → AppendsReplace before after base d → AppendsChanges base c (nodes d) before after
changes_replace base c d before after apart other h = appends_one (IsChangeBelow base c (nodes d)) before after (Replace h.path h.value) h.appended
    ([], h.at ∙ sym (append-nil base), (differ_here c (nodes d) apart, other, through_none c (nodes d)))

-- ---- kinds

pub other_kind : (k l : Option Label) → (k ≡ Some an_object → l ≡ Some an_object → ⊥) → ((i j : ℕ) → k ≡ Some (an_array i) → l ≡ Some (an_array j) → ⊥) → AreOfOneKind k l → ⊥
other_kind k l no_object no_array h = elim h [ inl p ↦ no_object p.0 p.1 | inr p ↦ no_array p.0 p.1 p.2 p.3 ]

-- ---- changes of an array

part_under : (base : List Text) (x : Text) (v w : NodeMap) (o : Operation) → IsChangeBelow (base ++ x ∷ []) v w o → IsPartBelow base o
part_under base x v w (Add path value) h = (x, h.0, h.1 ∙ append_assoc base (x ∷ []) h.0)
part_under base x v w (Remove path) h = (x, h.0, h.1 ∙ append_assoc base (x ∷ []) h.0)
part_under base x v w (Replace path value) h = (x, h.0, h.1 ∙ append_assoc base (x ∷ []) h.0)
part_under base x v w (Move from path) h = absurd h
part_under base x v w (Copy from path) h = absurd h
part_under base x v w (Test path value) h = absurd h

pub parts_under : (base : List Text) (x : Text) (v w : NodeMap) (before after : List Operation) → AppendsChanges (base ++ x ∷ []) v w before after → AppendsParts base before after
parts_under base x v w before after h = appends_as (IsChangeBelow (base ++ x ∷ []) v w) (IsPartBelow base) before after (part_under base x v w) h

pub parts_remove : (base : List Text) (x : Text) (before after : List Operation) → AppendsRemove before after (base ++ x ∷ []) → AppendsParts base before after
parts_remove base x before after h = appends_one (IsPartBelow base) before after (Remove h.path) h.appended (x, [], h.at)

pub parts_add : (base : List Text) (x : Text) (e : Data) (before after : List Operation) → AppendsAdd before after (base ++ x ∷ []) e → AppendsParts base before after
parts_add base x e before after h = appends_one (IsPartBelow base) before after (Add h.path h.value) h.appended (x, [], h.at)

-- no value of a document is under a key of an array
differ_inside : (c d : NodeMap) (x : Text) (rest : List Text) → ((k : Text) (p : Path) → c (key k ∷ p) ≡ None) → (c ≡ d → ⊥) → DifferAlong c d (x ∷ rest)
differ_inside c d x rest none apart = by_front
  where
    by_front : (front more : List Text) → x ∷ rest ≡ front ++ more → IsSome (c (keys front)) → sub c (keys front) ≡ sub d (keys front) → ⊥
    by_front [] more is some same = apart same
    by_front (y ∷ ys) more is some same = some_none (c (key y ∷ keys ys)) some (none y (keys ys))

through_array : (c d : NodeMap) (x : Text) (rest : List Text) → ((k : Text) (p : Path) → c (key k ∷ p) ≡ None) → AreOfOneKind (c []) (d []) → GoesThroughBoth c d (x ∷ rest)
through_array c d x rest none both = through_inside c d x rest (λ y front is ys z more split some. some_none (c (key y ∷ keys ys)) some (none y (keys ys))) both

part_change : (base : List Text) (c d : NodeMap) → AreOfOneKind (c []) (d []) → ((k : Text) (p : Path) → c (key k ∷ p) ≡ None) → ((k : Text) (p : Path) → d (key k ∷ p) ≡ None) → (c ≡ d → ⊥) → (o : Operation) → IsPartBelow base o → IsChangeBelow base c d o
part_change base c d both first second apart (Add path value) h = (h.0 ∷ h.1, h.2, (differ_inside c d h.0 h.1 first apart, first h.0 (keys h.1), through_array c d h.0 h.1 first both))
part_change base c d both first second apart (Remove path) h = (h.0 ∷ h.1, h.2, (differ_inside c d h.0 h.1 first apart, second h.0 (keys h.1), through_array c d h.0 h.1 first both))
part_change base c d both first second apart (Replace path value) h = (
  h.0 ∷ h.1,
  h.2,
  (
    differ_inside c d h.0 h.1 first apart,
    other_kind (c (key h.0 ∷ keys h.1)) (d (key h.0 ∷ keys h.1))
        (λ a b. let gone = first h.0 (keys h.1) in let bad : ⊥ = cc in bad)
        (λ i j a b. let gone = first h.0 (keys h.1) in let bad : ⊥ = cc in bad),
    through_array c d h.0 h.1 first both,
  ),
)
part_change base c d both first second apart (Move from path) h = absurd h
part_change base c d both first second apart (Copy from path) h = absurd h
part_change base c d both first second apart (Test path value) h = absurd h

-- where arrays that are the same append nothing
pub parts_changes : (base : List Text) (c d : NodeMap) (len other : ℕ) (before after : List Operation) → IsArray c len → IsArray d other → (c ≡ d → after ≡ before) → AppendsParts base before after → AppendsChanges base c d before after
parts_changes base c d len other before after one two kept h = record {
  further = h.further;
  appended = h.appended;
  all = λ i x low. part_change base c d (inr (len, other, one.root, two.root)) one.keys two.keys (apart i low) (get_or h.further i x) (h.all i x low);
}
  where
    apart : (i : ℕ) → i < length h.further → c ≡ d → ⊥
    apart i low none =
        let lengths : length before + length h.further ≡ length before = sym (length-append before h.further) ∙ ap length (sym h.appended ∙ kept none) in
        omega (arith, low, lengths)

-- ---- what is the same

-- values that are the same append nothing
pub changes_kept : (base : List Text) (c d : NodeMap) (before after : List Operation) → IsSome (c []) → c ≡ d → AppendsChanges base c d before after → after ≡ before
changes_kept base c d before after some none h = appends_kept (IsChangeBelow base c d) before after never h
  where
    never : (o : Operation) → IsChangeBelow base c d o → ⊥
    never (Add path value) h = h.2.0 [] h.0 refl some none
    never (Remove path) h = h.2.0 [] h.0 refl some none
    never (Replace path value) h = h.2.0 [] h.0 refl some none
    never (Move from path) h = h
    never (Copy from path) h = h
    never (Test path value) h = h

-- ---- changes of the root

change_root : (c d : NodeMap) (o : Operation) → IsChangeBelow [] c d o → IsChange c d o
change_root c d (Add path value) h = subst (λ (ts : List Text). IsChange c d (Add ts value)) (sym h.1) h.2
change_root c d (Remove path) h = subst (λ (ts : List Text). IsChange c d (Remove ts)) (sym h.1) h.2
change_root c d (Replace path value) h = subst (λ (ts : List Text). IsChange c d (Replace ts value)) (sym h.1) h.2
change_root c d (Move from path) h = absurd h
change_root c d (Copy from path) h = absurd h
change_root c d (Test path value) h = absurd h

pub changes_root : (c d : NodeMap) (before after : List Operation) → before ≡ [] → AppendsChanges [] c d before after → All (IsChange c d) after
changes_root c d before after none h = subst (All (IsChange c d)) (sym (h.appended ∙ ap (λ os. os ++ h.further) none)) (λ i x low. change_root c d (get_or h.further i x) (h.all i x low))

-- ---- values of two kinds

object_label_alone : (e : Data) → None ≡ as_object e → nodes e [] ≡ Some an_object → ⊥
object_label_alone json.null e h = cc
object_label_alone (json.boolean x) e h = cc
object_label_alone (json.number n) e h = cc
object_label_alone (json.string s) e h = cc
object_label_alone (json.array ds) e h = cc
object_label_alone (json.object ms) e h = cc

array_label_alone : (e : Data) (len : ℕ) → None ≡ as_array e → nodes e [] ≡ Some (an_array len) → ⊥
array_label_alone json.null len e h = cc
array_label_alone (json.boolean x) len e h = cc
array_label_alone (json.number n) len e h = cc
array_label_alone (json.string s) len e h = cc
array_label_alone (json.array ds) len e h = cc
array_label_alone (json.object ms) len e h = cc

-- an object is replaced by another kind
pub object_kind : (v w : Value) (m : Object') → v ≡ Object m → None ≡ as_object (view w) → AreOfOneKind (nodes (view v) []) (nodes (view w) []) → ⊥
object_kind v w m is none = other_kind (nodes (view v) []) (nodes (view w) [])
    (λ a b. object_label_alone (view w) none b)
    (λ i j a b. let here : nodes (view v) [] ≡ Some an_object = ap (λ (u : Value). nodes (view u) []) is ∙ object_label m in let bad : ⊥ = cc in bad)

-- an array is replaced by another kind
pub array_kind : (v w : Value) (a : Vec Value Global) → v ≡ Array a → None ≡ as_array (view w) → AreOfOneKind (nodes (view v) []) (nodes (view w) []) → ⊥
array_kind v w a is none = other_kind (nodes (view v) []) (nodes (view w) [])
    (λ x y. let here : nodes (view v) [] ≡ Some (an_array (length a.items)) = ap (λ (u : Value). nodes (view u) []) is ∙ array_label a in let bad : ⊥ = cc in bad)
    (λ i j x y. array_label_alone (view w) j none y)

-- neither is a scalar
pub leaf_kind : (v : Value) (l : Option Label) → ((m : Object') → v ≡ Object m → ⊥) → ((a : Vec Value Global) → v ≡ Array a → ⊥) → AreOfOneKind (nodes (view v) []) l → ⊥
leaf_kind v l no_object no_array =
    let leaf = leaf_of v no_array no_object in
    let here : nodes (view v) [] ≡ Some (a_leaf leaf.0) = leaf.1 in
    other_kind (nodes (view v) []) l (λ a b. let bad : ⊥ = cc in bad) (λ i j a b. let bad : ⊥ = cc in bad)

-- ---- values that are not the same

pub not_same : (v w : Value) (b : Bool) → IsTrue b ↔ IsSame v w → b ≡ false → nodes (view v) ≡ nodes (view w) → ⊥
not_same v w b h is none = true≢false (sym (h.1 (twin_made (nodes (view v)) (nodes (view w)) none)) ∙ is)

-- the same values have no difference
pub none_of_same : (v w : Value) → IsSame v w → nodes (view v) ≡ nodes (view w)
none_of_same v w h = twin_same (nodes (view v)) (nodes (view w)) h
