-- Tests of values, part by part.
use Rattle.std.proofs.Common.{◌≡◌, ℕ, zero, suc, ◌+◌, ◌<◌, ◌≤◌, ℤ, Float, Bool, true, false, is_some, cond, is_eq, List, [], ◌∷◌, ◌++◌, length, get_or, Option, Some, None, option_map, option_and_then, IsSome, IsTrue, ◌↔◌, inl, inr, ⊎_elim, Vec, Global, string_bytes, nat_cmp, refl, sym, ap, ◌∙◌, subst, arith, true≢false, Ordering, Less, Greater, string_cmp}
use Rattle.std.specs.Prelude.{⊤}
use mathlib.Core.Bool.{beq}
use Rattle.std.proofs.lemmas.Bool.{cases_lt}
use Rattle.std.proofs.lemmas.Cmp.{nat_list_cmp_total, tied_itself}
use Rattle.std.proofs.lemmas.Map.Text.{is_eq-slice_cmp}
use Rattle.std.proofs.lemmas.Slice.Eq.{bytes_eq-Decides}
use Rattle.std.specs.BTreeMap.{get_by_text, is_at}
use Rattle.std.specs.Cmp.Lexicographic.{slice_cmp}
use Rattle.std.specs.List.{AllByRecursion}
use Rattle.std.specs.List.Sorted.{IsStrictlySortedBy}
use Rattle.std.specs.Map.{keys_of, lookup}
use Rattle.std.specs.Ordering.{ordering_reverse}
use Rattle.serde_json.specs.Data as json
use Rattle.serde_json.specs.Find.{as_null, as_bool, as_number, as_str, as_array, as_object, as_integer, is_float}
use Rattle.serde_json.specs.View.{view, items_view, members_view}
use Rattle.serde_json.specs.declared.value.Value.{Value, Null, Array, Object}
use Rattle.serde_json.proofs.Views.{Entry}
use Rattle.jsonptr.specs.Node.{key, place, Path, Scalar, of_json, Label, an_object, an_array, a_leaf}
use Rattle.jsonptr.specs.Content.{Content, scalar, get_item, label_of, content_at, map_of}
use Rattle.jsonptr.specs.Json.{content, nodes}
use Rattle.jsonptr_tree.proofs.JsonLemmas.{content_of, array_is, object_is}
use Rattle.jsonptr_tree.proofs.LevelLemmas.{items_by, items_len-by, get_item-by, get_member-by}
use Rattle.jsonptr_document.proofs.JsonLevel.{array_at, object_at}
use Rattle.jsonptr_patch.specs.Testing.{Reading, nothing, truth, words, whole, reading, SameReading, NumericallyEqual, SameScalarBy, SameNodeBy, IsEqualBy, HasFloat}
use Rattle.jsonptr_patch.specs.PrivateTesting.{SameValueBy, FloatIn, FloatAmong, FloatUnder, SameNumber, SameNumberBy, SameElements, SameMember, SameMembers, HasKeys}
use Rattle.jsonptr_patch.specs.declared.comparison.Comparison.{Comparison}
use Rattle.jsonptr_patch.specs.declared.comparison.Comparison.TheVariants.{Strict, Numeric}
use Rattle.jsonptr_patch.proofs.NumberLemmas.{integers_equal}
use Rattle.jsonptr_patch.specs.PrivateTesting as tested

-- ---- entries of an object, in order

-- no value of these entries has a float
abbrev pub NoFloats : List Entry → Type 0
NoFloats [] = ⊤
NoFloats (e ∷ es) = (FloatIn e.1 → ⊥) × NoFloats es

-- each of these entries has its equal in the object
abbrev pub AllSame : Comparison → tested.Object → List Entry → Type 0
AllSame rule n [] = ⊤
AllSame rule n (e ∷ es) = SameMember rule (Some e.1) (get_by_text n (string_bytes e.0)) × AllSame rule n es

-- the object has the key of each of these entries
abbrev pub AllKeysIn : tested.Object → List Entry → Type 0
AllKeysIn m [] = ⊤
AllKeysIn m (e ∷ es) = IsSome (get_by_text m (string_bytes e.0)) × AllKeysIn m es

-- a string
abbrev pub found_under : List ℕ → List Entry → Option Value
found_under k es = lookup (is_at (λ l. slice_cmp nat_cmp k (string_bytes l))) es

pub below_middle : (first : Entry) (es : List Entry) (e : Entry) (more : List Entry) → AllByRecursion (λ y. string_cmp first.0 y ≡ Less) (keys_of (es ++ e ∷ more)) → string_cmp first.0 e.0 ≡ Less
below_middle first [] e more h = h.0
below_middle first (x ∷ es) e more h = below_middle first es e more h.1

-- each entry of a map in order is the one under its key
pub found_middle : (done : List Entry) (e : Entry) (more : List Entry) → IsStrictlySortedBy string_cmp (keys_of (done ++ e ∷ more)) → found_under (string_bytes e.0) (done ++ e ∷ more) ≡ Some e.1
unfolding IsStrictlySortedBy
found_middle [] e more h = ap (λ (o : Ordering). cond (is_eq o) (Some e.1) (found_under (string_bytes e.0) more)) (tied_itself nat_list_cmp_total (string_bytes e.0))
found_middle (first ∷ done) e more h =
    let above : slice_cmp nat_cmp (string_bytes e.0) (string_bytes first.0) ≡ Greater =
    nat_list_cmp_total.antisymm (string_bytes e.0) (string_bytes first.0) ∙ ap ordering_reverse (below_middle first done e more h.0) in
    ap (λ (o : Ordering). cond (is_eq o) (Some first.1) (found_under (string_bytes e.0) (done ++ e ∷ more))) above ∙ found_middle done e more h.1

-- the value that is found under a text is an entry with that key
found_among : (P : List ℕ → Value → Type 0) (b : Bool) (k l : List ℕ) (u v : Value) (rest : Option Value) → is_eq (slice_cmp nat_cmp k l) ≡ b → P l u → (rest ≡ Some v → P k v) → cond b (Some u) rest ≡ Some v → P k v
found_among P true k l u v rest is here later e =
    let same : u ≡ v = cc in
    let one : k ≡ l = (bytes_eq-Decides k l).0 (sym (is_eq-slice_cmp k l) ∙ is) in
    subst (λ (t : List ℕ). P t v) (sym one) (subst (P l) same here)
found_among P false k l u v rest is here later e = later e

pub no_none : {A B : Type 0} (a : A) → None ≡ Some a → B
no_none a e = let none : ⊥ = cc in absurd none

-- a property of each entry is one of the value that is found
pub found_float : (es : List Entry) → NoFloats es → (k : List ℕ) (v : Value) → found_under k es ≡ Some v → FloatIn v → ⊥
found_float [] none k v e = no_none v e
found_float (x ∷ es) none k v e = found_among (λ _ u. FloatIn u → ⊥) (is_eq (slice_cmp nat_cmp k (string_bytes x.0))) k (string_bytes x.0) x.1 v (found_under k es) refl none.0 (found_float es none.1 k v) e

pub found_same : (rule : Comparison) (n : tested.Object) (es : List Entry) → AllSame rule n es → (k : List ℕ) (v : Value) → found_under k es ≡ Some v → SameMember rule (Some v) (get_by_text n k)
found_same rule n [] all k v e = no_none v e
found_same rule n (x ∷ es) all k v e = found_among (λ l u. SameMember rule (Some u) (get_by_text n l)) (is_eq (slice_cmp nat_cmp k (string_bytes x.0))) k (string_bytes x.0) x.1 v (found_under k es) refl all.0 (found_same rule n es all.1 k v) e

pub found_key : (m : tested.Object) (es : List Entry) → AllKeysIn m es → (k : List ℕ) (v : Value) → found_under k es ≡ Some v → IsSome (get_by_text m k)
found_key m [] all k v e = no_none v e
found_key m (x ∷ es) all k v e = found_among (λ l _. IsSome (get_by_text m l)) (is_eq (slice_cmp nat_cmp k (string_bytes x.0))) k (string_bytes x.0) x.1 v (found_under k es) refl all.0 (found_key m es all.1 k v) e

-- one entry more
pub floats_push : (es : List Entry) (e : Entry) → NoFloats es → (FloatIn e.1 → ⊥) → NoFloats (es ++ e ∷ [])
floats_push [] e none new = (new, tt)
floats_push (x ∷ es) e none new = (none.0, floats_push es e none.1 new)

pub same_push : (rule : Comparison) (n : tested.Object) (es : List Entry) (e : Entry) → AllSame rule n es → SameMember rule (Some e.1) (get_by_text n (string_bytes e.0)) → AllSame rule n (es ++ e ∷ [])
same_push rule n [] e all one = (one, tt)
same_push rule n (x ∷ es) e all one = (all.0, same_push rule n es e all.1 one)

pub keys_push : (m : tested.Object) (es : List Entry) (e : Entry) → AllKeysIn m es → IsSome (get_by_text m (string_bytes e.0)) → AllKeysIn m (es ++ e ∷ [])
keys_push m [] e all one = (one, tt)
keys_push m (x ∷ es) e all one = (all.0, keys_push m es e all.1 one)

-- whole objects

some_value : (o : Option Value) → IsSome o → (v : Value) × (o ≡ Some v)
some_value None h = absurd (true≢false (sym h))
some_value (Some v) h = (v, refl)

pub keys_found : (m n : tested.Object) → AllKeysIn m n.entries → HasKeys m n
keys_found m n all k some =
    let v = some_value (get_by_text n k) some in
    found_key m n.entries all k v.0 v.1

pub members_same : (rule : Comparison) (m n : tested.Object) → AllSame rule n m.entries → HasKeys m n → SameMembers rule m n
members_same rule m n all keys k = by_value (get_by_text m k) (get_by_text n k) refl refl
  where
    by_value : (o q : Option Value) → get_by_text m k ≡ o → get_by_text n k ≡ q → SameMember rule o q
    by_value (Some v) q is other = subst (SameMember rule (Some v)) other (found_same rule n m.entries all k v is)
    by_value None None is other = tt
    by_value None (Some w) is other = absurd (true≢false (sym (keys k (subst (λ (o : Option Value). IsSome o) (sym other) refl)) ∙ ap (λ (o : Option Value). is_some o) is))

pub same_keys : (rule : Comparison) (m n : tested.Object) → SameMembers rule m n → HasKeys m n
same_keys rule m n same k some = by_value (get_by_text m k) (get_by_text n k) (same k) some
  where
    by_value : (o q : Option Value) → SameMember rule o q → IsSome q → IsSome o
    by_value (Some v) q h i = refl
    by_value None None h i = i
    by_value None (Some w) h i = absurd h

-- ---- the parts of a value

-- the label at a path of a value, if there is one
abbrev pub label_in : Path → Option Value → Option Label
label_in p o = option_map label_of (option_and_then (content_at p) (option_map content_of o))

past_item : (vs : List Value) (i : ℕ) → length vs ≤ i → get_item i (items_by content_of vs) ≡ None
past_item [] i h = refl
past_item (v ∷ vs) zero h = absurd (omega arith)
past_item (v ∷ vs) (suc i) h = past_item vs i (omega arith)

pub element_label : (v : Vec Value Global) (i : ℕ) (p : Path) (x : Value) → i < length v.items → map_of (content_of (Array v)) (place i ∷ p) ≡ map_of (content_of (get_or v.items i x)) p
element_label v i p x h = ap (λ (d : Content). map_of d (place i ∷ p)) (array_is v) ∙ ap (λ (o : Option Content). option_map label_of (option_and_then (content_at p) o)) (get_item-by content_of v.items i x h)

pub past_label : (v : Vec Value Global) (i : ℕ) (p : Path) → length v.items ≤ i → map_of (content_of (Array v)) (place i ∷ p) ≡ None
past_label v i p h = ap (λ (d : Content). map_of d (place i ∷ p)) (array_is v) ∙ ap (λ (o : Option Content). option_map label_of (option_and_then (content_at p) o)) (past_item v.items i h)

pub array_label : (v : Vec Value Global) → map_of (content_of (Array v)) [] ≡ Some (an_array (length v.items))
array_label v = ap (λ (d : Content). map_of d []) (array_is v) ∙ ap (λ (len : ℕ). Some (an_array len)) (items_len-by content_of v.items)

pub no_key_label : (v : Vec Value Global) (k : List ℕ) (p : Path) → map_of (content_of (Array v)) (key k ∷ p) ≡ None
no_key_label v k p = ap (λ (d : Content). map_of d (key k ∷ p)) (array_is v)

pub member_label : (m : tested.Object) (k : List ℕ) (p : Path) → map_of (content_of (Object m)) (key k ∷ p) ≡ label_in p (get_by_text m k)
member_label m k p = ap (λ (d : Content). map_of d (key k ∷ p)) (object_is m) ∙ ap (λ (o : Option Content). option_map label_of (option_and_then (content_at p) o)) (get_member-by content_of m k)

pub object_label : (m : tested.Object) → map_of (content_of (Object m)) [] ≡ Some an_object
object_label m = ap (λ (d : Content). map_of d []) (object_is m)

pub no_place_label : (m : tested.Object) (i : ℕ) (p : Path) → map_of (content_of (Object m)) (place i ∷ p) ≡ None
no_place_label m i p = ap (λ (d : Content). map_of d (place i ∷ p)) (object_is m)

-- ---- equal values

both : (rule : Comparison) (a b c d : Option Label) → a ≡ c → b ≡ d → SameNodeBy rule c d → SameNodeBy rule a b
both rule a b c d e f h = subst (λ (l : Option Label). SameNodeBy rule l b) (sym e) (subst (SameNodeBy rule c) (sym f) h)

pub elements_equal : (rule : Comparison) (v w : Vec Value Global) → SameElements rule v.items w.items ↔ SameValueBy rule (Array v) (Array w)
elements_equal rule v w = (to, from)
  where
    to : SameElements rule v.items w.items → SameValueBy rule (Array v) (Array w)
    to h [] = both rule _ _ _ _ (array_label v) (array_label w) h.0
    to h (key k ∷ p) = both rule _ _ _ _ (no_key_label v k p) (no_key_label w k p) tt
    to h (place i ∷ p) = ⊎_elim
        (λ (b : i < length v.items).
        let c : i < length w.items = omega (arith, h.0) in
        both rule _ _ _ _ (element_label v i p Null b) (element_label w i p Null c) (h.1 i Null b p))
        (λ (b : length v.items ≤ i).
        let c : length w.items ≤ i = omega (arith, h.0) in
        both rule _ _ _ _ (past_label v i p b) (past_label w i p c) tt)
        (cases_lt i (length v.items))

    from : SameValueBy rule (Array v) (Array w) → SameElements rule v.items w.items
    from h =
        let long : length v.items ≡ length w.items = both rule _ _ _ _ (sym (array_label v)) (sym (array_label w)) (h []) in (
          long,
          λ i x b p.
              let c : i < length w.items = omega (arith, long) in
              both rule _ _ _ _ (sym (element_label v i p x b)) (sym (element_label w i p x c)) (h (place i ∷ p)),
        )

to_members : (rule : Comparison) (o q : Option Value) → SameMember rule o q → (p : Path) → SameNodeBy rule (label_in p o) (label_in p q)
to_members rule None None h p = tt
to_members rule (Some v) (Some w) h p = h p
to_members rule None (Some w) h p = absurd h
to_members rule (Some v) None h p = absurd h

from_members : (rule : Comparison) (o q : Option Value) → ((p : Path) → SameNodeBy rule (label_in p o) (label_in p q)) → SameMember rule o q
from_members rule None None h = tt
from_members rule (Some v) (Some w) h = h
from_members rule None (Some w) h = h []
from_members rule (Some v) None h = by_label (label_of (content_of v)) (h [])
  where
    by_label : (l : Label) → SameNodeBy rule (Some l) None → ⊥
    by_label an_object i = i
    by_label (an_array len) i = i
    by_label (a_leaf a) i = i

pub members_equal : (rule : Comparison) (m n : tested.Object) → SameMembers rule m n ↔ SameValueBy rule (Object m) (Object n)
members_equal rule m n = (to, from)
  where
    to : SameMembers rule m n → SameValueBy rule (Object m) (Object n)
    to h [] = both rule _ _ _ _ (object_label m) (object_label n) tt
    to h (key k ∷ p) = both rule _ _ _ _ (member_label m k p) (member_label n k p) (to_members rule (get_by_text m k) (get_by_text n k) (h k) p)
    to h (place i ∷ p) = both rule _ _ _ _ (no_place_label m i p) (no_place_label n i p) tt

    from : SameValueBy rule (Object m) (Object n) → SameMembers rule m n
    from h k = from_members rule (get_by_text m k) (get_by_text n k) (λ p. both rule _ _ _ _ (sym (member_label m k p)) (sym (member_label n k p)) (h (key k ∷ p)))

-- ---- floats

pub elements_float : (v : Vec Value Global) → FloatAmong v.items ↔ FloatIn (Array v)
elements_float v = (to, from)
  where
    to : FloatAmong v.items → FloatIn (Array v)
    to h = (place h.0 ∷ h.3.0, h.3.1, element_label v h.0 h.3.0 h.1 h.2 ∙ h.3.2)

    from : FloatIn (Array v) → FloatAmong v.items
    from h = by_path h.0 h.2
      where
        by_path : (w : Path) → map_of (content_of (Array v)) w ≡ Some (a_leaf (of_json (json.number (json.float h.1)))) → FloatAmong v.items
        by_path [] e = let apart : Some (an_array (length v.items)) ≡ Some (a_leaf (of_json (json.number (json.float h.1)))) = sym (array_label v) ∙ e in let none : ⊥ = cc in absurd none
        by_path (key k ∷ p) e = no_none _ (sym (no_key_label v k p) ∙ e)
        by_path (place i ∷ p) e = ⊎_elim
            (λ (b : i < length v.items). (i, Null, b, (p, h.1, sym (element_label v i p Null b) ∙ e)))
            (λ (b : length v.items ≤ i). no_none _ (sym (past_label v i p b) ∙ e))
            (cases_lt i (length v.items))

pub members_float : (m : tested.Object) → FloatUnder m ↔ FloatIn (Object m)
members_float m = (to, from)
  where
    to : FloatUnder m → FloatIn (Object m)
    to h = (key h.0 ∷ h.3.0, h.3.1, member_label m h.0 h.3.0 ∙ ap (label_in h.3.0) h.2 ∙ h.3.2)

    from : FloatIn (Object m) → FloatUnder m
    from h = by_path h.0 h.2
      where
        by_value : (k : List ℕ) (p : Path) (o : Option Value) → get_by_text m k ≡ o → label_in p o ≡ Some (a_leaf (of_json (json.number (json.float h.1)))) → FloatUnder m
        by_value k p None is e = no_none _ e
        by_value k p (Some v) is e = (k, v, is, (p, h.1, e))

        by_path : (w : Path) → map_of (content_of (Object m)) w ≡ Some (a_leaf (of_json (json.number (json.float h.1)))) → FloatUnder m
        by_path [] e = let apart : Some an_object ≡ Some (a_leaf (of_json (json.number (json.float h.1)))) = sym (object_label m) ∙ e in let none : ⊥ = cc in absurd none
        by_path (key k ∷ p) e = by_value k p (get_by_text m k) refl (sym (member_label m k p) ∙ e)
        by_path (place i ∷ p) e = no_none _ (sym (no_place_label m i p) ∙ e)

-- a scalar alone
leaf_float : (s : Scalar) (x : Float) (w : Path) → map_of (scalar s) w ≡ Some (a_leaf (of_json (json.number (json.float x)))) → s ≡ of_json (json.number (json.float x))
leaf_float s x [] e = cc
leaf_float s x (key k ∷ p) e = no_none _ e
leaf_float s x (place i ∷ p) e = no_none _ e

pub null_float : HasFloat (nodes json.null) → ⊥
null_float h = let e = leaf_float (of_json json.null) h.1 h.0 h.2 in let none : ⊥ = cc in none

pub boolean_float : (b : Bool) → HasFloat (nodes (json.boolean b)) → ⊥
boolean_float b h = let e = leaf_float (of_json (json.boolean b)) h.1 h.0 h.2 in let none : ⊥ = cc in none

pub string_float : (s : List ℕ) → HasFloat (nodes (json.string s)) → ⊥
string_float s h = let e = leaf_float (of_json (json.string s)) h.1 h.0 h.2 in let none : ⊥ = cc in none

pub number_float : (n : json.Num) → (is_float n ≡ true) ↔ HasFloat (nodes (json.number n))
number_float (json.unsigned k) = (λ e. absurd (true≢false (sym e)), λ h. let e = leaf_float (of_json (json.number (json.unsigned k))) h.1 h.0 h.2 in let none : ⊥ = cc in absurd none)
number_float (json.negative z) = (λ e. absurd (true≢false (sym e)), λ h. let e = leaf_float (of_json (json.number (json.negative z))) h.1 h.0 h.2 in let none : ⊥ = cc in absurd none)
number_float (json.float x) = (λ e. ([], x, refl), λ h. refl)

-- ---- a scalar and another value

-- what a test reads from a value
abbrev pub reading_of : json.Data → Option Reading
reading_of json.null = Some nothing
reading_of (json.boolean b) = Some (truth b)
reading_of (json.number n) = option_map whole (as_integer n)
reading_of (json.string s) = Some (words s)
reading_of (json.array ds) = None
reading_of (json.object ms) = None

-- an integer reads as itself, and a float has no reading
whole_of : (n : json.Num) (r : Reading) → option_map whole (as_integer n) ≡ Some r → (z : ℤ) × (as_integer n ≡ Some z) × (r ≡ whole z)
whole_of n r e = by_value (as_integer n) e
  where
    by_value : (o : Option ℤ) → option_map whole o ≡ Some r → (z : ℤ) × (o ≡ Some z) × (r ≡ whole z)
    by_value None f = no_none r f
    by_value (Some z) f = (z, refl, cc)

-- no number has a reading that is not an integer
no_whole : (n : json.Num) (r : Reading) → ((z : ℤ) → r ≡ whole z → ⊥) → option_map whole (as_integer n) ≡ Some r → ⊥
no_whole n r apart e = let w = whole_of n r e in apart w.0 w.2

nothing_whole : (z : ℤ) → nothing ≡ whole z → ⊥
nothing_whole z e = cc

truth_whole : (b : Bool) (z : ℤ) → truth b ≡ whole z → ⊥
truth_whole b z e = cc

words_whole : (s : List ℕ) (z : ℤ) → words s ≡ whole z → ⊥
words_whole s z e = cc

-- what has a reading that is no integer is no number
read_only : (rule : Comparison) (a b : Scalar) (r : Reading) → reading a ≡ Some r → ((z : ℤ) → r ≡ whole z → ⊥) → SameScalarBy rule a b → SameReading a b
read_only Strict a b r is other h = h
read_only Numeric a b r is other (inl h) = h
read_only Numeric a b r is other (inr h) = absurd (no_whole h.0 r other (subst (λ (x : Scalar). reading x ≡ Some r) h.2 is))

reads_same : (rule : Comparison) (a b : Scalar) → SameReading a b → SameScalarBy rule a b
reads_same Strict a b h = h
reads_same Numeric a b h = inl h

leaves_same : (rule : Comparison) (a b : Scalar) → SameScalarBy rule a b → IsEqualBy rule (map_of (scalar a)) (map_of (scalar b))
leaves_same rule a b h [] = h
leaves_same rule a b h (key k ∷ p) = tt
leaves_same rule a b h (place i ∷ p) = tt

-- a scalar that has a reading, and is no integer, equals the values that have it
pub reading_equal : (rule : Comparison) (a : Scalar) (r : Reading) (e : json.Data) → reading a ≡ Some r → ((z : ℤ) → r ≡ whole z → ⊥) → IsEqualBy rule (map_of (scalar a)) (nodes e) ↔ (reading_of e ≡ Some r)
reading_equal rule a r e is other = (to e, from e)
  where
    one : (q : Reading) (o : Option Reading) → reading a ≡ Some q → o ≡ Some q → o ≡ Some r
    one q o f g = cc

    read : (b : Scalar) → SameScalarBy rule a b → reading b ≡ Some r
    read b h = let s = read_only rule a b r is other h in one s.0 (reading b) s.1 s.2

    same : (b : Scalar) → reading b ≡ Some r → IsEqualBy rule (map_of (scalar a)) (map_of (scalar b))
    same b g = leaves_same rule a b (reads_same rule a b (r, is, g))

    to : (e : json.Data) → IsEqualBy rule (map_of (scalar a)) (nodes e) → reading_of e ≡ Some r
    to json.null h = read (of_json json.null) (h [])
    to (json.boolean b) h = read (of_json (json.boolean b)) (h [])
    to (json.number n) h = read (of_json (json.number n)) (h [])
    to (json.string s) h = read (of_json (json.string s)) (h [])
    to (json.array ds) h = absurd (h [])
    to (json.object ms) h = absurd (h [])

    from : (e : json.Data) → reading_of e ≡ Some r → IsEqualBy rule (map_of (scalar a)) (nodes e)
    from json.null g = same (of_json json.null) g
    from (json.boolean b) g = same (of_json (json.boolean b)) g
    from (json.number n) g = same (of_json (json.number n)) g
    from (json.string s) g = same (of_json (json.string s)) g
    from (json.array ds) g = no_none r g
    from (json.object ms) g = no_none r g

-- ---- the match arms of the code

pub never : (P : Type 0) → (P → ⊥) → IsTrue false ↔ P
never P none = (λ h. absurd (true≢false (sym h)), λ p. absurd (none p))

pub always : (P : Type 0) → P → IsTrue true ↔ P
always P p = (λ h. p, λ h. refl)

-- whether a value with this content contains a float
pub float_as : (v : Value) (d : Content) → content_of v ≡ d → (HasFloat (map_of d) → ⊥) → IsTrue false ↔ FloatIn v
float_as v d is none = never (FloatIn v) (λ h. none (subst (λ (c : Content). HasFloat (map_of c)) is h))

pub float_number : (v : Value) (n : json.Num) (b : Bool) → content_of v ≡ scalar (of_json (json.number n)) → b ≡ is_float n → IsTrue b ↔ FloatIn v
float_number v n b is by =
    let r = number_float n in
    (λ h. subst (λ (c : Content). HasFloat (map_of c)) (sym is) (r.0 (sym by ∙ h)), λ h. by ∙ r.1 (subst (λ (c : Content). HasFloat (map_of c)) is h))

pub float_part : (P : Type 0) (v w : Value) (b : Bool) → v ≡ w → IsTrue b ↔ P → P ↔ FloatIn w → IsTrue b ↔ FloatIn v
float_part P v w b is here there = (λ h. subst FloatIn (sym is) (there.0 (here.0 h)), λ h. here.1 (there.1 (subst FloatIn is h)))

-- two values of these contents
pub same_as : (rule : Comparison) (P : Type 0) (v w : Value) (d e : Content) (b : Bool) → content_of v ≡ d → content_of w ≡ e → IsTrue b ↔ P → P ↔ IsEqualBy rule (map_of d) (map_of e) → IsTrue b ↔ SameValueBy rule v w
same_as rule P v w d e b is other here there = (λ h. back (there.0 (here.0 h)), λ h. here.1 (there.1 (forth h)))
  where
    back : IsEqualBy rule (map_of d) (map_of e) → SameValueBy rule v w
    back h = subst (λ (c : Content). IsEqualBy rule (map_of c) (map_of (content_of w))) (sym is) (subst (λ (c : Content). IsEqualBy rule (map_of d) (map_of c)) (sym other) h)

    forth : SameValueBy rule v w → IsEqualBy rule (map_of d) (map_of e)
    forth h = subst (λ (c : Content). IsEqualBy rule (map_of d) (map_of c)) other (subst (λ (c : Content). IsEqualBy rule (map_of c) (map_of (content_of w))) is h)

iff_flip : {A B : Type 0} → A ↔ B → B ↔ A
iff_flip h = (h.1, h.0)

-- null
null_reads : (e : json.Data) (b : Bool) → b ≡ is_some (as_null e) → IsTrue b ↔ (reading_of e ≡ Some nothing)
null_reads json.null b is = (λ h. refl, λ h. is)
null_reads (json.boolean x) b is = (λ h. absurd (true≢false (sym h ∙ is)), λ h. let none : ⊥ = cc in absurd none)
null_reads (json.number n) b is = (λ h. absurd (true≢false (sym h ∙ is)), λ h. absurd (no_whole n nothing nothing_whole h))
null_reads (json.string s) b is = (λ h. absurd (true≢false (sym h ∙ is)), λ h. let none : ⊥ = cc in absurd none)
null_reads (json.array ds) b is = (λ h. absurd (true≢false (sym h ∙ is)), λ h. no_none nothing h)
null_reads (json.object ms) b is = (λ h. absurd (true≢false (sym h ∙ is)), λ h. no_none nothing h)

pub null_same : (rule : Comparison) (v w : Value) (b : Bool) → content_of v ≡ scalar (of_json json.null) → b ≡ is_some (as_null (view w)) → IsTrue b ↔ SameValueBy rule v w
null_same rule v w b is by = same_as rule (reading_of (view w) ≡ Some nothing) v w (scalar (of_json json.null)) (content_of w) b is refl (null_reads (view w) b by) (iff_flip (reading_equal rule (of_json json.null) nothing (view w) refl nothing_whole))

-- a boolean
truth_reads : (e : json.Data) (t o : Bool) → Some o ≡ as_bool e → IsTrue (beq t o) ↔ (reading_of e ≡ Some (truth t))
truth_reads json.null t o e = let none : ⊥ = cc in absurd none
truth_reads (json.boolean x) t o e = by_value t o (let same : o ≡ x = cc in same)
  where
    by_value : (t o : Bool) → o ≡ x → IsTrue (beq t o) ↔ (Some (truth x) ≡ Some (truth t))
    by_value true true f = (λ h. ap (λ (b : Bool). Some (truth b)) (sym f), λ h. refl)
    by_value false false f = (λ h. ap (λ (b : Bool). Some (truth b)) (sym f), λ h. refl)
    by_value true false f = (λ h. absurd (true≢false (sym h)), λ h. let same : x ≡ true = cc in absurd (true≢false (sym same ∙ sym f)))
    by_value false true f = (λ h. absurd (true≢false (sym h)), λ h. let same : x ≡ false = cc in absurd (true≢false (f ∙ same)))
truth_reads (json.number n) t o e = let none : ⊥ = cc in absurd none
truth_reads (json.string s) t o e = let none : ⊥ = cc in absurd none
truth_reads (json.array ds) t o e = let none : ⊥ = cc in absurd none
truth_reads (json.object ms) t o e = let none : ⊥ = cc in absurd none

truth_unread : (e : json.Data) (t : Bool) → None ≡ as_bool e → reading_of e ≡ Some (truth t) → ⊥
truth_unread json.null t e h = cc
truth_unread (json.boolean x) t e h = cc
truth_unread (json.number n) t e h = no_whole n (truth t) (truth_whole t) h
truth_unread (json.string s) t e h = cc
truth_unread (json.array ds) t e h = no_none (truth t) h
truth_unread (json.object ms) t e h = no_none (truth t) h

pub truth_same : (rule : Comparison) (v w : Value) (t o : Bool) → content_of v ≡ scalar (of_json (json.boolean t)) → Some o ≡ as_bool (view w) → IsTrue (beq t o) ↔ SameValueBy rule v w
truth_same rule v w t o is by = same_as rule (reading_of (view w) ≡ Some (truth t)) v w (scalar (of_json (json.boolean t))) (content_of w) (beq t o) is refl (truth_reads (view w) t o by) (iff_flip (reading_equal rule (of_json (json.boolean t)) (truth t) (view w) refl (truth_whole t)))

pub truth_differs : (rule : Comparison) (v w : Value) (t : Bool) → content_of v ≡ scalar (of_json (json.boolean t)) → None ≡ as_bool (view w) → IsTrue false ↔ SameValueBy rule v w
truth_differs rule v w t is by = same_as rule (reading_of (view w) ≡ Some (truth t)) v w (scalar (of_json (json.boolean t))) (content_of w) false is refl (never (reading_of (view w) ≡ Some (truth t)) (truth_unread (view w) t by)) (iff_flip (reading_equal rule (of_json (json.boolean t)) (truth t) (view w) refl (truth_whole t)))

-- a text
text_reads : (e : json.Data) (s o : List ℕ) (b : Bool) → Some o ≡ as_str e → IsTrue b ↔ (s ≡ o) → IsTrue b ↔ (reading_of e ≡ Some (words s))
text_reads json.null s o b e h = let none : ⊥ = cc in absurd none
text_reads (json.boolean x) s o b e h = let none : ⊥ = cc in absurd none
text_reads (json.number n) s o b e h = let none : ⊥ = cc in absurd none
text_reads (json.string x) s o b e h =
    let same : o ≡ x = cc in
    (λ i. ap (λ (l : List ℕ). Some (words l)) (sym (h.0 i ∙ same)), λ i. let one : x ≡ s = cc in h.1 (sym one ∙ sym same))
text_reads (json.array ds) s o b e h = let none : ⊥ = cc in absurd none
text_reads (json.object ms) s o b e h = let none : ⊥ = cc in absurd none

text_unread : (e : json.Data) (s : List ℕ) → None ≡ as_str e → reading_of e ≡ Some (words s) → ⊥
text_unread json.null s e h = cc
text_unread (json.boolean x) s e h = cc
text_unread (json.number n) s e h = no_whole n (words s) (words_whole s) h
text_unread (json.string x) s e h = cc
text_unread (json.array ds) s e h = no_none (words s) h
text_unread (json.object ms) s e h = no_none (words s) h

pub text_same : (rule : Comparison) (v w : Value) (s o : List ℕ) (b : Bool) → content_of v ≡ scalar (of_json (json.string s)) → Some o ≡ as_str (view w) → IsTrue b ↔ (s ≡ o) → IsTrue b ↔ SameValueBy rule v w
text_same rule v w s o b is by h = same_as rule (reading_of (view w) ≡ Some (words s)) v w (scalar (of_json (json.string s))) (content_of w) b is refl (text_reads (view w) s o b by h) (iff_flip (reading_equal rule (of_json (json.string s)) (words s) (view w) refl (words_whole s)))

pub text_differs : (rule : Comparison) (v w : Value) (s : List ℕ) → content_of v ≡ scalar (of_json (json.string s)) → None ≡ as_str (view w) → IsTrue false ↔ SameValueBy rule v w
text_differs rule v w s is by = same_as rule (reading_of (view w) ≡ Some (words s)) v w (scalar (of_json (json.string s))) (content_of w) false is refl (never (reading_of (view w) ≡ Some (words s)) (text_unread (view w) s by)) (iff_flip (reading_equal rule (of_json (json.string s)) (words s) (view w) refl (words_whole s)))

-- a number
number_seen : (e : json.Data) (m : json.Num) → Some m ≡ as_number e → e ≡ json.number m
number_seen json.null m e = let none : ⊥ = cc in absurd none
number_seen (json.boolean x) m e = let none : ⊥ = cc in absurd none
number_seen (json.number n) m e = let same : n ≡ m = cc in ap json.number same
number_seen (json.string s) m e = let none : ⊥ = cc in absurd none
number_seen (json.array ds) m e = let none : ⊥ = cc in absurd none
number_seen (json.object ms) m e = let none : ⊥ = cc in absurd none

pub numbers_equal : (rule : Comparison) (n m : json.Num) → SameNumberBy rule n m ↔ IsEqualBy rule (map_of (scalar (of_json (json.number n)))) (map_of (scalar (of_json (json.number m))))
numbers_equal rule n m = (λ h. leaves_same rule (of_json (json.number n)) (of_json (json.number m)) (to rule h), λ h. from rule (h []))
  where
    one : (x y : ℤ) → whole x ≡ whole y → x ≡ y
    one x y e = cc

    integers : SameReading (of_json (json.number n)) (of_json (json.number m)) → SameNumber n m
    integers h =
        let a = whole_of n h.0 h.1 in
        let b = whole_of m h.0 h.2 in
        let same : a.0 ≡ b.0 = one a.0 b.0 (sym a.2 ∙ b.2) in
        (a.0, a.1, b.1 ∙ ap (λ (z : ℤ). Some z) (sym same))

    number_of : (x y : json.Num) → of_json (json.number x) ≡ of_json (json.number y) → x ≡ y
    number_of x y e = cc

    to : (rule : Comparison) → SameNumberBy rule n m → SameScalarBy rule (of_json (json.number n)) (of_json (json.number m))
    to Strict h = (whole h.0, ap (option_map whole) h.1, ap (option_map whole) h.2)
    to Numeric h = inr (n, m, refl, refl, h)

    from : (rule : Comparison) → SameScalarBy rule (of_json (json.number n)) (of_json (json.number m)) → SameNumberBy rule n m
    from Strict h = integers h
    from Numeric (inl h) =
        let same = integers h in
        integers_equal n m same.0 same.1 same.2
    from Numeric (inr h) =
        let left = number_of n h.0 h.2 in
        let right = number_of m h.1 h.3 in
        subst (λ (x : json.Num). NumericallyEqual x m) (sym left) (subst (NumericallyEqual h.0) (sym right) h.4)

pub number_same : (rule : Comparison) (v w : Value) (n m : json.Num) (b : Bool) → content_of v ≡ scalar (of_json (json.number n)) → Some m ≡ as_number (view w) → IsTrue b ↔ SameNumberBy rule n m → IsTrue b ↔ SameValueBy rule v w
number_same rule v w n m b is by h = same_as rule (SameNumberBy rule n m) v w (scalar (of_json (json.number n))) (scalar (of_json (json.number m))) b is (ap content (number_seen (view w) m by)) h (numbers_equal rule n m)

-- what is no number equals one only by its reading
not_number : (rule : Comparison) (n : json.Num) (b : Scalar) → ((m : json.Num) → b ≡ of_json (json.number m) → ⊥) → SameScalarBy rule (of_json (json.number n)) b → SameReading (of_json (json.number n)) b
not_number Strict n b other h = h
not_number Numeric n b other (inl h) = h
not_number Numeric n b other (inr h) = absurd (other h.1 h.3)

number_only : (rule : Comparison) (n : json.Num) (e : json.Data) → None ≡ as_number e → IsEqualBy rule (map_of (scalar (of_json (json.number n)))) (nodes e) → ⊥
number_only rule n json.null e h = let root = not_number rule n (of_json json.null) (λ m f. cc) (h []) in let same : root.0 ≡ nothing = cc in no_whole n root.0 (λ z f. nothing_whole z (sym same ∙ f)) root.1
number_only rule n (json.boolean x) e h = let root = not_number rule n (of_json (json.boolean x)) (λ m f. cc) (h []) in let same : root.0 ≡ truth x = cc in no_whole n root.0 (λ z f. truth_whole x z (sym same ∙ f)) root.1
number_only rule n (json.number m) e h = cc
number_only rule n (json.string s) e h = let root = not_number rule n (of_json (json.string s)) (λ m f. cc) (h []) in let same : root.0 ≡ words s = cc in no_whole n root.0 (λ z f. words_whole s z (sym same ∙ f)) root.1
number_only rule n (json.array ds) e h = h []
number_only rule n (json.object ms) e h = h []

pub number_differs : (rule : Comparison) (v w : Value) (n : json.Num) → content_of v ≡ scalar (of_json (json.number n)) → None ≡ as_number (view w) → IsTrue false ↔ SameValueBy rule v w
number_differs rule v w n is by = never (SameValueBy rule v w) (λ h. number_only rule n (view w) by (subst (λ (c : Content). IsEqualBy rule (map_of c) (map_of (content_of w))) is h))

-- an array
pub array_same : (rule : Comparison) (v w : Value) (a o : Vec Value Global) (b : Bool) → v ≡ Array a → Some (items_view o.items) ≡ as_array (view w) → IsTrue b ↔ SameElements rule a.items o.items → IsTrue b ↔ SameValueBy rule v w
array_same rule v w a o b is by h = same_as rule (SameElements rule a.items o.items) v w (content_of (Array a)) (content_of (Array o)) b (ap content_of is) (array_at w o by) h (elements_equal rule a o)

array_only : (rule : Comparison) (len : ℕ) (e : json.Data) → None ≡ as_array e → SameNodeBy rule (Some (an_array len)) (nodes e []) → ⊥
array_only rule len json.null e h = h
array_only rule len (json.boolean x) e h = h
array_only rule len (json.number n) e h = h
array_only rule len (json.string s) e h = h
array_only rule len (json.array ds) e h = cc
array_only rule len (json.object ms) e h = h

pub array_differs : (rule : Comparison) (v w : Value) (a : Vec Value Global) → v ≡ Array a → None ≡ as_array (view w) → IsTrue false ↔ SameValueBy rule v w
array_differs rule v w a is by = never (SameValueBy rule v w) (λ h. array_only rule (length a.items) (view w) by (subst (λ (l : Option Label). SameNodeBy rule l (nodes (view w) [])) (ap (λ (u : Value). map_of (content_of u) []) is ∙ array_label a) (h [])))

-- an object
pub object_same : (rule : Comparison) (v w : Value) (m o : tested.Object) (b : Bool) → v ≡ Object m → Some (members_view o.entries) ≡ as_object (view w) → IsTrue b ↔ SameMembers rule m o → IsTrue b ↔ SameValueBy rule v w
object_same rule v w m o b is by h = same_as rule (SameMembers rule m o) v w (content_of (Object m)) (content_of (Object o)) b (ap content_of is) (object_at w o by) h (members_equal rule m o)

object_only : (rule : Comparison) (e : json.Data) → None ≡ as_object e → SameNodeBy rule (Some an_object) (nodes e []) → ⊥
object_only rule json.null e h = h
object_only rule (json.boolean x) e h = h
object_only rule (json.number n) e h = h
object_only rule (json.string s) e h = h
object_only rule (json.array ds) e h = h
object_only rule (json.object ms) e h = cc

pub object_differs : (rule : Comparison) (v w : Value) (m : tested.Object) → v ≡ Object m → None ≡ as_object (view w) → IsTrue false ↔ SameValueBy rule v w
object_differs rule v w m is by = never (SameValueBy rule v w) (λ h. object_only rule (view w) by (subst (λ (l : Option Label). SameNodeBy rule l (nodes (view w) [])) (ap (λ (u : Value). map_of (content_of u) []) is ∙ object_label m) (h [])))

-- ---- the loops of the code

pub any_default : (vs : List Value) (i : ℕ) (x y : Value) → i < length vs → get_or vs i x ≡ get_or vs i y
any_default [] i x y h = absurd (omega arith)
any_default (v ∷ vs) zero x y h = refl
any_default (v ∷ vs) (suc i) x y h = any_default vs i x y (omega arith)

pub float_more : (vs : List Value) (n : ℕ) (e : Value) → n < length vs → e ≡ get_or vs n e → (FloatIn e → ⊥) → ((i : ℕ) (x : Value) → i < n → FloatIn (get_or vs i x) → ⊥) → (i : ℕ) (x : Value) → i < n + 1 → FloatIn (get_or vs i x) → ⊥
float_more vs n e inside is none before i x h = ⊎_elim
    (λ (b : i < n). before i x b)
    (λ (b : n ≤ i).
    let same : i ≡ n = omega arith in
    subst (λ (k : ℕ). FloatIn (get_or vs k x) → ⊥) (sym same) (λ f. none (subst FloatIn (any_default vs n x e inside ∙ sym is) f)))
    (cases_lt i n)

pub float_here : (vs : List Value) (n : ℕ) (e : Value) → n < length vs → e ≡ get_or vs n e → FloatIn e → IsTrue true ↔ FloatAmong vs
float_here vs n e inside is f = always (FloatAmong vs) (n, e, inside, subst FloatIn is f)

pub float_nowhere : (vs : List Value) (n : ℕ) → length vs ≤ n → ((i : ℕ) (x : Value) → i < n → FloatIn (get_or vs i x) → ⊥) → IsTrue false ↔ FloatAmong vs
float_nowhere vs n all none = never (FloatAmong vs) (λ h. none h.0 h.1 (omega (arith, h.2)) h.3)

pub float_under : (m : tested.Object) (done : List Entry) (e : Entry) (more : List Entry) → m.entries ≡ done ++ e ∷ more → IsStrictlySortedBy string_cmp (keys_of m.entries) → FloatIn e.1 → IsTrue true ↔ FloatUnder m
float_under m done e more is ordered f = always (FloatUnder m) (string_bytes e.0, e.1, ap (found_under (string_bytes e.0)) is ∙ found_middle done e more (subst (λ (es : List Entry). IsStrictlySortedBy string_cmp (keys_of es)) is ordered), f)

pub float_under_none : (m : tested.Object) (done : List Entry) → m.entries ≡ done → NoFloats done → IsTrue false ↔ FloatUnder m
float_under_none m done is none = never (FloatUnder m) (λ h. found_float done none h.0 h.1 (sym (ap (found_under h.0) is) ∙ h.2) h.3)

pub key_there : (m : tested.Object) (k s : List ℕ) (b : Bool) → s ≡ k → b ≡ is_some (get_by_text m s) → b ≡ true → IsSome (get_by_text m k)
key_there m k s b same is has = sym (ap (λ (l : List ℕ). is_some (get_by_text m l)) same) ∙ sym is ∙ has

pub key_lacks : (m n : tested.Object) (done : List Entry) (e : Entry) (more : List Entry) (s : List ℕ) (b : Bool) → n.entries ≡ done ++ e ∷ more → IsStrictlySortedBy string_cmp (keys_of n.entries) → s ≡ string_bytes e.0 → b ≡ is_some (get_by_text m s) → b ≡ false → IsTrue false ↔ HasKeys m n
key_lacks m n done e more s b is ordered same by lacks = never (HasKeys m n) (λ h.
    let there : get_by_text n (string_bytes e.0) ≡ Some e.1 = ap (found_under (string_bytes e.0)) is ∙ found_middle done e more (subst (λ (es : List Entry). IsStrictlySortedBy string_cmp (keys_of es)) is ordered) in
    let has : IsSome (get_by_text m (string_bytes e.0)) = h (string_bytes e.0) (subst (λ (o : Option Value). IsSome o) (sym there) refl) in
    true≢false (sym has ∙ sym (ap (λ (l : List ℕ). is_some (get_by_text m l)) same) ∙ sym by ∙ lacks))

pub keys_all : (m n : tested.Object) (done : List Entry) → n.entries ≡ done → AllKeysIn m done → IsTrue true ↔ HasKeys m n
keys_all m n done is all = always (HasKeys m n) (keys_found m n (subst (AllKeysIn m) (sym is) all))

pub member_differs : (rule : Comparison) (m n : tested.Object) (done : List Entry) (e : Entry) (more : List Entry) → m.entries ≡ done ++ e ∷ more → IsStrictlySortedBy string_cmp (keys_of m.entries) → (SameMember rule (Some e.1) (get_by_text n (string_bytes e.0)) → ⊥) → IsTrue false ↔ SameMembers rule m n
member_differs rule m n done e more is ordered differs = never (SameMembers rule m n) (λ h.
    let there : get_by_text m (string_bytes e.0) ≡ Some e.1 = ap (found_under (string_bytes e.0)) is ∙ found_middle done e more (subst (λ (es : List Entry). IsStrictlySortedBy string_cmp (keys_of es)) is ordered) in
    differs (subst (λ (o : Option Value). SameMember rule o (get_by_text n (string_bytes e.0))) there (h (string_bytes e.0))))

pub members_all : (rule : Comparison) (m n : tested.Object) (done : List Entry) (b : Bool) → m.entries ≡ done → AllSame rule n done → IsTrue b ↔ HasKeys m n → IsTrue b ↔ SameMembers rule m n
members_all rule m n done b is all keys = (λ h. members_same rule m n (subst (AllSame rule n) (sym is) all) (keys.0 h), λ h. keys.1 (same_keys rule m n h))

pub equal_there : (rule : Comparison) (n : tested.Object) (k s : List ℕ) (m o : Value) (b : Bool) → s ≡ k → Some o ≡ get_by_text n s → IsTrue b ↔ SameValueBy rule m o → IsTrue b ↔ SameMember rule (Some m) (get_by_text n k)
equal_there rule n k s m o b same is h =
    let there : Some o ≡ get_by_text n k = is ∙ ap (get_by_text n) same in
    subst (λ (q : Option Value). IsTrue b ↔ SameMember rule (Some m) q) there h

pub none_there : (rule : Comparison) (n : tested.Object) (k s : List ℕ) (m : Value) → s ≡ k → None ≡ get_by_text n s → SameMember rule (Some m) (get_by_text n k) → ⊥
none_there rule n k s m same is h =
    let there : None ≡ get_by_text n k = is ∙ ap (get_by_text n) same in
    subst (λ (q : Option Value). SameMember rule (Some m) q) (sym there) h
