-- Which values a test calls equal.
use Rattle.std.proofs.Common.{◌≡◌, ℕ, ℤ, pos, Bool, [], ◌∷◌, ◌++◌, Option, Some, None, option_map, refl, sym, ap, ◌∙◌, subst}
use Rattle.serde_json.specs.Data.{Num, unsigned, negative, float, Data, null, boolean, number, string, array, object}
use Rattle.serde_json.specs.Find.{as_integer}
use Rattle.jsonptr.specs.Text.{Text}
use Rattle.jsonptr.specs.Node.{Step, Path, Scalar, of_json, Label, an_object, an_array, a_leaf, NodeMap, sub}
use Rattle.jsonptr.specs.Content.{Content, scalar, label_of, content_at, map_of}
use Rattle.jsonptr.specs.Json.{content, nodes}
use Rattle.jsonptr_tree.proofs.JsonLemmas.{value_at-value}
use Rattle.jsonptr_patch.specs.Testing.{Reading, nothing, truth, words, whole, reading, SameNode, IsEqual, HasFloat}

-- ---- two nodes

same_back : (l k : Option Label) → SameNode l k → SameNode k l
same_back None None h = tt
same_back None (Some k) h = absurd h
same_back (Some an_object) None h = absurd h
same_back (Some an_object) (Some an_object) h = tt
same_back (Some an_object) (Some (an_array k)) h = absurd h
same_back (Some an_object) (Some (a_leaf b)) h = absurd h
same_back (Some (an_array len)) None h = absurd h
same_back (Some (an_array len)) (Some an_object) h = absurd h
same_back (Some (an_array len)) (Some (an_array k)) h = sym h
same_back (Some (an_array len)) (Some (a_leaf b)) h = absurd h
same_back (Some (a_leaf a)) None h = absurd h
same_back (Some (a_leaf a)) (Some an_object) h = absurd h
same_back (Some (a_leaf a)) (Some (an_array k)) h = absurd h
same_back (Some (a_leaf a)) (Some (a_leaf b)) h = (h.0, h.2, h.1)

-- a node that is equal to one of a kind is of that kind
array_alone : (len : ℕ) (k : Option Label) → SameNode (Some (an_array len)) k → k ≡ Some (an_array len)
array_alone len None h = absurd h
array_alone len (Some an_object) h = absurd h
array_alone len (Some (an_array k)) h = ap (λ (n : ℕ). Some (an_array n)) (sym h)
array_alone len (Some (a_leaf b)) h = absurd h

object_alone : (k : Option Label) → SameNode (Some an_object) k → k ≡ Some an_object
object_alone None h = absurd h
object_alone (Some an_object) h = refl
object_alone (Some (an_array k)) h = absurd h
object_alone (Some (a_leaf b)) h = absurd h

leaf_alone : (a : Scalar) (k : Option Label) → SameNode (Some (a_leaf a)) k → (b : Scalar) × (r : Reading) × (k ≡ Some (a_leaf b)) × (reading a ≡ Some r) × (reading b ≡ Some r)
leaf_alone a None h = absurd h
leaf_alone a (Some an_object) h = absurd h
leaf_alone a (Some (an_array k)) h = absurd h
leaf_alone a (Some (a_leaf b)) h = (b, h.0, refl, h.1, h.2)

none_alone : (k : Option Label) → SameNode None k → k ≡ None
none_alone None h = refl
none_alone (Some k) h = absurd h

same_on : (l k j : Option Label) → SameNode l k → SameNode k j → SameNode l j
same_on None k j h g = subst (λ (o : Option Label). SameNode o j) (none_alone k h) g
same_on (Some an_object) k j h g = subst (λ (o : Option Label). SameNode o j) (object_alone k h) g
same_on (Some (an_array len)) k j h g = subst (λ (o : Option Label). SameNode o j) (array_alone len k h) g
same_on (Some (a_leaf a)) k j h g =
    let b = leaf_alone a k h in
    let c = leaf_alone b.0 j (subst (λ (o : Option Label). SameNode o j) b.2 g) in
    let one : Some c.1 ≡ Some b.1 = sym c.3 ∙ b.4 in
    subst (λ (o : Option Label). SameNode (Some (a_leaf a)) o) (sym c.2) (b.1, b.3, c.4 ∙ one)

-- ---- two maps

pub equal_back : (n m : NodeMap) → IsEqual n m → IsEqual m n
equal_back n m h w = same_back (n w) (m w) (h w)

pub equal_on : (n m l : NodeMap) → IsEqual n m → IsEqual m l → IsEqual n l
equal_on n m l h k w = same_on (n w) (m w) (l w) (h w) (k w)

pub equal_paths : (n m : NodeMap) (w : Path) → IsEqual n m → n w ≡ None → m w ≡ None
equal_paths n m w h is = none_alone (m w) (subst (λ (o : Option Label). SameNode o (m w)) is (h w))

-- the parts of two nodes that are the same, and equal step by step
abbrev pub EqualBelow : NodeMap → NodeMap → Type 0
EqualBelow n m = (s : Step) → IsEqual (sub n (s ∷ [])) (sub m (s ∷ []))

equal_whole : (n m : NodeMap) → SameNode (n []) (m []) → EqualBelow n m → IsEqual n m
equal_whole n m root below [] = root
equal_whole n m root below (s ∷ w) = below s w

same_node : (n m : NodeMap) (l : Label) → n [] ≡ Some l → m [] ≡ Some l → SameNode (Some l) (Some l) → SameNode (n []) (m [])
same_node n m l left right same = subst (λ (o : Option Label). SameNode o (m [])) (sym left) (subst (λ (o : Option Label). SameNode (Some l) o) (sym right) same)

pub equal_arrays : (n m : NodeMap) (len : ℕ) → n [] ≡ Some (an_array len) → m [] ≡ Some (an_array len) → EqualBelow n m → IsEqual n m
equal_arrays n m len left right below = equal_whole n m (same_node n m (an_array len) left right refl) below

pub equal_objects : (n m : NodeMap) → n [] ≡ Some an_object → m [] ≡ Some an_object → EqualBelow n m → IsEqual n m
equal_objects n m left right below = equal_whole n m (same_node n m an_object left right tt) below

pub equal_parts : (n m : NodeMap) (w : Path) → IsEqual n m → IsEqual (sub n w) (sub m w)
equal_parts n m w h p = h (w ++ p)

pub float_alone : (n m : NodeMap) → HasFloat n → IsEqual n m → ⊥
float_alone n m f h =
    let same = leaf_alone (of_json (number (float f.1))) (m f.0) (subst (λ (o : Option Label). SameNode o (m f.0)) f.2 (h f.0)) in
    let gone : None ≡ Some same.1 = same.3 in
    let none : ⊥ = cc in
    none

pub equal_itself : (d : Data) → (HasFloat (nodes d) → ⊥) → IsEqual (nodes d) (nodes d)
equal_itself d none w = by_content (content_at w (content d)) refl
  where
    by_value : (e : Data) → content_at w (content d) ≡ Some (content e) → SameNode (Some (label_of (content e))) (Some (label_of (content e)))
    by_value null is = (nothing, refl, refl)
    by_value (boolean b) is = (truth b, refl, refl)
    by_value (number (unsigned k)) is = (whole (pos k), refl, refl)
    by_value (number (negative z)) is = (whole z, refl, refl)
    by_value (number (float x)) is = absurd (none (w, x, ap (option_map label_of) is))
    by_value (string s) is = (words s, refl, refl)
    by_value (array ds) is = refl
    by_value (object ms) is = tt

    by_content : (c : Option Content) → content_at w (content d) ≡ c → SameNode (option_map label_of c) (option_map label_of c)
    by_content None is = tt
    by_content (Some c) is =
        let v = value_at-value w d c is in
        subst (λ (e : Content). SameNode (Some (label_of e)) (Some (label_of e))) (sym v.1) (by_value v.0 (is ∙ ap Some v.1))

pub array_equal : (n m : NodeMap) (len : ℕ) → IsEqual n m → n [] ≡ Some (an_array len) → m [] ≡ Some (an_array len)
array_equal n m len h is = array_alone len (m []) (subst (λ (o : Option Label). SameNode o (m [])) is (h []))

pub object_equal : (n m : NodeMap) → IsEqual n m → n [] ≡ Some an_object → m [] ≡ Some an_object
object_equal n m h is = object_alone (m []) (subst (λ (o : Option Label). SameNode o (m [])) is (h []))

-- ---- scalars

-- the number of a whole reading
whole_of : (o : Option ℤ) (r : Reading) → option_map whole o ≡ Some r → (z : ℤ) × (o ≡ Some z) × (r ≡ whole z)
whole_of None r h = let none : ⊥ = cc in absurd none
whole_of (Some z) r h = let same : r ≡ whole z = cc in (z, refl, same)

-- `IsRead r d`: the value `d` has the reading `r`
abbrev pub IsRead : Reading → Data → Type 0
IsRead nothing d = d ≡ null
IsRead (truth b) d = d ≡ boolean b
IsRead (words s) d = d ≡ string s
IsRead (whole z) d = (b : Num) × (d ≡ number b) × (as_integer b ≡ Some z)

-- what is equal to a scalar with a reading has that reading
read_alone : (a : Scalar) (r : Reading) (d : Data) → reading a ≡ Some r → IsEqual (map_of (scalar a)) (nodes d) → IsRead r d
read_alone a r d known h = by_value d (h [])
  where
    one : (q p : Reading) → reading a ≡ Some q → p ≡ q → r ≡ p
    one q p same is = let read : Some r ≡ Some q = sym known ∙ same in let met : r ≡ p = cc in met

    by_value : (e : Data) → SameNode (Some (a_leaf a)) (nodes e []) → IsRead r e
    by_value null g = let s = one g.0 nothing g.1 cc in subst (λ (q : Reading). IsRead q null) (sym s) refl
    by_value (boolean b) g = let s = one g.0 (truth b) g.1 cc in subst (λ (q : Reading). IsRead q (boolean b)) (sym s) refl
    by_value (number b) g =
        let z = whole_of (as_integer b) g.0 g.2 in
        let s = one g.0 (whole z.0) g.1 (sym z.2) in
        subst (λ (q : Reading). IsRead q (number b)) (sym s) (b, refl, z.1)
    by_value (string t) g = let s = one g.0 (words t) g.1 cc in subst (λ (q : Reading). IsRead q (string t)) (sym s) refl
    by_value (array ds) g = absurd g
    by_value (object ms) g = absurd g

pub null_equal : (d : Data) → IsEqual (nodes null) (nodes d) → d ≡ null
null_equal d h = read_alone (of_json null) nothing d refl h

pub truth_equal : (b : Bool) (d : Data) → IsEqual (nodes (boolean b)) (nodes d) → d ≡ boolean b
truth_equal b d h = read_alone (of_json (boolean b)) (truth b) d refl h

pub text_equal : (s : Text) (d : Data) → IsEqual (nodes (string s)) (nodes d) → d ≡ string s
text_equal s d h = read_alone (of_json (string s)) (words s) d refl h

pub number_equal : (a : Num) (d : Data) → IsEqual (nodes (number a)) (nodes d) → (b : Num) × (z : ℤ) × (d ≡ number b) × (as_integer a ≡ Some z) × (as_integer b ≡ Some z)
number_equal a d h =
    let leaf = leaf_alone (of_json (number a)) (nodes d []) (h []) in
    let z = whole_of (as_integer a) leaf.1 leaf.3 in
    let b = read_alone (of_json (number a)) (whole z.0) d (ap (option_map whole) z.1) h in
    (b.0, z.0, b.1, z.1, b.2)

pub numbers_equal : (a b : Num) (z : ℤ) → as_integer a ≡ Some z → as_integer b ≡ Some z → IsEqual (nodes (number a)) (nodes (number b))
numbers_equal a b z left right [] = (whole z, ap (option_map whole) left, ap (option_map whole) right)
numbers_equal a b z left right (s ∷ w) = tt
