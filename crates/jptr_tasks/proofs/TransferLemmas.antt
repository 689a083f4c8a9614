-- A value that is copied and then removed, and a value that is moved.
use Rattle.serde_json.specs.Data.{Data, null, boolean, number, string, array, object}
use Rattle.serde_json.specs.Read.{read}
use Rattle.jsonptr_patch.specs.Patching.{PatchesBy}
use Rattle.jsonptr_patch.specs.declared.comparison.Comparison.TheVariants.{Numeric}
use Rattle.jsonptr_patch.specs.declared.operation.Operation.TheVariants.{Copy, Move, Remove}
use Rattle.jsonptr_value.specs.NodeTypes.{type_of}
use Rattle.jsonptr_value.specs.declared.types.NodeType.TheVariants as variant
use Rattle.jptr_tasks.specs.Transfers.{MovesOnlyChild}
use Rattle.jptr_tasks.proofs.ExpandingLemmas.{found_at}
use Rattle.std.proofs.Common.{◌≡◌, ◌⊎◌, inl, inr, ◌<◌, ◌≤◌, ◌+◌, ◌-◌, ℕ, zero, suc, List, [], ◌∷◌, ◌++◌, length, length-append, Option, Some, None, IsSome, option_map, codes, refl, sym, ap, ◌∙◌, subst, arith}
use mathlib.Core.Path.{fun_ext}
use Rattle.jsonptr.specs.Text.{Text, dec}
use Rattle.jsonptr.specs.Node.{Step, key, place, Path, Label, an_object, an_array, NodeMap, sub, Names, NamesStep}
use Rattle.jsonptr.specs.Following.{Finds}
use Rattle.jsonptr.specs.Put.{put}
use Rattle.jsonptr.specs.Removing.{Deletes, without_place, place_before}
use Rattle.jsonptr.specs.Json.{nodes}
use Rattle.jsonptr_tree.proofs.FollowingLemmas.{Finds_one}
use Rattle.jsonptr_tree.proofs.LandingLemmas.{dec_no_dash}
use Rattle.jsonptr_tree.proofs.NodeLemmas.{dec_one, Names-pop, Names_one_path, sub-root}
use Rattle.jsonptr_tree.proofs.PutLemmas.{Names-put, put_at, put-put, sub-put}
use Rattle.jsonptr_tree.proofs.RemovingLemmas.{Deletes_child}
use Rattle.jsonptr_patch.specs.Adding.{Adds, AddsUnder, MeansPlace}
use Rattle.jsonptr_patch.specs.Apart.{Diverges}
use Rattle.jsonptr_patch.specs.Inserting.{with_place, place_of_old, below_element}
use Rattle.jsonptr_patch.specs.Operating.{Copies, Moves, Takes, IsProperPrefix}
use Rattle.jsonptr_patch.proofs.LevelLemmas.{local_add, local_take}
use Rattle.jsonptr_patch.proofs.MemberLemmas.{local_swap, diverges_turned, diverges_way}
use Rattle.jsonptr_patch.proofs.OneLemmas.{no_last, last_one}

-- ---- to another key of an object

pub to_other_key : (n n1 m v u : NodeMap) (fs ps : List Text) → Diverges n fs ps → Finds n fs v → Adds n ps v n1 → Takes n1 fs u m → Moves n fs ps m
to_other_key n n1 m v u fs ps d found added taken =
    let r = local_swap (λ (k : NodeMap) (ts : List Text) (z : NodeMap). Adds k ts v z) (λ (k : NodeMap) (ts : List Text) (z : NodeMap). Takes k ts u z) (local_add v) (local_take u) n n1 m ps fs (diverges_turned n fs ps d) added taken in
    let same : u ≡ v = Finds_one n fs u v r.1.found found in
    record {
      node = v;
      left = r.0;
      apart = diverges_way n fs ps d;
      taken = subst (λ (z : NodeMap). Takes n fs z r.0) same r.1;
      added = r.2;
    }

-- ---- to the end of an array

-- the index before both changes
same_old : (i l j : ℕ) → i ≤ l → place_of_old (suc l) (place_before i j) ≡ option_map (place_before i) (place_of_old l j)
same_old zero l j h = refl
same_old (suc i) zero j h = absurd (omega arith)
same_old (suc i) (suc l) zero h = refl
same_old (suc i) (suc l) (suc j) h = ap (option_map suc) (same_old i l j (omega arith)) ∙ after (place_of_old l j)
  where
    after : (o : Option ℕ) → option_map suc (option_map (place_before i) o) ≡ option_map (place_before (suc i)) (option_map suc o)
    after None = refl
    after (Some k) = refl

below : (i : ℕ) (o : Option ℕ) (v s : NodeMap) (p : Path) → below_element (option_map (place_before i) o) v s p ≡ below_element o v (without_place i s) p
below i None v s p = refl
below i (Some k) v s p = refl

-- an element that is added at the end and then taken, and one that is taken and then added at the end
swapped : (i l : ℕ) (v s : NodeMap) → s [] ≡ Some (an_array (suc l)) → i ≤ l → without_place i (with_place (suc l) v s) ≡ with_place l v (without_place i s)
swapped i l v s is h = fun_ext (go)
  where
    two_less : suc (suc l) - 1 ≡ suc (suc l - 1)
    two_less = omega arith

    go : (p : Path) → without_place i (with_place (suc l) v s) p ≡ with_place l v (without_place i s) p
    go [] = rw is (ap (λ (k : ℕ). Some (an_array k)) two_less)
    go (key k ∷ p) = refl
    go (place j ∷ p) = ap (λ (o : Option ℕ). below_element o v s p) (same_old i l j h) ∙ below i (place_of_old l j) v s p

put_twice : (n : NodeMap) (w : Path) (a b c : NodeMap) (f : NodeMap → NodeMap) → f a ≡ b → c ≡ put n w a → put c w (f (sub c w)) ≡ put n w b
put_twice n w a b c f e is =
    subst (λ (z : NodeMap). put z w (f (sub z w)) ≡ put n w b) (sym is)
    (ap (λ (z : NodeMap). put (put n w a) w (f z)) (sub-put n w a) ∙ put-put n w a (f a) ∙ ap (put n w) e)

longer : (fs : List Text) (x y : Text) → IsProperPrefix (fs ++ x ∷ []) (fs ++ y ∷ []) → ⊥
longer fs x y h =
    let a : length ((fs ++ x ∷ []) ++ h.0 ∷ h.1) ≡ length (fs ++ x ∷ []) + length (h.0 ∷ h.1) = length-append (fs ++ x ∷ []) (h.0 ∷ h.1) in
    let b : length (fs ++ x ∷ []) ≡ length fs + 1 = length-append fs (x ∷ []) in
    let c : length (fs ++ y ∷ []) ≡ length fs + 1 = length-append fs (y ∷ []) in
    let e : length (fs ++ y ∷ []) ≡ length ((fs ++ x ∷ []) ++ h.0 ∷ h.1) = ap (λ (ts : List Text). length ts) h.2 in
    omega arith

-- the element that a token selects
at_index : (l : Option Label) (len : ℕ) (x : Text) (s : Step) → l ≡ Some (an_array len) → NamesStep l x s → (i : ℕ) × (s ≡ place i) × (i < len) × (x ≡ dec i)
at_index l len x s is h = in_array s (subst (λ (o : Option Label). NamesStep o x s) is h)
  where
    in_array : (t : Step) → NamesStep (Some (an_array len)) x t → (i : ℕ) × (t ≡ place i) × (i < len) × (x ≡ dec i)
    in_array (key k) g = absurd g
    in_array (place i) g = (i, refl, g.0, g.1)

-- the end of an array, to which `-` refers
the_end : (len j : ℕ) → MeansPlace len (codes "-") j → j ≡ len
the_end len j h = go h.1
  where
    go : (codes "-" ≡ dec j) ⊎ ((codes "-" ≡ codes "-") × (j ≡ len)) → j ≡ len
    go (inl e) = absurd (dec_no_dash j e)
    go (inr e) = e.1

-- what is added at the end
added_last : (n : NodeMap) (front : List Text) (w : Path) (len : ℕ) (v m : NodeMap) → Names n front w → n w ≡ Some (an_array len) → Adds n (front ++ codes "-" ∷ []) v m → m ≡ put n w (with_place len v (sub n w))
added_last n front w len v m named is (inl h) = absurd (no_last front (codes "-") (sym h.0))
added_last n front w len v m named is (inr h) =
    let ends = last_one front h.front (codes "-") h.last h.split in
    let there : w ≡ h.path = Names_one_path n front w h.path named (subst (λ (f : List Text). Names n f h.path) (sym ends.0) h.named) in
    let made : AddsUnder n w (n w) (codes "-") v m = subst (λ (u : Path). AddsUnder n u (n u) (codes "-") v m) (sym there) (subst (λ (x : Text). AddsUnder n h.path (n h.path) x v m) (sym ends.1) h.made) in
    let under : AddsUnder n w (Some (an_array len)) (codes "-") v m = subst (λ (l : Option Label). AddsUnder n w l (codes "-") v m) is made in
    under.2 ∙ ap (λ (i : ℕ). put n w (with_place i v (sub n w))) (the_end len under.0 under.1)

-- an element of a list of tokens that name an array and one more
an_element : (n : NodeMap) (front : List Text) (x : Text) (w p : Path) (len : ℕ) → Names n front w → n w ≡ Some (an_array len) → Names n (front ++ x ∷ []) p → (i : ℕ) × (p ≡ w ++ place i ∷ []) × (i < len) × (x ≡ dec i)
an_element n front x w p len named is h =
    let r = Names-pop n front x p h in
    let there : r.0 ≡ w = Names_one_path n front r.0 w r.3 named in
    let i = at_index (n r.0) len x r.1 (ap n there ∙ is) r.4 in
    (i.0, r.2 ∙ ap (λ (u : Path). u ++ r.1 ∷ []) there ∙ ap (λ (s : Step). w ++ s ∷ []) i.1, i.2, i.3)

some_label : (o : Option Label) (l : Label) → o ≡ Some l → IsSome o
some_label o l is = subst (λ (a : Option Label). IsSome a) (sym is) refl

pub to_the_end : (n n1 m v u : NodeMap) (front : List Text) (x : Text) (w : Path) (len : ℕ) → Names n front w → n w ≡ Some (an_array len) → Finds n (front ++ x ∷ []) v → Adds n (front ++ codes "-" ∷ []) v n1 → Takes n1 (front ++ x ∷ []) u m → Moves n (front ++ x ∷ []) (front ++ codes "-" ∷ []) m
to_the_end n n1 m v u front x w zero named is found added taken =
    let i = an_element n front x w found.path zero named is found.named in
    absurd (omega (arith, i.2))
to_the_end n n1 m v u front x w (suc l) named is found added taken = record {
  node = v;
  left = left;
  apart = longer front x (codes "-");
  taken = record { found = found; left = deleted };
  added = inr record {
    front = front;
    last = codes "-";
    path = w;
    split = refl;
    named = Names-put n front w (without_place i (sub n w)) named (some_label (without_place i (sub n w) []) (an_array l) shorter);
    made = subst (λ (o : Option Label). AddsUnder left w o (codes "-") v m) (sym (put_at n w (without_place i (sub n w)) ∙ shorter)) (l, (omega arith, inr (refl, refl)), whole);
  };
}
  where
    e : (i : ℕ) × (found.path ≡ w ++ place i ∷ []) × (i < suc l) × (x ≡ dec i)
    e = an_element n front x w found.path (suc l) named is found.named

    i : ℕ
    i = e.0

    root : sub n w [] ≡ Some (an_array (suc l))
    root = sub-root n w ∙ is

    left : NodeMap
    left = put n w (without_place e.0 (sub n w))

    one_less_is : suc l - 1 ≡ l
    one_less_is = omega arith

    shorter : without_place e.0 (sub n w) [] ≡ Some (an_array l)
    shorter = rw root (ap (λ (k : ℕ). Some (an_array k)) one_less_is)

    deleted : Deletes n (front ++ x ∷ []) (nodes null) (put n w (without_place e.0 (sub n w)))
    deleted = Deletes_child n (nodes null) (front ++ x ∷ []) w (place e.0) (subst (λ (p : Path). Names n (front ++ x ∷ []) p) e.1 found.named)

    copied : n1 ≡ put n w (with_place (suc l) v (sub n w))
    copied = added_last n front w (suc l) v n1 named is added

    longer_root : with_place (suc l) v (sub n w) [] ≡ Some (an_array (suc (suc l)))
    longer_root = rw root refl

    n1_is : n1 w ≡ Some (an_array (suc (suc l)))
    n1_is = ap (λ (z : NodeMap). z w) copied ∙ put_at n w (with_place (suc l) v (sub n w)) ∙ longer_root

    n1_named : Names n1 front w
    n1_named = subst (λ (z : NodeMap). Names z front w) (sym copied) (Names-put n front w (with_place (suc l) v (sub n w)) named (some_label (with_place (suc l) v (sub n w) []) (an_array (suc (suc l))) longer_root))

    again : (j : ℕ) × (taken.found.path ≡ w ++ place j ∷ []) × (j < suc (suc l)) × (x ≡ dec j)
    again = an_element n1 front x w taken.found.path (suc (suc l)) n1_named n1_is taken.found.named

    same : again.0 ≡ e.0
    same = dec_one again.0 e.0 (sym again.3 ∙ e.3)

    removed : m ≡ put n1 w (without_place e.0 (sub n1 w))
    removed = taken.left.child w (place e.0) (subst (λ (p : Path). Names n1 (front ++ x ∷ []) p) (again.1 ∙ ap (λ (j : ℕ). w ++ place j ∷ []) same) taken.found.named)

    whole : m ≡ put (put n w (without_place e.0 (sub n w))) w (with_place l v (sub (put n w (without_place e.0 (sub n w))) w))
    whole = removed
        ∙ put_twice n w (with_place (suc l) v (sub n w)) (with_place l v (without_place e.0 (sub n w))) n1 (without_place e.0) (swapped e.0 l v (sub n w) root (omega (arith, e.2))) copied
        ∙ sym (put_twice n w (without_place e.0 (sub n w)) (with_place l v (without_place e.0 (sub n w))) (put n w (without_place e.0 (sub n w))) (with_place l v) refl refl)

-- ---- the only child of an array or an object

object_label : (v : Data) → type_of v ≡ variant.Object → nodes v [] ≡ Some an_object
object_label null h = let no : ⊥ = cc in absurd no
object_label (boolean b) h = let no : ⊥ = cc in absurd no
object_label (number n) h = let no : ⊥ = cc in absurd no
object_label (string s) h = let no : ⊥ = cc in absurd no
object_label (array ds) h = let no : ⊥ = cc in absurd no
object_label (object ms) h = refl

array_label : (v : Data) → type_of v ≡ variant.Array → (len : ℕ) × (nodes v [] ≡ Some (an_array len))
array_label null h = let no : ⊥ = cc in absurd no
array_label (boolean b) h = let no : ⊥ = cc in absurd no
array_label (number n) h = let no : ⊥ = cc in absurd no
array_label (string s) h = let no : ⊥ = cc in absurd no
array_label (array ds) h = (_, refl)
array_label (object ms) h = let no : ⊥ = cc in absurd no

pub only_child : (text : Text) (d : Data) (m : NodeMap) (fs ps : List Text) → read text ≡ Some d → (fs ≡ ps → ⊥) → MovesOnlyChild text fs ps → PatchesBy Numeric (nodes d) (Copy fs ps ∷ Remove fs ∷ []) m → PatchesBy Numeric (nodes d) (Move fs ps ∷ []) m
only_child text d m fs ps is other h made = (m, by_place h.6.1, refl)
  where
    x : Text
    x = h.3.0.0

    r : (w : Path) × Names (nodes d) h.0 w × (nodes d w ≡ nodes h.2 [])
    r = found_at text d h.0 h.2 is h.5

    copied : Copies (nodes d) fs ps made.0
    copied = made.1

    last : PatchesBy Numeric made.0 (Remove fs ∷ []) m
    last = made.2

    taken : Takes made.0 fs last.1.0 m
    taken = subst (λ (z : NodeMap). Takes made.0 fs last.1.0 z) (sym last.2) last.1.1

    apart : x ≡ h.1 → ⊥
    apart e = other (h.3.0.1 ∙ ap (λ (y : Text). h.0 ++ y ∷ []) e ∙ sym h.3.1)

    by_place : ((type_of h.2 ≡ variant.Object) ⊎ ((type_of h.2 ≡ variant.Array) × (h.1 ≡ 45 ∷ []))) → Moves (nodes d) fs ps m
    by_place (inl o) = to_other_key (nodes d) made.0 m copied.node last.1.0 fs ps record {
      front = h.0;
      path = r.0;
      here = x;
      more = [];
      there = h.1;
      others = [];
      first = h.3.0.1;
      second = h.3.1;
      differ = apart;
      named = r.1;
      object = r.2 ∙ object_label h.2 o;
    } copied.found copied.added taken
    by_place (inr a) =
        let l = array_label h.2 a.0 in
        let end : ps ≡ h.0 ++ codes "-" ∷ [] = h.3.1 ∙ ap (λ (y : Text). h.0 ++ y ∷ []) a.1 in
        let f : fs ≡ h.0 ++ x ∷ [] = h.3.0.1 in
        let moved = to_the_end (nodes d) made.0 m copied.node last.1.0 h.0 x r.0 l.0 r.1 (r.2 ∙ l.1)
        (subst (λ (ts : List Text). Finds (nodes d) ts copied.node) f copied.found)
        (subst (λ (ts : List Text). Adds (nodes d) ts copied.node made.0) end copied.added)
        (subst (λ (ts : List Text). Takes made.0 ts last.1.0 m) f taken) in
        subst (λ (ts : List Text). Moves (nodes d) ts ps m) (sym f) (subst (λ (ts : List Text). Moves (nodes d) (h.0 ++ x ∷ []) ts m) (sym end) moved)
