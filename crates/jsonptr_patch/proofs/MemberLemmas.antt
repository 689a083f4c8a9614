-- Changes below different members of one object.
use Rattle.std.proofs.Common.{◌≡◌, ◌≢◌, false, List, [], ◌∷◌, ◌++◌, Option, Some, None, ◌⊎◌, inl, inr, ⊎_elim, refl, sym, ap, ◌∙◌, subst, append_assoc}
use mathlib.Core.Path.{fun_ext}
use Rattle.jsonptr.specs.Text.{Text}
use Rattle.jsonptr.specs.Node.{Step, key, place, Path, Label, an_object, NodeMap, sub, NamesStep, Names}
use Rattle.jsonptr.specs.Put.{GoesThrough, same_step, rest_after, label_or, put}
use Rattle.jsonptr_tree.proofs.NodeLemmas.{sub-root, Names-root, Names_one_list}
use Rattle.jsonptr_tree.proofs.PutLemmas.{cases_same, cases_front, rest_after-append, rest_after-below, rest_after-other, rest_after-shorter, same_by_front, put_behind, put_none, put_other, sub-put, frame}
use Rattle.jsonptr_patch.specs.Apart.{Diverges}
use Rattle.jsonptr_patch.specs.Operating.{IsProperPrefix}

-- different members

keys_differ : (x y : Text) → x ≢ y → same_step (key x) (key y) ≡ false
keys_differ x y h = go (cases_same (key x) (key y))
  where
    go : (key x ≡ key y) ⊎ (same_step (key x) (key y) ≡ false) → same_step (key x) (key y) ≡ false
    go (inl e) =
        let same : x ≡ y = cc in
        absurd (h same)
    go (inr e) = e

other_member : (u : Path) (x y : Text) (r : Path) → x ≢ y → rest_after (u ++ key x ∷ []) ((u ++ key y ∷ []) ++ r) ≡ None
other_member u x y r h = ap (rest_after (u ++ key x ∷ [])) (append_assoc u (key y ∷ []) r) ∙ rest_after-below u (key x ∷ []) (key y ∷ r) ∙ rest_after-other (key x) (key y) [] r (keys_differ x y h)

-- what is below another member is unchanged
pub put-other_member : (n : NodeMap) (u : Path) (x y : Text) (c : NodeMap) → x ≢ y → sub (put n (u ++ key x ∷ []) c) (u ++ key y ∷ []) ≡ sub n (u ++ key y ∷ [])
put-other_member n u x y c h = fun_ext (λ (r : Path). put_none n (u ++ key x ∷ []) c ((u ++ key y ∷ []) ++ r) (other_member u x y r h))

-- and it does not matter which member is put first
pub put-swap : (n : NodeMap) (u : Path) (x y : Text) (c d : NodeMap) → x ≢ y → put (put n (u ++ key x ∷ []) c) (u ++ key y ∷ []) d ≡ put (put n (u ++ key y ∷ []) d) (u ++ key x ∷ []) c
put-swap n u x y c d h = same_by_front (put (put n p c) q d) (put (put n q d) p c) q behind other
  where
    p : Path
    p = u ++ key x ∷ []

    q : Path
    q = u ++ key y ∷ []

    behind : (r : Path) → put (put n (u ++ key x ∷ []) c) (u ++ key y ∷ []) d ((u ++ key y ∷ []) ++ r) ≡ put (put n (u ++ key y ∷ []) d) (u ++ key x ∷ []) c ((u ++ key y ∷ []) ++ r)
    behind r = put_behind (put n (u ++ key x ∷ []) c) (u ++ key y ∷ []) d r ∙ sym (put_behind n (u ++ key y ∷ []) d r) ∙ sym (put_none (put n (u ++ key y ∷ []) d) (u ++ key x ∷ []) c ((u ++ key y ∷ []) ++ r) (other_member u x y r h))

    other : (r : Path) → rest_after (u ++ key y ∷ []) r ≡ None → put (put n (u ++ key x ∷ []) c) (u ++ key y ∷ []) d r ≡ put (put n (u ++ key y ∷ []) d) (u ++ key x ∷ []) c r
    other r e = put_none (put n (u ++ key x ∷ []) c) (u ++ key y ∷ []) d r e ∙ ap (λ (l : Option Label). label_or (rest_after (u ++ key x ∷ []) r) c l) (sym (put_none n (u ++ key y ∷ []) d r e))

-- tokens that name a path that does not go through w name it after a change below w

no_some : (q : Path) → Some q ≡ None → ⊥
no_some q e = cc

not_through : (w p : Path) → rest_after w p ≡ None → GoesThrough p w → ⊥
not_through w p e r = no_some r.0 (sym (rest_after-append w r.0) ∙ sym (ap (rest_after w) r.1) ∙ e)

pub Names-kept : (n : NodeMap) (w : Path) (c : NodeMap) (xs : List Text) (q : Path) → Names n xs q → rest_after w q ≡ None → Names (put n w c) xs q
Names-kept n w c xs q h e = (frame n (put n w c) w (put_other n w c) xs q h (not_through w q e)).0

pub Names-above : (n : NodeMap) (u : Path) (x : Text) (c : NodeMap) (xs : List Text) → Names n xs u → Names (put n (u ++ key x ∷ []) c) xs u
Names-above n u x c xs h = Names-kept n (u ++ key x ∷ []) c xs u h (rest_after-shorter u (key x) [])

pub object-above : (n : NodeMap) (u : Path) (x : Text) (c : NodeMap) → n u ≡ Some an_object → put n (u ++ key x ∷ []) c u ≡ Some an_object
object-above n u x c h = put_none n (u ++ key x ∷ []) c u (rest_after-shorter u (key x) []) ∙ h

-- tokens that name a path through w begin with tokens that name w

pub Names-cut : (n : NodeMap) (xs : List Text) (w v : Path) → Names n xs (w ++ v) → (fs bs : List Text) × (xs ≡ fs ++ bs) × Names n fs w × Names (sub n w) bs v
Names-cut n xs [] v h = ([], xs, refl, Names-root n xs v h, h)
Names-cut n [] (s ∷ w) v h = absurd h
Names-cut n (x ∷ xs) (s ∷ w) v h =
    let r = Names-cut (sub n (s ∷ [])) xs w v h.1 in
    (x ∷ r.0, r.1, ap (λ (l : List Text). x ∷ l) r.2, (h.0, r.3), r.4)

-- the first step below an object

object_key : (l : Option Label) (x a : Text) → l ≡ Some an_object → NamesStep l x (key a) → a ≡ x
object_key l x a e h = subst (λ (o : Option Label). NamesStep o x (key a)) e h

pub object_step : (l : Option Label) (x : Text) (s : Step) → l ≡ Some an_object → NamesStep l x s → s ≡ key x
object_step l x (key a) e h = ap key (object_key l x a e h)
object_step l x (place i) e h = absurd (subst (λ (o : Option Label). NamesStep o x (place i)) e h)

pub at_object : (l : Option Label) (x : Text) → l ≡ Some an_object → NamesStep l x (key x)
at_object l x e = subst (λ (o : Option Label). NamesStep o x (key x)) (sym e) refl

pub first_step : (n : NodeMap) (x : Text) (xs : List Text) (v : Path) → n [] ≡ Some an_object → Names n (x ∷ xs) v → (t : Path) × (v ≡ key x ∷ t) × Names (sub n (key x ∷ [])) xs t
first_step n x xs [] o h = absurd h
first_step n x xs (s ∷ t) o h =
    let e : s ≡ key x = object_step (n []) x s o h.0 in
    (t, ap (λ (a : Step). a ∷ t) e, subst (λ (a : Step). Names (sub n (a ∷ [])) xs t) e h.1)

first_token : (n : NodeMap) (xs : List Text) (x : Text) (t : Path) → n [] ≡ Some an_object → Names n xs (key x ∷ t) → (rest : List Text) × (xs ≡ x ∷ rest)
first_token n [] x t o h = absurd h
first_token n (y ∷ xs) x t o h = (xs, ap (λ (z : Text). z ∷ xs) (sym (object_key (n []) y x o h.0)))

-- a relation that changes, and depends on, no more than a member of an object that its tokens lead through

-- `IsLocal F`: where `F` turns `n` into `m` at tokens that lead through the member `x` of an object, only what is below
-- that member is changed, to `c`. In any other map in which the tokens lead to the same member, `F` makes the same change
abbrev pub IsLocal : (NodeMap → List Text → NodeMap → Type 0) → Type 0
IsLocal F =
    (n k m : NodeMap) (front : List Text) (u : Path) (x : Text) (more : List Text)
    → Names n front u → n u ≡ Some an_object
    → Names k front u → k u ≡ Some an_object
    → sub k (u ++ key x ∷ []) ≡ sub n (u ++ key x ∷ [])
    → F n (front ++ x ∷ more) m
    → (c : NodeMap) × (m ≡ put n (u ++ key x ∷ []) c) × F k (front ++ x ∷ more) (put k (u ++ key x ∷ []) c)

pub diverges_turned : (n : NodeMap) (xs ys : List Text) → Diverges n xs ys → Diverges n ys xs
diverges_turned n xs ys d = record {
  front = d.front;
  path = d.path;
  here = d.there;
  more = d.others;
  there = d.here;
  others = d.more;
  first = d.second;
  second = d.first;
  differ = λ e. d.differ (sym e);
  named = d.named;
  object = d.object;
}

-- what such a relation changes
pub local_change : (F : NodeMap → List Text → NodeMap → Type 0) → IsLocal F → (n m : NodeMap) (xs ys : List Text) → (d : Diverges n xs ys) → F n xs m → (c : NodeMap) × (m ≡ put n (d.path ++ key d.here ∷ []) c)
local_change F f n m xs ys d h =
    let r = f n n m d.front d.path d.here d.more d.named d.object d.named d.object refl (subst (λ (ts : List Text). F n ts m) d.first h) in
    (r.0, r.1)

-- and what it makes of another map
pub local_again : (F : NodeMap → List Text → NodeMap → Type 0) → IsLocal F → (n k m c : NodeMap) (xs ys : List Text) → (d : Diverges n xs ys) → F n xs m → m ≡ put n (d.path ++ key d.here ∷ []) c → Names k d.front d.path → k d.path ≡ Some an_object → sub k (d.path ++ key d.here ∷ []) ≡ sub n (d.path ++ key d.here ∷ []) → F k xs (put k (d.path ++ key d.here ∷ []) c)
local_again F f n k m c xs ys d h is named object same =
    let p : Path = d.path ++ key d.here ∷ [] in
    let r = f n k m d.front d.path d.here d.more d.named d.object named object same (subst (λ (ts : List Text). F n ts m) d.first h) in
    let one : r.0 ≡ c = sym (sub-put n p r.0) ∙ ap (λ (z : NodeMap). sub z p) (sym r.1 ∙ is) ∙ sub-put n p c in
    subst (λ (ts : List Text). F k ts (put k p c)) (sym d.first) (subst (λ (z : NodeMap). F k (d.front ++ d.here ∷ d.more) (put k p z)) one r.2)

-- two such relations commute where their tokens diverge
pub local_swap : (F G : NodeMap → List Text → NodeMap → Type 0) → IsLocal F → IsLocal G → (n m k : NodeMap) (xs ys : List Text) → Diverges n xs ys → F n xs m → G m ys k → (l : NodeMap) × G n ys l × F l xs k
local_swap F G f g n m k xs ys d first second = (l, again, made)
  where
    p : Path
    p = d.path ++ key d.here ∷ []

    q : Path
    q = d.path ++ key d.there ∷ []

    a : (c : NodeMap) × (m ≡ put n (d.path ++ key d.here ∷ []) c)
    a = local_change F f n m xs ys d first

    between : Diverges m ys xs
    between = record {
      front = d.front;
      path = d.path;
      here = d.there;
      more = d.others;
      there = d.here;
      others = d.more;
      first = d.second;
      second = d.first;
      differ = λ e. d.differ (sym e);
      named = subst (λ (z : NodeMap). Names z d.front d.path) (sym a.1) (Names-above n d.path d.here a.0 d.front d.named);
      object = ap (λ (z : NodeMap). z d.path) a.1 ∙ object-above n d.path d.here a.0 d.object;
    }

    b : (e : NodeMap) × (k ≡ put m (d.path ++ key d.there ∷ []) e)
    b = local_change G g m k ys xs between second

    l : NodeMap
    l = put n (d.path ++ key d.there ∷ []) b.0

    same : sub n (d.path ++ key d.there ∷ []) ≡ sub m (d.path ++ key d.there ∷ [])
    same = sym (put-other_member n d.path d.here d.there a.0 d.differ) ∙ ap (λ (z : NodeMap). sub z (d.path ++ key d.there ∷ [])) (sym a.1)

    again : G n ys (put n (d.path ++ key d.there ∷ []) b.0)
    again = local_again G g m n k b.0 ys xs between second b.1 d.named d.object same

    whole : k ≡ put (put n (d.path ++ key d.there ∷ []) b.0) (d.path ++ key d.here ∷ []) a.0
    whole = b.1 ∙ ap (λ (z : NodeMap). put z (d.path ++ key d.there ∷ []) b.0) a.1 ∙ put-swap n d.path d.here d.there a.0 b.0 d.differ

    made : F (put n (d.path ++ key d.there ∷ []) b.0) xs k
    made = subst (λ (z : NodeMap). F (put n (d.path ++ key d.there ∷ []) b.0) xs z) (sym whole)
        (local_again F f n (put n (d.path ++ key d.there ∷ []) b.0) m a.0 xs ys d first a.1
        (Names-above n d.path d.there b.0 d.front d.named)
        (object-above n d.path d.there b.0 d.object)
        (put-other_member n d.path d.there d.here b.0 (λ e. d.differ (sym e))))

-- tokens that diverge

pub same_next : (f : List Text) (x y : Text) (fs bs : List Text) → f ++ x ∷ fs ≡ f ++ y ∷ bs → x ≡ y
same_next [] x y fs bs e = cc
same_next (t ∷ f) x y fs bs e =
    let tail : f ++ x ∷ fs ≡ f ++ y ∷ bs = cc in
    same_next f x y fs bs tail

-- a node does not move below itself where the pointers diverge
pub diverges_way : (n : NodeMap) (from path : List Text) → Diverges n from path → IsProperPrefix from path → ⊥
diverges_way n from path d f =
    let whole : d.front ++ d.here ∷ (d.more ++ f.0 ∷ f.1) ≡ d.front ++ d.there ∷ d.others = sym (append_assoc d.front (d.here ∷ d.more) (f.0 ∷ f.1)) ∙ ap (λ (ts : List Text). ts ++ f.0 ∷ f.1) (sym d.first) ∙ sym f.2 ∙ d.second in
    d.differ (same_next d.front d.here d.there (d.more ++ f.0 ∷ f.1) d.others whole)

-- tokens that diverge from those of a change diverge from the same tokens after it

-- the object at which `ys` diverges from some other tokens is not below the member that is changed
away : (n : NodeMap) (xs zs ys : List Text) → (d : Diverges n xs ys) → (e : Diverges n zs ys) → GoesThrough e.path (d.path ++ key d.here ∷ []) → ⊥
away n xs zs ys d e r =
    let through : e.path ≡ d.path ++ key d.here ∷ r.0 = r.1 ∙ append_assoc d.path (key d.here ∷ []) r.0 in
    let cut = Names-cut n e.front d.path (key d.here ∷ r.0) (subst (λ (w : Path). Names n e.front w) through e.named) in
    let same : cut.0 ≡ d.front = Names_one_list n cut.0 d.front d.path cut.3 d.named in
    let next = first_token (sub n d.path) cut.1 d.here r.0 (sub-root n d.path ∙ d.object) cut.4 in
    let begins : e.front ≡ d.front ++ d.here ∷ next.0 = cut.2 ∙ ap (λ (l : List Text). l ++ cut.1) same ∙ ap (λ (l : List Text). d.front ++ l) next.1 in
    let whole : d.front ++ d.here ∷ (next.0 ++ e.there ∷ e.others) ≡ d.front ++ d.there ∷ d.others = sym (append_assoc d.front (d.here ∷ next.0) (e.there ∷ e.others)) ∙ ap (λ (l : List Text). l ++ e.there ∷ e.others) (sym begins) ∙ sym e.second ∙ d.second in
    d.differ (same_next d.front d.here d.there (next.0 ++ e.there ∷ e.others) d.others whole)

pub diverges_after : (F : NodeMap → List Text → NodeMap → Type 0) → IsLocal F → (n m : NodeMap) (xs zs ys : List Text) → Diverges n xs ys → Diverges n zs ys → F n xs m → Diverges m zs ys
diverges_after F f n m xs zs ys d e h =
    let a = local_change F f n m xs ys d h in
    let none : rest_after (d.path ++ key d.here ∷ []) e.path ≡ None = ⊎_elim (λ (r : GoesThrough e.path (d.path ++ key d.here ∷ [])). absurd (away n xs zs ys d e r)) (λ (r : rest_after (d.path ++ key d.here ∷ []) e.path ≡ None). r) (cases_front (d.path ++ key d.here ∷ []) e.path) in
    record {
      front = e.front;
      path = e.path;
      here = e.here;
      more = e.more;
      there = e.there;
      others = e.others;
      first = e.first;
      second = e.second;
      differ = e.differ;
      named = subst (λ (z : NodeMap). Names z e.front e.path) (sym a.1) (Names-kept n (d.path ++ key d.here ∷ []) a.0 e.front e.path e.named none);
      object = ap (λ (z : NodeMap). z e.path) a.1 ∙ put_none n (d.path ++ key d.here ∷ []) a.0 e.path none ∙ e.object;
    }

-- two such relations that apply to one map where their tokens diverge can each follow the other, and make one map
pub local_diamond : (F G : NodeMap → List Text → NodeMap → Type 0) → IsLocal F → IsLocal G → (n a b : NodeMap) (xs ys : List Text) → Diverges n xs ys → F n xs a → G n ys b → (m : NodeMap) × G a ys m × F b xs m
unfolding diverges_turned
local_diamond F G f g n a b xs ys d first second = (whole, left, right)
  where
    e : Diverges n ys xs
    e = diverges_turned n xs ys d

    c : (c : NodeMap) × (a ≡ put n (d.path ++ key d.here ∷ []) c)
    c = local_change F f n a xs ys d first

    k : (c : NodeMap) × (b ≡ put n (d.path ++ key d.there ∷ []) c)
    k = local_change G g n b ys xs (diverges_turned n xs ys d) second

    whole : NodeMap
    whole = put (put n (d.path ++ key d.here ∷ []) c.0) (d.path ++ key d.there ∷ []) k.0

    left : G a ys (put (put n (d.path ++ key d.here ∷ []) c.0) (d.path ++ key d.there ∷ []) k.0)
    left = subst (λ (z : NodeMap). G z ys (put (put n (d.path ++ key d.here ∷ []) c.0) (d.path ++ key d.there ∷ []) k.0)) (sym c.1)
        (local_again G g n (put n (d.path ++ key d.here ∷ []) c.0) b k.0 ys xs (diverges_turned n xs ys d) second k.1
        (Names-above n d.path d.here c.0 d.front d.named)
        (object-above n d.path d.here c.0 d.object)
        (put-other_member n d.path d.here d.there c.0 d.differ))

    right : F b xs (put (put n (d.path ++ key d.here ∷ []) c.0) (d.path ++ key d.there ∷ []) k.0)
    right = subst (λ (z : NodeMap). F b xs z) (sym (put-swap n d.path d.here d.there c.0 k.0 d.differ)) (subst (λ (z : NodeMap). F z xs (put (put n (d.path ++ key d.there ∷ []) k.0) (d.path ++ key d.here ∷ []) c.0)) (sym k.1)
        (local_again F f n (put n (d.path ++ key d.there ∷ []) k.0) a c.0 xs ys d first c.1
        (Names-above n d.path d.there k.0 d.front d.named)
        (object-above n d.path d.there k.0 d.object)
        (put-other_member n d.path d.there d.here k.0 (λ h. d.differ (sym h)))))

-- what a relation at the other tokens changes
pub other_change : (G : NodeMap → List Text → NodeMap → Type 0) → IsLocal G → (n m : NodeMap) (xs ys : List Text) → (d : Diverges n xs ys) → G n ys m → (c : NodeMap) × (m ≡ put n (d.path ++ key d.there ∷ []) c)
unfolding diverges_turned
other_change G g n m xs ys d h = local_change G g n m ys xs (diverges_turned n xs ys d) h
