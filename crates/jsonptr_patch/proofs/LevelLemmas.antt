-- Changes of one level of a document: adding, removing, putting and finding a child.
use Rattle.std.proofs.Common.{◌≡◌, ◌⊎◌, inl, inr, false, List, [], ◌∷◌, ◌++◌, Option, Some, None, IsSome, refl, sym, ap, ◌∙◌, subst, append_assoc}
use Rattle.serde_json.specs.Data.{null}
use Rattle.jsonptr.specs.Text.{Text}
use Rattle.jsonptr.specs.Resolve.{PutsAt}
use Rattle.jsonptr.specs.Node.{Step, key, Path, Label, an_object, an_array, a_leaf, NodeMap, sub, NamesStep, Names}
use Rattle.jsonptr.specs.Following.{Finds}
use Rattle.jsonptr.specs.Json.{nodes}
use Rattle.jsonptr.specs.Put.{same_step, rest_after, put}
use Rattle.jsonptr.specs.Removing.{without_key, without_step, Deletes}
use Rattle.jsonptr_tree.proofs.NodeLemmas.{sub-root, sub-sub, Names-append, Names-split, Names-push, Names-pop, Names_one_path}
use Rattle.jsonptr_tree.proofs.PutLemmas.{cases_same, rest_after-step, same_by_front, put_behind, put_none, put-sub, put_below}
use Rattle.jsonptr_tree.proofs.RemovingLemmas.{Deletes_child, without_key-same, without_key-other}
use Rattle.jsonptr_patch.specs.Inserting.{with_place}
use Rattle.jsonptr_patch.specs.Adding.{AddsUnder, Adds}
use Rattle.jsonptr_patch.specs.Operating.{Takes, PassesBy}
use Rattle.jsonptr_patch.proofs.OneLemmas.{last_one}
use Rattle.jsonptr_patch.proofs.RestoringLemmas.{cases_token}
use Rattle.jsonptr_patch.proofs.MemberLemmas.{IsLocal, first_step, object_step, at_object}
use Rattle.jsonptr_patch.specs.declared.comparison.Comparison.{Comparison}
use Rattle.jsonptr_patch.specs.declared.comparison.Comparison.TheVariants.{Strict, Numeric}

no_last : (front : List Text) (x : Text) (more : List Text) → front ++ x ∷ more ≡ [] → ⊥
no_last [] x more e = cc
no_last (t ∷ front) x more e = cc

-- a change of the node that all tokens but the last lead to

-- `AtParent K n tokens m`: the tokens before the last one lead to the node at `path`, and `m` is `n` with the map
-- `level` put there, which `K` makes of the map below that node, and the last token
pub record AtParent (K : NodeMap → Text → NodeMap → Type 0) (n : NodeMap) (tokens : List Text) (m : NodeMap) : Type 0 where
  pub front : List Text
  pub last : Text
  pub path : Path
  pub level : NodeMap
  pub split : tokens ≡ front ++ last ∷ []
  pub named : Names n front path
  pub step : K (sub n path) last level
  pub made : m ≡ put n path level

-- `InObject K`: of an object, `K` changes the member under the token alone, and depends on it alone
abbrev pub InObject : (NodeMap → Text → NodeMap → Type 0) → Type 0
InObject K =
    (n k m : NodeMap) (x : Text)
    → n [] ≡ Some an_object → k [] ≡ Some an_object
    → sub k (key x ∷ []) ≡ sub n (key x ∷ [])
    → K n x m
    → (c : NodeMap) × (m ≡ put n (key x ∷ []) c) × K k x (put k (key x ∷ []) c)

-- the last token selects the member
local_here : (K : NodeMap → Text → NodeMap → Type 0) → InObject K → (n k m : NodeMap) (front : List Text) (u : Path) (x : Text) → Names n front u → n u ≡ Some an_object → Names k front u → k u ≡ Some an_object → sub k (u ++ key x ∷ []) ≡ sub n (u ++ key x ∷ []) → AtParent K n (front ++ x ∷ []) m → (c : NodeMap) × (m ≡ put n (u ++ key x ∷ []) c) × AtParent K k (front ++ x ∷ []) (put k (u ++ key x ∷ []) c)
local_here K inside n k m front u x named object named_too object_too same r =
    let ends = last_one front r.front x r.last r.split in
    let here : r.path ≡ u = Names_one_path n front r.path u (subst (λ (ts : List Text). Names n ts r.path) (sym ends.0) r.named) named in
    let step : K (sub n u) x r.level = subst (λ (t : Text). K (sub n u) t r.level) (sym ends.1) (subst (λ (w : Path). K (sub n w) r.last r.level) here r.step) in
    let made : m ≡ put n u r.level = r.made ∙ ap (λ (w : Path). put n w r.level) here in
    let below : sub (sub k u) (key x ∷ []) ≡ sub (sub n u) (key x ∷ []) = sub-sub k u (key x ∷ []) ∙ same ∙ sym (sub-sub n u (key x ∷ [])) in
    let i = inside (sub n u) (sub k u) r.level x (sub-root n u ∙ object) (sub-root k u ∙ object_too) below step in (
      i.0,
      made ∙ ap (put n u) i.1 ∙ sym (put_below n u (key x ∷ []) i.0),
      record {
        front = front;
        last = x;
        path = u;
        level = put (sub k u) (key x ∷ []) i.0;
        split = refl;
        named = named_too;
        step = i.2;
        made = put_below k u (key x ∷ []) i.0;
      },
    )

-- it selects something below the member
local_below : (K : NodeMap → Text → NodeMap → Type 0) → (n k m : NodeMap) (front : List Text) (u : Path) (x : Text) (f : List Text) (z : Text) → Names n front u → n u ≡ Some an_object → Names k front u → k u ≡ Some an_object → sub k (u ++ key x ∷ []) ≡ sub n (u ++ key x ∷ []) → AtParent K n (front ++ x ∷ (f ++ z ∷ [])) m → (c : NodeMap) × (m ≡ put n (u ++ key x ∷ []) c) × AtParent K k (front ++ x ∷ (f ++ z ∷ [])) (put k (u ++ key x ∷ []) c)
local_below K n k m front u x f z named object named_too object_too same r =
    let q : Path = u ++ key x ∷ [] in
    let whole : (front ++ x ∷ f) ++ z ∷ [] ≡ front ++ x ∷ (f ++ z ∷ []) = append_assoc front (x ∷ f) (z ∷ []) in
    let ends = last_one (front ++ x ∷ f) r.front z r.last (whole ∙ r.split) in
    let leads : Names n (front ++ x ∷ f) r.path = subst (λ (ts : List Text). Names n ts r.path) (sym ends.0) r.named in
    let parts = Names-split n front (x ∷ f) r.path leads in
    let here : parts.0 ≡ u = Names_one_path n front parts.0 u parts.3 named in
    let rest : Names (sub n u) (x ∷ f) parts.1 = subst (λ (w : Path). Names (sub n w) (x ∷ f) parts.1) here parts.4 in
    let next = first_step (sub n u) x f parts.1 (sub-root n u ∙ object) rest in
    let path : r.path ≡ q ++ next.0 = parts.2 ∙ ap (λ (w : Path). w ++ parts.1) here ∙ ap (λ (v : Path). u ++ v) next.1 ∙ sym (append_assoc u (key x ∷ []) next.0) in
    let c : NodeMap = put (sub n q) next.0 r.level in
    let below : sub (sub n u) (key x ∷ []) ≡ sub (sub k u) (key x ∷ []) = sub-sub n u (key x ∷ []) ∙ sym same ∙ sym (sub-sub k u (key x ∷ [])) in
    let after : Names (sub (sub k u) (key x ∷ [])) f next.0 = subst (λ (z : NodeMap). Names z f next.0) below next.2 in
    let leads_too : Names k (front ++ x ∷ f) (u ++ key x ∷ next.0) = Names-append k front (x ∷ f) u (key x ∷ next.0) named_too (at_object (sub k u []) x (sub-root k u ∙ object_too), after) in
    let level_same : sub n r.path ≡ sub k (q ++ next.0) = ap (sub n) path ∙ sym (sub-sub n q next.0) ∙ ap (λ (z : NodeMap). sub z next.0) (sym same) ∙ sub-sub k q next.0 in (
      c,
      r.made ∙ ap (λ (w : Path). put n w r.level) path ∙ put_below n q next.0 r.level,
      record {
        front = front ++ x ∷ f;
        last = z;
        path = q ++ next.0;
        level = r.level;
        split = sym (append_assoc front (x ∷ f) (z ∷ []));
        named = subst (λ (w : Path). Names k (front ++ x ∷ f) w) (sym (append_assoc u (key x ∷ []) next.0)) leads_too;
        step = subst (λ (t : Text). K (sub k (q ++ next.0)) t r.level) (sym ends.1) (subst (λ (y : NodeMap). K y r.last r.level) level_same r.step);
        made = ap (λ (y : NodeMap). put k q (put y next.0 r.level)) (sym same) ∙ sym (put_below k q next.0 r.level);
      },
    )

pub local_parent : (K : NodeMap → Text → NodeMap → Type 0) → InObject K → IsLocal (AtParent K)
local_parent K inside n k m front u x more named object named_too object_too same r = go (cases_token more)
  where
    go : (more ≡ []) ⊎ ((f : List Text) × (z : Text) × (more ≡ f ++ z ∷ [])) → (c : NodeMap) × (m ≡ put n (u ++ key x ∷ []) c) × AtParent K k (front ++ x ∷ more) (put k (u ++ key x ∷ []) c)
    go (inl e) = subst (λ (ts : List Text). (c : NodeMap) × (m ≡ put n (u ++ key x ∷ []) c) × AtParent K k (front ++ x ∷ ts) (put k (u ++ key x ∷ []) c)) (sym e)
        (local_here K inside n k m front u x named object named_too object_too same (subst (λ (ts : List Text). AtParent K n (front ++ x ∷ ts) m) e r))
    go (inr e) = subst (λ (ts : List Text). (c : NodeMap) × (m ≡ put n (u ++ key x ∷ []) c) × AtParent K k (front ++ x ∷ ts) (put k (u ++ key x ∷ []) c)) (sym e.2)
        (local_below K n k m front u x e.0 e.1 named object named_too object_too same (subst (λ (ts : List Text). AtParent K n (front ++ x ∷ ts) m) e.2 r))

-- a relation that is another one wherever there are tokens is local if that one is
pub local_by : (F G : NodeMap → List Text → NodeMap → Type 0) → ((n m : NodeMap) (front : List Text) (x : Text) (more : List Text) → F n (front ++ x ∷ more) m → G n (front ++ x ∷ more) m) → ((n m : NodeMap) (tokens : List Text) → G n tokens m → F n tokens m) → IsLocal G → IsLocal F
local_by F G there back g n k m front u x more named object named_too object_too same h =
    let r = g n k m front u x more named object named_too object_too same (there n m front x more h) in
    (r.0, r.1, back k (put k (u ++ key x ∷ []) r.0) (front ++ x ∷ more) r.2)

-- nothing changes
pub local_idle : IsLocal (λ n tokens m. m ≡ n)
local_idle n k m front u x more named object named_too object_too same e = (
  sub n (u ++ key x ∷ []),
  e ∙ sym (put-sub n (u ++ key x ∷ [])),
  ap (put k (u ++ key x ∷ [])) (sym same) ∙ put-sub k (u ++ key x ∷ []),
)

-- adding

add_step : NodeMap → NodeMap → Text → NodeMap → Type 0
add_step v n x m = AddsUnder n [] (n []) x v m

add_down : (n : NodeMap) (w : Path) (l : Option Label) (x : Text) (v m : NodeMap) → AddsUnder n w l x v m → (k : NodeMap) × AddsUnder (sub n w) [] l x v k × (m ≡ put n w k)
add_down n w None x v m h = absurd h
add_down n w (Some an_object) x v m h = (put (sub n w) (key x ∷ []) v, refl, h ∙ put_below n w (key x ∷ []) v)
add_down n w (Some (an_array len)) x v m h = (with_place h.0 v (sub n w), (h.0, h.1, refl), h.2)
add_down n w (Some (a_leaf a)) x v m h = absurd h

add_up : (n : NodeMap) (w : Path) (l : Option Label) (x : Text) (v m k : NodeMap) → AddsUnder (sub n w) [] l x v k → m ≡ put n w k → AddsUnder n w l x v m
add_up n w None x v m k h e = absurd h
add_up n w (Some an_object) x v m k h e = e ∙ ap (put n w) h ∙ sym (put_below n w (key x ∷ []) v)
add_up n w (Some (an_array len)) x v m k h e = (h.0, h.1, e ∙ ap (put n w) h.2)
add_up n w (Some (a_leaf a)) x v m k h e = absurd h

add_there : (v n m : NodeMap) (front : List Text) (x : Text) (more : List Text) → Adds n (front ++ x ∷ more) v m → AtParent (add_step v) n (front ++ x ∷ more) m
unfolding add_step
add_there v n m front x more (inl h) = absurd (no_last front x more h.0)
add_there v n m front x more (inr h) =
    let r = add_down n h.path (n h.path) h.last v m h.made in
    record {
      front = h.front;
      last = h.last;
      path = h.path;
      level = r.0;
      split = h.split;
      named = h.named;
      step = subst (λ (l : Option Label). AddsUnder (sub n h.path) [] l h.last v r.0) (sym (sub-root n h.path)) r.1;
      made = r.2;
    }

add_back : (v n m : NodeMap) (tokens : List Text) → AtParent (add_step v) n tokens m → Adds n tokens v m
unfolding add_step
add_back v n m tokens r = inr (record {
  front = r.front;
  last = r.last;
  path = r.path;
  split = r.split;
  named = r.named;
  made = add_up n r.path (n r.path) r.last v m r.level (subst (λ (l : Option Label). AddsUnder (sub n r.path) [] l r.last v r.level) (sub-root n r.path) r.step) r.made;
})

add_inside : (v : NodeMap) → InObject (add_step v)
unfolding add_step
add_inside v n k m x object object_too same h = (
  v,
  subst (λ (l : Option Label). AddsUnder n [] l x v m) object h,
  subst (λ (l : Option Label). AddsUnder k [] l x v (put k (key x ∷ []) v)) (sym object_too) refl,
)

pub local_add : (v : NodeMap) → IsLocal (λ n tokens m. Adds n tokens v m)
local_add v = local_by (λ n tokens m. Adds n tokens v m) (AtParent (add_step v)) (add_there v) (add_back v) (local_parent (add_step v) (add_inside v))

-- a child that is there

-- `at_child G n x m`: the token `x` selects a child of `n`, and `G` makes `m` of `n` and its step
at_child : (NodeMap → Step → NodeMap → Type 0) → NodeMap → Text → NodeMap → Type 0
at_child G n x m = (s : Step) × NamesStep (n []) x s × IsSome (n (s ∷ [])) × G n s m

-- `InMember G`: of the child at a key, `G` changes no more, and depends on no more
abbrev InMember : (NodeMap → Step → NodeMap → Type 0) → Type 0
InMember G =
    (n k m : NodeMap) (x : Text)
    → sub k (key x ∷ []) ≡ sub n (key x ∷ [])
    → G n (key x) m
    → (c : NodeMap) × (m ≡ put n (key x ∷ []) c) × G k (key x) (put k (key x ∷ []) c)

child_inside : (G : NodeMap → Step → NodeMap → Type 0) → InMember G → InObject (at_child G)
unfolding at_child
child_inside G inside n k m x object object_too same h =
    let e : h.0 ≡ key x = object_step (n []) x h.0 object h.1 in
    let i = inside n k m x same (subst (λ (s : Step). G n s m) e h.3) in
    let there : IsSome (n (key x ∷ [])) = subst (λ (s : Step). IsSome (n (s ∷ []))) e h.2 in
    (i.0, i.1, (key x, at_object (k []) x object_too, subst (λ (z : NodeMap). IsSome (z [])) (sym same) there, i.2))

-- tokens that name a child of the node at `w`
child_there : (G : NodeMap → Step → NodeMap → Type 0) (n m : NodeMap) (front : List Text) (x : Text) (more : List Text) (p : Path) → Names n (front ++ x ∷ more) p → ((w : Path) (s : Step) → p ≡ w ++ s ∷ [] → (k : NodeMap) × G (sub n w) s k × (m ≡ put n w k)) → AtParent (at_child G) n (front ++ x ∷ more) m
unfolding at_child
child_there G n m front x more p named made = go (cases_token (front ++ x ∷ more))
  where
    go : (front ++ x ∷ more ≡ []) ⊎ ((f : List Text) × (z : Text) × (front ++ x ∷ more ≡ f ++ z ∷ [])) → AtParent (at_child G) n (front ++ x ∷ more) m
    go (inl e) = absurd (no_last front x more e)
    go (inr e) =
        let r = Names-pop n e.0 e.1 p (subst (λ (ts : List Text). Names n ts p) e.2 named) in
        let g = made r.0 r.1 r.2 in
        record {
          front = e.0;
          last = e.1;
          path = r.0;
          level = g.0;
          split = e.2;
          named = r.3;
          step = (r.1, subst (λ (l : Option Label). NamesStep l e.1 r.1) (sym (sub-root n r.0)) r.4, r.5, g.1);
          made = g.2;
        }

child_named : (G : NodeMap → Step → NodeMap → Type 0) (n m : NodeMap) (tokens : List Text) → AtParent (at_child G) n tokens m → (w : Path) × (s : Step) × (k : NodeMap) × Names n tokens (w ++ s ∷ []) × G (sub n w) s k × (m ≡ put n w k)
unfolding at_child
child_named G n m tokens r =
    let h = r.step in (
      r.path,
      h.0,
      r.level,
      subst (λ (ts : List Text). Names n ts (r.path ++ h.0 ∷ [])) (sym r.split) (Names-push n r.front r.last r.path h.0 r.named (subst (λ (l : Option Label). NamesStep l r.last h.0) (sub-root n r.path) h.1) h.2),
      h.3,
      r.made,
    )

-- removing

take_child : NodeMap → NodeMap → Step → NodeMap → Type 0
take_child v n s m = (v ≡ sub n (s ∷ [])) × (m ≡ without_step s n)

no_nodes : NodeMap
no_nodes p = None

without-put : (k : Text) (n : NodeMap) → without_key k n ≡ put n (key k ∷ []) no_nodes
unfolding no_nodes
without-put k n = same_by_front (without_key k n) (put n (key k ∷ []) no_nodes) (key k ∷ [])
    (λ p. without_key-same k n p ∙ sym (put_behind n (key k ∷ []) no_nodes p))
    other
  where
    no_some : (p : Path) → Some p ≡ None → ⊥
    no_some p e = cc

    other : (p : Path) → rest_after (key k ∷ []) p ≡ None → without_key k n p ≡ put n (key k ∷ []) no_nodes p
    other [] e = refl
    other (t ∷ p) e = go (cases_same (key k) t)
      where
        go : (key k ≡ t) ⊎ (same_step (key k) t ≡ false) → without_key k n (t ∷ p) ≡ put n (key k ∷ []) no_nodes (t ∷ p)
        go (inl same) = absurd (no_some p (sym (rest_after-step (key k) [] p) ∙ subst (λ (s : Step). rest_after (key k ∷ []) (s ∷ p) ≡ None) (sym same) e))
        go (inr not) = without_key-other k n t p not ∙ sym (put_none n (key k ∷ []) no_nodes (t ∷ p) e)

take_inside : (v : NodeMap) → InMember (take_child v)
unfolding take_child
take_inside v n k m x same h = (no_nodes, h.1 ∙ without-put x n, (h.0 ∙ sym same, sym (without-put x k)))

take_there : (v n m : NodeMap) (front : List Text) (x : Text) (more : List Text) → Takes n (front ++ x ∷ more) v m → AtParent (at_child (take_child v)) n (front ++ x ∷ more) m
unfolding take_child
take_there v n m front x more h = child_there (take_child v) n m front x more h.found.path h.found.named
    (λ w s e. (
      without_step s (sub n w),
      (h.found.below ∙ ap (sub n) e ∙ sym (sub-sub n w (s ∷ [])), refl),
      h.left.child w s (subst (λ (p : Path). Names n (front ++ x ∷ more) p) e h.found.named),
    ))

take_back : (v n m : NodeMap) (tokens : List Text) → AtParent (at_child (take_child v)) n tokens m → Takes n tokens v m
unfolding take_child
take_back v n m tokens r =
    let h = child_named (take_child v) n m tokens r in
    record {
      found = record { path = h.0 ++ h.1 ∷ []; named = h.3; below = h.4.0 ∙ sub-sub n h.0 (h.1 ∷ []) };
      left = subst (λ (z : NodeMap). Deletes n tokens (nodes null) z) (sym (h.5 ∙ ap (put n h.0) h.4.1)) (Deletes_child n (nodes null) tokens h.0 h.1 h.3);
    }

pub local_take : (v : NodeMap) → IsLocal (λ n tokens m. Takes n tokens v m)
local_take v = local_by (λ n tokens m. Takes n tokens v m) (AtParent (at_child (take_child v))) (take_there v) (take_back v) (local_parent (at_child (take_child v)) (child_inside (take_child v) (take_inside v)))

-- replacing

put_child : NodeMap → NodeMap → Step → NodeMap → Type 0
put_child v n s m = m ≡ put n (s ∷ []) v

put_inside : (v : NodeMap) → InMember (put_child v)
unfolding put_child
put_inside v n k m x same h = (v, h, refl)

put_there : (v n m : NodeMap) (front : List Text) (x : Text) (more : List Text) → PutsAt n (front ++ x ∷ more) v m → AtParent (at_child (put_child v)) n (front ++ x ∷ more) m
unfolding put_child
put_there v n m front x more h = child_there (put_child v) n m front x more h.path h.named
    (λ w s e. (
      put (sub n w) (s ∷ []) v,
      refl,
      h.made ∙ ap (λ (p : Path). put n p v) e ∙ put_below n w (s ∷ []) v,
    ))

put_back : (v n m : NodeMap) (tokens : List Text) → AtParent (at_child (put_child v)) n tokens m → PutsAt n tokens v m
unfolding put_child
put_back v n m tokens r =
    let h = child_named (put_child v) n m tokens r in
    record { path = h.0 ++ h.1 ∷ []; named = h.3; made = h.5 ∙ ap (put n h.0) h.4 ∙ sym (put_below n h.0 (h.1 ∷ []) v) }

pub local_put : (v : NodeMap) → IsLocal (λ n tokens m. PutsAt n tokens v m)
local_put v = local_by (λ n tokens m. PutsAt n tokens v m) (AtParent (at_child (put_child v))) (put_there v) (put_back v) (local_parent (at_child (put_child v)) (child_inside (put_child v) (put_inside v)))

-- finding

find_child : NodeMap → NodeMap → Step → NodeMap → Type 0
find_child v n s m = (v ≡ sub n (s ∷ [])) × (m ≡ n)

find_inside : (v : NodeMap) → InMember (find_child v)
unfolding find_child
find_inside v n k m x same h = (
  sub n (key x ∷ []),
  h.1 ∙ sym (put-sub n (key x ∷ [])),
  (h.0 ∙ sym same, ap (put k (key x ∷ [])) (sym same) ∙ put-sub k (key x ∷ [])),
)

find_there : (v n m : NodeMap) (front : List Text) (x : Text) (more : List Text) → Finds n (front ++ x ∷ more) v × (m ≡ n) → AtParent (at_child (find_child v)) n (front ++ x ∷ more) m
unfolding find_child
find_there v n m front x more h = child_there (find_child v) n m front x more h.0.path h.0.named
    (λ w s e. (
      sub n w,
      (h.0.below ∙ ap (sub n) e ∙ sym (sub-sub n w (s ∷ [])), refl),
      h.1 ∙ sym (put-sub n w),
    ))

find_back : (v n m : NodeMap) (tokens : List Text) → AtParent (at_child (find_child v)) n tokens m → Finds n tokens v × (m ≡ n)
unfolding find_child
find_back v n m tokens r =
    let h = child_named (find_child v) n m tokens r in
    (record { path = h.0 ++ h.1 ∷ []; named = h.3; below = h.4.0 ∙ sub-sub n h.0 (h.1 ∷ []) }, h.5 ∙ ap (put n h.0) h.4.1 ∙ put-sub n h.0)

pub local_find : (v : NodeMap) → IsLocal (λ n tokens m. Finds n tokens v × (m ≡ n))
local_find v = local_by (λ n tokens m. Finds n tokens v × (m ≡ n)) (AtParent (at_child (find_child v))) (find_there v) (find_back v) (local_parent (at_child (find_child v)) (child_inside (find_child v) (find_inside v)))

-- testing
pub local_test : (by : Comparison) (v : NodeMap) → IsLocal (λ n tokens m. PassesBy by n tokens v × (m ≡ n))
local_test Strict v n k m front u x more named object named_too object_too same h =
    let p = h.0 in
    let r = local_find p.0 n k m front u x more named object named_too object_too same (p.1.found, h.1) in
    (r.0, r.1, ((p.0, record { found = r.2.0; target_plain = p.1.target_plain; value_plain = p.1.value_plain }, p.2), r.2.1))
local_test Numeric v n k m front u x more named object named_too object_too same h =
    let p = h.0 in
    let r = local_find p.0 n k m front u x more named object named_too object_too same (p.1, h.1) in
    (r.0, r.1, ((p.0, r.2.0, p.2), r.2.1))
