-- What was removed is restored by adding it.
use Rattle.std.proofs.Common.{◌≡◌, ◌-◌, ◌≤◌, ◌⊎◌, inl, inr, false, List, [], ◌∷◌, ◌++◌, Option, Some, None, IsSome, refl, sym, ap, ◌∙◌, subst, arith}
use mathlib.Core.Path.{fun_ext}
use Rattle.serde_json.specs.Data.{Data, null}
use Rattle.jsonptr.specs.Text.{Text}
use Rattle.jsonptr.specs.Node.{Step, key, place, Path, Label, an_object, an_array, a_leaf, NodeMap, sub, NamesStep, Names}
use Rattle.jsonptr.specs.Following.{Finds}
use Rattle.jsonptr.specs.Json.{nodes, FindsValue}
use Rattle.jsonptr.specs.Put.{same_step, put}
use Rattle.jsonptr_tree.proofs.JsonLemmas.{FindsValue-Finds}
use Rattle.jsonptr.specs.Removing.{one_less, without_key, without_place, without_step, Deletes}
use Rattle.jsonptr_tree.proofs.NodeLemmas.{sub-root, sub-sub, Names-here, Names-pop}
use Rattle.jsonptr_tree.proofs.PutLemmas.{cases_same, same_by_step, put-step, put-other_step, put_at, put-sub, put-put, put_below, sub-put, Names-put}
use Rattle.jsonptr_tree.proofs.RemovingLemmas.{without_key-other}
use Rattle.jsonptr_patch.specs.Inserting.{with_place}
use Rattle.jsonptr_patch.specs.Adding.{AddsUnder, Adds}
use Rattle.jsonptr_patch.proofs.InsertingLemmas.{with-without}

-- the last token of a list
pub cases_token : (ts : List Text) → (ts ≡ []) ⊎ ((front : List Text) × (x : Text) × (ts ≡ front ++ x ∷ []))
cases_token [] = inl refl
cases_token (t ∷ ts) = go (cases_token ts)
  where
    go : (ts ≡ []) ⊎ ((front : List Text) × (x : Text) × (ts ≡ front ++ x ∷ [])) → (t ∷ ts ≡ []) ⊎ ((front : List Text) × (x : Text) × (t ∷ ts ≡ front ++ x ∷ []))
    go (inl e) = inr ([], t, ap (λ (l : List Text). t ∷ l) e)
    go (inr r) = inr (t ∷ r.0, r.1, ap (λ (l : List Text). t ∷ l) r.2)

-- a member added again under its key
pub put_without : (n : NodeMap) (k : Text) → put (without_key k n) (key k ∷ []) (sub n (key k ∷ [])) ≡ n
put_without n k = same_by_step (put (without_key k n) (key k ∷ []) (sub n (key k ∷ []))) n refl below
  where
    below : (t : Step) → sub (put (without_key k n) (key k ∷ []) (sub n (key k ∷ []))) (t ∷ []) ≡ sub n (t ∷ [])
    below t = go (cases_same (key k) t)
      where
        go : (key k ≡ t) ⊎ (same_step (key k) t ≡ false) → sub (put (without_key k n) (key k ∷ []) (sub n (key k ∷ []))) (t ∷ []) ≡ sub n (t ∷ [])
        go (inl e) = subst (λ (a : Step). sub (put (without_key k n) (key k ∷ []) (sub n (key k ∷ []))) (a ∷ []) ≡ sub n (a ∷ [])) e (put-step (without_key k n) (key k) [] (sub n (key k ∷ [])))
        go (inr e) = put-other_step (without_key k n) (key k) t [] (sub n (key k ∷ [])) e ∙ fun_ext (λ (p : Path). without_key-other k n t p e)

some_less : (o : Option Label) → IsSome o → IsSome (one_less o)
some_less None h = h
some_less (Some an_object) h = refl
some_less (Some (an_array len)) h = refl
some_less (Some (a_leaf v)) h = refl

some_without : (n : NodeMap) (s : Step) → IsSome (n []) → IsSome (without_step s n [])
some_without n (key k) h = h
some_without n (place i) h = some_less (n []) h

no_name : (n : NodeMap) (w : Path) → Names n [] w → w ≡ []
no_name n [] h = refl
no_name n (s ∷ w) h = absurd h

-- what is added below the node
under : (n m v : NodeMap) (w : Path) (x : Text) (s : Step) (l : Option Label) → n w ≡ l → NamesStep l x s → v ≡ sub (sub n w) (s ∷ []) → m ≡ put n w (without_step s (sub n w)) → AddsUnder m w (m w) x v n
under n m v w x s None is h found made = absurd h
under n m v w x (key k) (Some an_object) is h found made = subst (λ (o : Option Label). AddsUnder m w o x v n) (sym label) back
  where
    label : m w ≡ Some an_object
    label = ap (λ (q : NodeMap). q w) made ∙ put_at n w (without_key k (sub n w)) ∙ sub-root n w ∙ is

    value : put (without_key k (sub n w)) (key k ∷ []) v ≡ sub n w
    value = ap (put (without_key k (sub n w)) (key k ∷ [])) found ∙ put_without (sub n w) k

    whole : put m (w ++ key k ∷ []) v ≡ n
    whole =
        ap (λ (q : NodeMap). put q (w ++ key k ∷ []) v) made
        ∙ put_below (put n w (without_key k (sub n w))) w (key k ∷ []) v
        ∙ ap (λ (q : NodeMap). put (put n w (without_key k (sub n w))) w (put q (key k ∷ []) v)) (sub-put n w (without_key k (sub n w)))
        ∙ put-put n w (without_key k (sub n w)) (put (without_key k (sub n w)) (key k ∷ []) v)
        ∙ ap (put n w) value
        ∙ put-sub n w

    back : n ≡ put m (w ++ key x ∷ []) v
    back = subst (λ (t : Text). n ≡ put m (w ++ key t ∷ []) v) h (sym whole)
under n m v w x (place i) (Some an_object) is h found made = absurd h
under n m v w x (key k) (Some (an_array len)) is h found made = absurd h
under n m v w x (place i) (Some (an_array len)) is h found made = subst (λ (o : Option Label). AddsUnder m w o x v n) (sym label) (i, (within, inl h.1), sym whole)
  where
    root : sub n w [] ≡ Some (an_array len)
    root = sub-root n w ∙ is

    label : m w ≡ Some (an_array (len - 1))
    label = ap (λ (q : NodeMap). q w) made ∙ put_at n w (without_place i (sub n w)) ∙ ap one_less root

    within : i ≤ len - 1
    within = omega (arith, h.0)

    below : sub m w ≡ without_place i (sub n w)
    below = ap (λ (q : NodeMap). sub q w) made ∙ sub-put n w (without_place i (sub n w))

    whole : put m w (with_place i v (sub m w)) ≡ n
    whole =
        ap (λ (q : NodeMap). put m w (with_place i v q)) below
        ∙ ap (λ (q : NodeMap). put m w (with_place i q (without_place i (sub n w)))) found
        ∙ ap (put m w) (with-without (sub n w) i len root h.0)
        ∙ ap (λ (q : NodeMap). put q w (sub n w)) made
        ∙ put-put n w (without_place i (sub n w)) (sub n w)
        ∙ put-sub n w
under n m v w x s (Some (a_leaf a)) is h found made = absurd h

-- added at its tokens again, it makes the old map
pub restored : (n m v blank : NodeMap) (tokens : List Text) → Finds n tokens v → Deletes n tokens blank m → Adds m tokens v n
restored n m v blank tokens found gone = go (cases_token tokens)
  where
    go : (tokens ≡ []) ⊎ ((front : List Text) × (x : Text) × (tokens ≡ front ++ x ∷ [])) → Adds m tokens v n
    go (inl e) =
        let root : found.path ≡ [] = no_name n found.path (subst (λ (ts : List Text). Names n ts found.path) e found.named) in
        inl (e, sym (found.below ∙ ap (sub n) root))
    go (inr r) =
        let parts = Names-pop n r.0 r.1 found.path (subst (λ (ts : List Text). Names n ts found.path) r.2 found.named) in
        let there : Names n tokens (parts.0 ++ parts.1 ∷ []) = subst (λ (p : Path). Names n tokens p) parts.2 found.named in
        let made : m ≡ put n parts.0 (without_step parts.1 (sub n parts.0)) = gone.child parts.0 parts.1 there in
        let value : v ≡ sub (sub n parts.0) (parts.1 ∷ []) = found.below ∙ ap (sub n) parts.2 ∙ sym (sub-sub n parts.0 (parts.1 ∷ [])) in
        let root : IsSome (sub n parts.0 []) = subst (λ (o : Option Label). IsSome o) (sym (sub-root n parts.0)) (Names-here n r.0 parts.0 parts.3) in
        inr (record {
          front = r.0;
          last = r.1;
          path = parts.0;
          split = r.2;
          named = subst (λ (q : NodeMap). Names q r.0 parts.0) (sym made) (Names-put n r.0 parts.0 (without_step parts.1 (sub n parts.0)) parts.3 (some_without (sub n parts.0) parts.1 root));
          made = under n m v parts.0 r.1 parts.1 (n parts.0) refl parts.4 value made;
        })

-- the same for values
pub restored_at : (d e v : Data) (path tokens : List Text) → path ≡ tokens → FindsValue d tokens v → Deletes (nodes d) tokens (nodes null) (nodes e) → Adds (nodes e) path (nodes v) (nodes d)
restored_at d e v path tokens is found gone = subst (λ (ts : List Text). Adds (nodes e) ts (nodes v) (nodes d)) (sym is) (restored (nodes d) (nodes e) (nodes v) (nodes null) tokens (FindsValue-Finds d tokens v found) gone)
