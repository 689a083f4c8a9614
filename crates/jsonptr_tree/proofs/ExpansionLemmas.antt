-- What tokens expand a value to: a tree, in which they find it.
use Rattle.std.proofs.Common.{◌≡◌, ◌≢◌, codes, ℕ, ◌<◌, Bool, true, false, cond, is_some, List, [], ◌∷◌, map, Contains, Option, Some, None, IsSome, ◌⊎◌, inl, inr, ⊎_elim, refl, sym, ap, ◌∙◌, subst, arith, true≢false}
use mathlib.Core.Path.{fun_ext}
use Rattle.jsonptr_grammar.specs.Text.{Text, dec}
use Rattle.jsonptr_tree.specs.Node.{Step, key, place, Path, Label, an_object, an_array, NodeMap, sub, Names, MayHave, IsTree, IsListed}
use Rattle.jsonptr_tree.specs.Following.{Finds}
use Rattle.jsonptr_tree.specs.Put.{same_step}
use Rattle.jsonptr_tree.specs.Expansion.{is_append_index, with_one, expanded, LacksDash}
use Rattle.jsonptr_tree.proofs.PutLemmas.{same_step-refl, cases_same}
use Rattle.jsonptr_tree.proofs.ListedLemmas.{Contains-cons, Contains-map}
use Rattle.jsonptr_tree.proofs.TreeLemmas.{IsTree-level}
use Rattle.jsonptr_tree.proofs.LandingLemmas.{means_end-cases, means_end-dash, means_end-dec}

-- a node with one child
with_one-step : (l : Label) (s : Step) (m : NodeMap) → sub (with_one l s m) (s ∷ []) ≡ m
with_one-step l s m = fun_ext (λ (p : Path). ap (λ (b : Bool). cond b (m p) None) (same_step-refl s))

with_one-other : (l : Label) (s t : Step) (m : NodeMap) (p : Path) → same_step s t ≡ false → with_one l s m (t ∷ p) ≡ None
with_one-other l s t m p e = ap (λ (b : Bool). cond b (m p) None) e

IsTree-with_one : (l : Label) (s : Step) (m : NodeMap) → MayHave (Some l) s → ((len i : ℕ) → l ≡ an_array len → i < len → s ≡ place i) → IsTree m → IsTree (with_one l s m)
IsTree-with_one l s m may only tree = IsTree-level (with_one l s m) refl child full
  where
    child : (t : Step) (u : Path) → IsSome (with_one l s m (t ∷ u)) → MayHave (Some l) t × IsTree (sub (with_one l s m) (t ∷ []))
    child t u i = go (cases_same s t)
      where
        go : (s ≡ t) ⊎ (same_step s t ≡ false) → MayHave (Some l) t × IsTree (sub (with_one l s m) (t ∷ []))
        go (inl e) = subst (λ (a : Step). MayHave (Some l) a × IsTree (sub (with_one l s m) (a ∷ []))) e (may, subst IsTree (sym (with_one-step l s m)) tree)
        go (inr e) = absurd (true≢false (sym i ∙ ap (λ (o : Option Label). is_some o) (with_one-other l s t m u e)))

    full : (len i : ℕ) → Some l ≡ Some (an_array len) → i < len → IsSome (with_one l s m (place i ∷ []))
    full len i e b =
        let here : s ≡ place i = only len i (cc) b in
        subst (λ (a : Step). IsSome (with_one l s m (a ∷ []))) here (subst (λ (k : NodeMap). IsSome (k [])) (sym (with_one-step l s m)) tree.root)

-- what tokens expand a tree to
pub IsTree-expanded : (xs : List Text) (v : NodeMap) → IsTree v → IsTree (expanded xs v)
IsTree-expanded [] v tree = tree
IsTree-expanded (x ∷ xs) v tree = go (is_append_index 0 x) (IsTree-expanded xs v tree)
  where
    first : (len i : ℕ) → an_array 1 ≡ an_array len → i < len → place 0 ≡ place i
    first len i e b =
        let long : 1 ≡ len = cc in
        let zero_it : 0 ≡ i = omega arith in
        ap place zero_it

    none : (len i : ℕ) → an_object ≡ an_array len → i < len → key x ≡ place i
    none len i e b = cc

    go : (b : Bool) → IsTree (expanded xs v) → IsTree (cond b (with_one (an_array 1) (place 0) (expanded xs v)) (with_one an_object (key x) (expanded xs v)))
    go true inner = IsTree-with_one (an_array 1) (place 0) (expanded xs v) (omega arith) first inner
    go false inner = IsTree-with_one an_object (key x) (expanded xs v) tt none inner

-- finite maps

IsListed-with_one : (l : Label) (s : Step) (m : NodeMap) → IsListed m → IsListed (with_one l s m)
IsListed-with_one l s m h = ([] ∷ map (λ (p : Path). s ∷ p) h.0, listed)
  where
    listed : (w : Path) → IsSome (with_one l s m w) → Contains ([] ∷ map (λ (p : Path). s ∷ p) h.0) w
    listed [] i = (0, omega arith, refl)
    listed (t ∷ w) i = go (cases_same s t)
      where
        go : (s ≡ t) ⊎ (same_step s t ≡ false) → Contains ([] ∷ map (λ (p : Path). s ∷ p) h.0) (t ∷ w)
        go (inl e) = subst (λ (a : Step). Contains ([] ∷ map (λ (p : Path). s ∷ p) h.0) (a ∷ w)) e (Contains-cons [] (map (λ (p : Path). s ∷ p) h.0) (s ∷ w) (Contains-map (λ (p : Path). s ∷ p) h.0 w (h.1 w (subst (λ (k : NodeMap). IsSome (k w)) (with_one-step l s m) (subst (λ (a : Step). IsSome (with_one l s m (a ∷ w))) (sym e) i)))))
        go (inr e) = absurd (true≢false (sym i ∙ ap (λ (o : Option Label). is_some o) (with_one-other l s t m w e)))

pub IsListed-expanded : (xs : List Text) (v : NodeMap) → IsListed v → IsListed (expanded xs v)
IsListed-expanded [] v h = h
IsListed-expanded (x ∷ xs) v h = go (is_append_index 0 x) (IsListed-expanded xs v h)
  where
    go : (b : Bool) → IsListed (expanded xs v) → IsListed (cond b (with_one (an_array 1) (place 0) (expanded xs v)) (with_one an_object (key x) (expanded xs v)))
    go true inner = IsListed-with_one (an_array 1) (place 0) (expanded xs v) inner
    go false inner = IsListed-with_one an_object (key x) (expanded xs v) inner

-- in words

-- a token for the end of an empty array makes an array of one element
pub expanded_array : (x : Text) (xs : List Text) (v : NodeMap) → (x ≡ codes "-") ⊎ (x ≡ codes "0") → (expanded (x ∷ xs) v [] ≡ Some (an_array 1)) × (sub (expanded (x ∷ xs) v) (place 0 ∷ []) ≡ expanded xs v)
expanded_array x xs v h = go (is_append_index 0 x) (⊎_elim (λ (e : x ≡ codes "-"). means_end-dash 0 x e) (λ (e : x ≡ dec 0). means_end-dec 0 x e) h)
  where
    go : (b : Bool) → b ≡ true → (cond b (with_one (an_array 1) (place 0) (expanded xs v)) (with_one an_object (key x) (expanded xs v)) [] ≡ Some (an_array 1)) × (sub (cond b (with_one (an_array 1) (place 0) (expanded xs v)) (with_one an_object (key x) (expanded xs v))) (place 0 ∷ []) ≡ expanded xs v)
    go true e = (refl, with_one-step (an_array 1) (place 0) (expanded xs v))
    go false e = absurd (true≢false (sym e))

-- every other an object of one member
pub expanded_object : (x : Text) (xs : List Text) (v : NodeMap) → x ≢ codes "-" → x ≢ codes "0" → (expanded (x ∷ xs) v [] ≡ Some an_object) × (sub (expanded (x ∷ xs) v) (key x ∷ []) ≡ expanded xs v) × ((k : Text) → k ≢ x → expanded (x ∷ xs) v (key k ∷ []) ≡ None)
expanded_object x xs v dash nought = go (is_append_index 0 x) refl
  where
    other : (k : Text) → k ≢ x → with_one an_object (key x) (expanded xs v) (key k ∷ []) ≡ None
    other k apart = ⊎_elim
        (λ (e : key x ≡ key k). absurd (apart (cc)))
        (λ (e : same_step (key x) (key k) ≡ false). with_one-other an_object (key x) (key k) (expanded xs v) [] e)
        (cases_same (key x) (key k))

    go : (b : Bool) → is_append_index 0 x ≡ b → (cond b (with_one (an_array 1) (place 0) (expanded xs v)) (with_one an_object (key x) (expanded xs v)) [] ≡ Some an_object) × (sub (cond b (with_one (an_array 1) (place 0) (expanded xs v)) (with_one an_object (key x) (expanded xs v))) (key x ∷ []) ≡ expanded xs v) × ((k : Text) → k ≢ x → cond b (with_one (an_array 1) (place 0) (expanded xs v)) (with_one an_object (key x) (expanded xs v)) (key k ∷ []) ≡ None)
    go true e = absurd (⊎_elim (λ (d : x ≡ codes "-"). dash d) (λ (d : x ≡ dec 0). nought d) (means_end-cases 0 x e))
    go false e = (refl, with_one-step an_object (key x) (expanded xs v), other)

-- finding

-- tokens without `-` find the value in what they expand it to
pub Finds-expanded : (xs : List Text) (v : NodeMap) → LacksDash xs → IsSome (v []) → Finds (expanded xs v) xs v
Finds-expanded [] v dash i = record { path = []; named = i; below = refl }
Finds-expanded (x ∷ xs) v dash i = go (is_append_index 0 x) refl (Finds-expanded xs v (λ ys zs e. dash (x ∷ ys) zs (ap (λ (ts : List Text). x ∷ ts) e)) i)
  where
    is_zero : is_append_index 0 x ≡ true → x ≡ dec 0
    is_zero h = ⊎_elim (λ (e : x ≡ codes "-"). absurd (dash [] xs (ap (λ (t : Text). t ∷ xs) e))) (λ (e : x ≡ dec 0). e) (means_end-cases 0 x h)

    go : (b : Bool) → is_append_index 0 x ≡ b → Finds (expanded xs v) xs v → Finds (cond b (with_one (an_array 1) (place 0) (expanded xs v)) (with_one an_object (key x) (expanded xs v))) (x ∷ xs) v
    go true e f = record {
      path = place 0 ∷ f.path;
      named = ((omega arith, is_zero e), subst (λ (k : NodeMap). Names k xs f.path) (sym (with_one-step (an_array 1) (place 0) (expanded xs v))) f.named);
      below = f.below ∙ ap (λ (k : NodeMap). sub k f.path) (sym (with_one-step (an_array 1) (place 0) (expanded xs v)));
    }
    go false e f = record {
      path = key x ∷ f.path;
      named = (refl, subst (λ (k : NodeMap). Names k xs f.path) (sym (with_one-step an_object (key x) (expanded xs v))) f.named);
      below = f.below ∙ ap (λ (k : NodeMap). sub k f.path) (sym (with_one-step an_object (key x) (expanded xs v)));
    }
