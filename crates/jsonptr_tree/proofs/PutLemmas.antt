-- Putting a document at a path of another one.
use Rattle.std.proofs.Common.{◌≡◌, ℕ, zero, suc, Bool, true, false, cond, List, [], ◌∷◌, ◌++◌, Option, Some, None, IsSome, ◌⊎◌, inl, inr, ⊎_elim, ◌↔◌, refl, sym, ap, ap₂, ◌∙◌, subst, append-nil, append_assoc, true≢false}
use mathlib.Core.Path.{fun_ext}
use Rattle.std.proofs.lemmas.Slice.Eq.{bytes_eq-Decides}
use Rattle.jsonptr_grammar.specs.Text.{Text}
use Rattle.jsonptr_tree.specs.Node.{Step, key, place, Path, Label, NodeMap, sub, NamesStep, Names}
use Rattle.jsonptr_tree.specs.Following.{Finds}
use Rattle.jsonptr_tree.specs.Put.{GoesThrough, same_place, same_step, rest_after, label_or, put}

-- steps

same_place-eq : (i j : ℕ) → same_place i j ≡ true → i ≡ j
same_place-eq zero zero e = refl
same_place-eq zero (suc j) e = absurd (true≢false (sym e))
same_place-eq (suc i) zero e = absurd (true≢false (sym e))
same_place-eq (suc i) (suc j) e = ap suc (same_place-eq i j e)

same_place-refl : (i : ℕ) → same_place i i ≡ true
same_place-refl zero = refl
same_place-refl (suc i) = same_place-refl i

pub same_step-eq : (s t : Step) → same_step s t ≡ true → s ≡ t
same_step-eq (key k) (key l) e = ap key ((bytes_eq-Decides k l).0 e)
same_step-eq (key k) (place j) e = absurd (true≢false (sym e))
same_step-eq (place i) (key l) e = absurd (true≢false (sym e))
same_step-eq (place i) (place j) e = ap place (same_place-eq i j e)

pub same_step-refl : (s : Step) → same_step s s ≡ true
same_step-refl (key k) = (bytes_eq-Decides k k).1 refl
same_step-refl (place i) = same_place-refl i

-- two steps are equal, or they are not
pub cases_same : (s t : Step) → (s ≡ t) ⊎ (same_step s t ≡ false)
cases_same s t = go (same_step s t) refl
  where
    go : (b : Bool) → same_step s t ≡ b → (s ≡ t) ⊎ (same_step s t ≡ false)
    go true e = inl (same_step-eq s t e)
    go false e = inr e

-- what follows a prefix

pub rest_after-step : (s : Step) (w p : Path) → rest_after (s ∷ w) (s ∷ p) ≡ rest_after w p
rest_after-step s w p = ap (λ (b : Bool). cond b (rest_after w p) None) (same_step-refl s)

pub rest_after-other : (s t : Step) (w p : Path) → same_step s t ≡ false → rest_after (s ∷ w) (t ∷ p) ≡ None
rest_after-other s t w p e = ap (λ (b : Bool). cond b (rest_after w p) None) e

pub rest_after-append : (w p : Path) → rest_after w (w ++ p) ≡ Some p
rest_after-append [] p = refl
rest_after-append (s ∷ w) p = rest_after-step s w (w ++ p) ∙ rest_after-append w p

-- a path begins with w, or nothing follows w in it
pub cases_front : (w p : Path) → GoesThrough p w ⊎ (rest_after w p ≡ None)
cases_front [] p = inl (p, refl)
cases_front (s ∷ w) [] = inr refl
cases_front (s ∷ w) (t ∷ p) = go (cases_same s t) (cases_front w p)
  where
    go : (s ≡ t) ⊎ (same_step s t ≡ false) → GoesThrough p w ⊎ (rest_after w p ≡ None) → GoesThrough (t ∷ p) (s ∷ w) ⊎ (rest_after (s ∷ w) (t ∷ p) ≡ None)
    go (inl e) (inl r) = inl (r.0, ap₂ (λ (a : Step) (q : Path). a ∷ q) (sym e) r.1)
    go (inl e) (inr none) = inr (subst (λ (a : Step). rest_after (s ∷ w) (a ∷ p) ≡ None) e (rest_after-step s w p ∙ none))
    go (inr e) other = inr (rest_after-other s t w p e)

-- nothing follows w in a path that does not begin with it
pub rest_after-none : (w p : Path) → (GoesThrough p w → ⊥) → rest_after w p ≡ None
rest_after-none w p h = ⊎_elim (λ (r : GoesThrough p w). absurd (h r)) (λ (e : rest_after w p ≡ None). e) (cases_front w p)

-- below a prefix
pub rest_after-below : (w u p : Path) → rest_after (w ++ u) (w ++ p) ≡ rest_after u p
rest_after-below [] u p = refl
rest_after-below (s ∷ w) u p = rest_after-step s (w ++ u) (w ++ p) ∙ rest_after-below w u p

-- nothing follows more than the whole path
pub rest_after-shorter : (w : Path) (s : Step) (u : Path) → rest_after (w ++ s ∷ u) w ≡ None
rest_after-shorter [] s u = refl
rest_after-shorter (t ∷ w) s u = rest_after-step t (w ++ s ∷ u) w ∙ rest_after-shorter w s u

-- nor does anything follow a longer prefix
pub rest_after-longer : (w u p : Path) → rest_after w p ≡ None → rest_after (w ++ u) p ≡ None
rest_after-longer [] u p e = cc
rest_after-longer (s ∷ w) u [] e = refl
rest_after-longer (s ∷ w) u (t ∷ p) e = go (cases_same s t) (rest_after-longer w u p)
  where
    go : (s ≡ t) ⊎ (same_step s t ≡ false) → (rest_after w p ≡ None → rest_after (w ++ u) p ≡ None) → rest_after (s ∷ w ++ u) (t ∷ p) ≡ None
    go (inl same) longer = subst (λ (a : Step). rest_after (s ∷ w ++ u) (a ∷ p) ≡ None) same (rest_after-step s (w ++ u) p ∙ longer (sym (rest_after-step s w p) ∙ subst (λ (a : Step). rest_after (s ∷ w) (a ∷ p) ≡ None) (sym same) e))
    go (inr other) longer = rest_after-other s t (w ++ u) p other

-- putting

-- below w is what was put there
pub put_behind : (n : NodeMap) (w : Path) (v : NodeMap) (p : Path) → put n w v (w ++ p) ≡ v p
put_behind n w v p = ap (λ (o : Option Path). label_or o v (n (w ++ p))) (rest_after-append w p)

-- paths that do not go through w are unchanged
pub put_none : (n : NodeMap) (w : Path) (v : NodeMap) (p : Path) → rest_after w p ≡ None → put n w v p ≡ n p
put_none n w v p e = ap (λ (o : Option Path). label_or o v (n p)) e

-- a path that does not begin with w keeps its label
pub put_other : (n : NodeMap) (w : Path) (v : NodeMap) (p : Path) → (GoesThrough p w → ⊥) → put n w v p ≡ n p
put_other n w v p h = put_none n w v p (rest_after-none w p h)

-- two maps are equal if they agree below w and on the paths that do not begin with w
pub same_by_front : (m k : NodeMap) (w : Path) → ((p : Path) → m (w ++ p) ≡ k (w ++ p)) → ((p : Path) → rest_after w p ≡ None → m p ≡ k p) → m ≡ k
same_by_front m k w behind other = fun_ext (λ (p : Path). ⊎_elim
    (λ (r : GoesThrough p w). ap m r.1 ∙ behind r.0 ∙ sym (ap k r.1))
    (λ (e : rest_after w p ≡ None). other p e)
    (cases_front w p))

-- and no other map has what was put below w, and all else unchanged
pub put_only : (n : NodeMap) (w : Path) (v m : NodeMap) → ((p : Path) → m (w ++ p) ≡ v p) → ((p : Path) → (GoesThrough p w → ⊥) → m p ≡ n p) → m ≡ put n w v
put_only n w v m behind other = same_by_front m (put n w v) w (λ p. behind p ∙ sym (put_behind n w v p)) (λ p e. other p (λ r. not_none r.0 (sym (rest_after-append w r.0) ∙ sym (ap (rest_after w) r.1) ∙ e)) ∙ sym (put_none n w v p e))
  where
    not_none : (q : Path) → Some q ≡ None → ⊥
    not_none q e = cc

-- so these two facts are what it means to put
pub put_whole : (n : NodeMap) (w : Path) (v m : NodeMap) → m ≡ put n w v ↔ (((p : Path) → m (w ++ p) ≡ v p) × ((p : Path) → (GoesThrough p w → ⊥) → m p ≡ n p))
put_whole n w v m = (
  λ e. (λ p. ap (λ (k : NodeMap). k (w ++ p)) e ∙ put_behind n w v p, λ p h. ap (λ (k : NodeMap). k p) e ∙ put_other n w v p h),
  λ h. put_only n w v m h.0 h.1,
)

-- the map below w is what was put there
pub sub-put : (n : NodeMap) (w : Path) (v : NodeMap) → sub (put n w v) w ≡ v
sub-put n w v = fun_ext (put_behind n w v)

-- the node at w is the root of what was put there
pub put_at : (n : NodeMap) (w : Path) (v : NodeMap) → put n w v w ≡ v []
put_at n w v = ap (put n w v) (sym (append-nil w)) ∙ put_behind n w v []

-- putting back the subtree at w changes nothing
pub put-sub : (n : NodeMap) (w : Path) → put n w (sub n w) ≡ n
put-sub n w = same_by_front (put n w (sub n w)) n w (put_behind n w (sub n w)) (put_none n w (sub n w))

-- the last of two puts at w wins
pub put-put : (n : NodeMap) (w : Path) (v u : NodeMap) → put (put n w v) w u ≡ put n w u
put-put n w v u = same_by_front (put (put n w v) w u) (put n w u) w
    (λ p. put_behind (put n w v) w u p ∙ sym (put_behind n w u p))
    (λ p e. put_none (put n w v) w u p e ∙ put_none n w v p e ∙ sym (put_none n w u p e))

-- to put below a path below w is to put there in the map below w, and that at w
pub put_below : (n : NodeMap) (w u : Path) (v : NodeMap) → put n (w ++ u) v ≡ put n w (put (sub n w) u v)
put_below n w u v = same_by_front (put n (w ++ u) v) (put n w (put (sub n w) u v)) w
    (λ p. ap (λ (o : Option Path). label_or o v (n (w ++ p))) (rest_after-below w u p) ∙ sym (put_behind n w (put (sub n w) u v) p))
    (λ p e. put_none n (w ++ u) v p (rest_after-longer w u p e) ∙ sym (put_none n w (put (sub n w) u v) p e))

-- step by step

-- two maps are equal if they agree at the root and below each step
pub same_by_step : (m k : NodeMap) → m [] ≡ k [] → ((s : Step) → sub m (s ∷ []) ≡ sub k (s ∷ [])) → m ≡ k
same_by_step m k root below = fun_ext (go)
  where
    go : (p : Path) → m p ≡ k p
    go [] = root
    go (s ∷ p) = ap (λ (q : NodeMap). q p) (below s)

-- below the first step, the rest is put
pub put-step : (n : NodeMap) (s : Step) (w : Path) (v : NodeMap) → sub (put n (s ∷ w) v) (s ∷ []) ≡ put (sub n (s ∷ [])) w v
put-step n s w v = fun_ext (λ (p : Path). ap (λ (o : Option Path). label_or o v (n (s ∷ p))) (rest_after-step s w p))

-- below another step all is unchanged
pub put-other_step : (n : NodeMap) (s t : Step) (w : Path) (v : NodeMap) → same_step s t ≡ false → sub (put n (s ∷ w) v) (t ∷ []) ≡ sub n (t ∷ [])
put-other_step n s t w v e = fun_ext (λ (p : Path). ap (λ (o : Option Path). label_or o v (n (t ∷ p))) (rest_after-other s t w p e))

-- finding

-- the tokens that named w name it still
pub Names-put : (n : NodeMap) (xs : List Text) (w : Path) (v : NodeMap) → Names n xs w → IsSome (v []) → Names (put n w v) xs w
Names-put n [] [] v h i = i
Names-put n [] (s ∷ w) v h i = absurd h
Names-put n (x ∷ xs) [] v h i = absurd h
Names-put n (x ∷ xs) (s ∷ w) v h i = (h.0, subst (λ (m : NodeMap). Names m xs w) (sym (put-step n s w v)) (Names-put (sub n (s ∷ [])) xs w v h.1 i))

-- and find there what was put
pub Finds-put : (n : NodeMap) (xs : List Text) (w : Path) (v : NodeMap) → Names n xs w → IsSome (v []) → Finds (put n w v) xs v
Finds-put n xs w v h i = record { path = w; named = Names-put n xs w v h i; below = sym (sub-put n w v) }

-- a frame

-- a path that goes on from q and goes through w: so does q, or w goes through q
through_cases : (q p w r : Path) → q ++ p ≡ w ++ r → GoesThrough q w ⊎ GoesThrough w q
through_cases [] p w r e = inr (w, refl)
through_cases (s ∷ q) p [] r e = inl (s ∷ q, refl)
through_cases (s ∷ q) p (t ∷ w) r e = go (through_cases q p w r (cc)) (cc)
  where
    go : GoesThrough q w ⊎ GoesThrough w q → s ≡ t → GoesThrough (s ∷ q) (t ∷ w) ⊎ GoesThrough (t ∷ w) (s ∷ q)
    go (inl c) e = inl (c.0, ap₂ (λ (a : Step) (u : Path). a ∷ u) e c.1)
    go (inr c) e = inr (c.0, ap₂ (λ (a : Step) (u : Path). a ∷ u) (sym e) c.1)

-- naming depends only on the labels on the path
pub Names-along : (n m : NodeMap) (xs : List Text) (q : Path) → ((p u : Path) → q ≡ p ++ u → m p ≡ n p) → Names n xs q → Names m xs q
Names-along n m [] [] same h = subst (λ (o : Option Label). IsSome o) (sym (same [] [] refl)) h
Names-along n m [] (s ∷ q) same h = absurd h
Names-along n m (x ∷ xs) [] same h = absurd h
Names-along n m (x ∷ xs) (s ∷ q) same h = (
  subst (λ (o : Option Label). NamesStep o x s) (sym (same [] (s ∷ q) refl)) h.0,
  Names-along (sub n (s ∷ [])) (sub m (s ∷ [])) xs q (λ p u e. same (s ∷ p) u (ap (λ (v : Path). s ∷ v) e)) h.1,
)

-- where only paths through w change, tokens that name a path that does not go through w name it still, and, if
-- w does not go through it either, find there what they did
pub frame : (n m : NodeMap) (w : Path) → ((p : Path) → (GoesThrough p w → ⊥) → m p ≡ n p) → (xs : List Text) (q : Path) → Names n xs q → (GoesThrough q w → ⊥) → Names m xs q × ((GoesThrough w q → ⊥) → sub m q ≡ sub n q)
frame n m w same xs q h away = (
  Names-along n m xs q (λ p u e. same p (λ c. away (c.0 ++ u, e ∙ ap (λ (v : Path). v ++ u) c.1 ∙ append_assoc w c.0 u))) h,
  λ apart. fun_ext (λ (p : Path). same (q ++ p) (λ c. ⊎_elim (λ (a : GoesThrough q w). away a) (λ (b : GoesThrough w q). apart b) (through_cases q p w c.0 c.1))),
)
