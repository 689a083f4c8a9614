-- Maps of which some list has each path.
use Rattle.std.proofs.Common.{◌≡◌, suc, map, Contains, List, [], ◌∷◌, ◌++◌, Option, None, IsSome, ⊎_elim, sym, ap, ◌∙◌, subst, arith}
use Rattle.std.specs.Option.{option_map_or}
use Rattle.std.proofs.lemmas.List.{length-map, get_or-map}
use Rattle.std.proofs.lemmas.List.Elements.{Contains-append_left, Contains-append_right}
use Rattle.jsonptr_tree.specs.Node.{Path, Label, NodeMap, sub, IsListed}
use Rattle.jsonptr_tree.specs.Put.{GoesThrough, rest_after, put}
use Rattle.jsonptr_tree.proofs.PutLemmas.{cases_front, rest_after-append, put_behind, put_none}

pub Contains-cons : {A : Type 0} (x : A) (xs : List A) (y : A) → Contains xs y → Contains (x ∷ xs) y
Contains-cons x xs y h = (suc h.0, omega (arith, h.1), h.2)

pub Contains-map : {A B : Type 0} (f : A → B) (xs : List A) (y : A) → Contains xs y → Contains (map f xs) (f y)
Contains-map f xs y h = (h.0, rw (length-map xs f) h.1, get_or-map f xs h.0 y (f y) h.1 ∙ ap f h.2)

-- the map below a path
pub IsListed-sub : (n : NodeMap) (w : Path) → IsListed n → IsListed (sub n w)
IsListed-sub n w h =
    let after = λ (q : Path). option_map_or (λ (r : Path). r) (rest_after w q) [] in
    (map after h.0, λ p i. subst (λ (q : Path). Contains (map after h.0) q) (same p) (Contains-map after h.0 (w ++ p) (h.1 (w ++ p) i)))
  where
    same : (p : Path) → option_map_or (λ (r : Path). r) (rest_after w (w ++ p)) [] ≡ p
    same p = ap (λ (o : Option Path). option_map_or (λ (r : Path). r) o []) (rest_after-append w p)

-- a map put at a path
pub IsListed-put : (n : NodeMap) (w : Path) (v : NodeMap) → IsListed n → IsListed v → IsListed (put n w v)
IsListed-put n w v a b = (
  a.0 ++ map (λ (q : Path). w ++ q) b.0,
  λ p i. ⊎_elim
      (λ (r : GoesThrough p w). Contains-append_right a.0 (map (λ (q : Path). w ++ q) b.0) p (behind p r.0 r.1 i))
      (λ (e : rest_after w p ≡ None). Contains-append_left a.0 (map (λ (q : Path). w ++ q) b.0) p (a.1 p (subst (λ (o : Option Label). IsSome o) (put_none n w v p e) i)))
      (cases_front w p),
)
  where
    behind : (p q : Path) → p ≡ w ++ q → IsSome (put n w v p) → Contains (map (λ (q : Path). w ++ q) b.0) p
    behind p q e i = subst (λ (t : Path). Contains (map (λ (q : Path). w ++ q) b.0) t) (sym e) (Contains-map (λ (q : Path). w ++ q) b.0 q (b.1 q (subst (λ (o : Option Label). IsSome o) (put_behind n w v q) (subst (λ (t : Path). IsSome (put n w v t)) e i))))

-- a map that has no node where another has none
pub IsListed-within : (n m : NodeMap) → ((w : Path) → IsSome (m w) → IsSome (n w)) → IsListed n → IsListed m
IsListed-within n m h a = (a.0, λ w i. a.1 w (h w i))
