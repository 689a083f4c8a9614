-- What takes a patch back is determined except for the order of members, and its values are of documents before operations.
use Rattle.std.proofs.Common.{◌≡◌, ℕ, ◌⊎◌, inl, inr, ⊎_elim, List, [], ◌∷◌, ◌++◌, All, Some, refl, sym, ap, ◌∙◌, subst}
use Rattle.std.specs.Prelude.{⊤}
use Rattle.std.proofs.lemmas.List.Elements.{All-nil, All-cons, All-append, All-weaker}
use Rattle.serde_json.specs.View.{view}
use Rattle.jsonptr.specs.Text.{Text, dec}
use Rattle.jsonptr.specs.Node.{an_object, an_array, NodeMap, Names, IsTree}
use Rattle.jsonptr.specs.Following.{Finds}
use Rattle.jsonptr.specs.Json.{nodes}
use Rattle.jsonptr_tree.proofs.NodeLemmas.{Names_one_path}
use Rattle.jsonptr_tree.proofs.FollowingLemmas.{Finds_one}
use Rattle.jsonptr_patch.specs.Adding.{MeansPlace}
use Rattle.jsonptr_patch.specs.Inverse.{HasObject, IsElementAt, TakesAddBack, IsReverse, HasNoReverse, TakesMoveBack, TakesBack, TakesAllBackBy, IsAlike, AreAlike, IsStage, FindsBefore, IsOfBefore}
use Rattle.jsonptr_patch.specs.Operating.{IsProperPrefix, AppliesBy, RestoresAt}
use Rattle.jsonptr_patch.specs.declared.comparison.Comparison.{Comparison}
use Rattle.jsonptr_patch.specs.declared.operation.Operation.{Operation}
use Rattle.jsonptr_patch.specs.declared.operation.Operation.TheVariants.{Add, Remove, Replace, Move, Copy, Test}
use Rattle.jsonptr_patch.proofs.OneLemmas.{no_last, last_one, place_one, takes_one, applies_one, applies_tree}

-- the parent is an object or an array

object_or_array : (n : NodeMap) (tokens element : List Text) → HasObject n tokens → IsElementAt n tokens element → ⊥
object_or_array n tokens element h e =
    let same = last_one h.front e.front h.last e.last (sym h.split ∙ e.split) in
    let here : h.path ≡ e.path = Names_one_path n e.front h.path e.path (subst (λ (ts : List Text). Names n ts h.path) same.0 h.named) e.named in
    clash e.len (sym h.object ∙ ap n here ∙ e.array)
  where
    clash : (i : ℕ) → Some an_object ≡ Some (an_array i) → ⊥
    clash i h = cc

whole_or_array : (n : NodeMap) (tokens element : List Text) → (tokens ≡ []) ⊎ HasObject n tokens → IsElementAt n tokens element → ⊥
whole_or_array n tokens element (inl h) e = no_last e.front e.last (sym h ∙ e.split)
whole_or_array n tokens element (inr h) e = object_or_array n tokens element h e

-- an index of one array
one_element : (n : NodeMap) (tokens xs ys : List Text) → IsElementAt n tokens xs → IsElementAt n tokens ys → xs ≡ ys
one_element n tokens xs ys h k =
    let same = last_one h.front k.front h.last k.last (sym h.split ∙ k.split) in
    let here : h.path ≡ k.path = Names_one_path n k.front h.path k.path (subst (λ (ts : List Text). Names n ts h.path) same.0 h.named) k.named in
    let len : h.len ≡ k.len = array_len h.len k.len (sym h.array ∙ ap n here ∙ k.array) in
    let index : h.index ≡ k.index = place_one k.len k.last h.index k.index (subst (λ (x : Text). MeansPlace k.len x h.index) same.1 (subst (λ (l : ℕ). MeansPlace l h.last h.index) len h.means)) k.means in
    h.element_is ∙ ap (λ (ts : List Text). ts ++ dec h.index ∷ []) same.0 ∙ ap (λ (i : ℕ). k.front ++ dec i ∷ []) index ∙ sym k.element_is
  where
    array_len : (i j : ℕ) → Some (an_array i) ≡ Some (an_array j) → i ≡ j
    array_len i j h = cc

-- what takes an addition back

same_add_back : (n : NodeMap) (tokens : List Text) (o p : Operation) → TakesAddBack n tokens o → TakesAddBack n tokens p → IsAlike o p
same_add_back n tokens (Add x v) p a b = absurd a
same_add_back n tokens (Move f x) p a b = absurd a
same_add_back n tokens (Copy f x) p a b = absurd a
same_add_back n tokens (Test x v) p a b = absurd a
same_add_back n tokens (Remove x) (Add y w) a b = absurd b
same_add_back n tokens (Remove x) (Move g y) a b = absurd b
same_add_back n tokens (Remove x) (Copy g y) a b = absurd b
same_add_back n tokens (Remove x) (Test y w) a b = absurd b
same_add_back n tokens (Remove x) (Remove y) (inl a) (inl b) = a.0 ∙ sym b.0
same_add_back n tokens (Remove x) (Remove y) (inl a) (inr b) = absurd (object_or_array n tokens y a.1 b)
same_add_back n tokens (Remove x) (Remove y) (inr a) (inl b) = absurd (object_or_array n tokens x b.1 a)
same_add_back n tokens (Remove x) (Remove y) (inr a) (inr b) = one_element n tokens x y a b
same_add_back n tokens (Remove x) (Replace y w) (inl a) b = absurd (a.2 b.1.path b.1.named)
same_add_back n tokens (Remove x) (Replace y w) (inr a) b = absurd (whole_or_array n tokens x b.2 a)
same_add_back n tokens (Replace x v) (Add y w) a b = absurd b
same_add_back n tokens (Replace x v) (Move g y) a b = absurd b
same_add_back n tokens (Replace x v) (Copy g y) a b = absurd b
same_add_back n tokens (Replace x v) (Test y w) a b = absurd b
same_add_back n tokens (Replace x v) (Remove y) a (inl b) = absurd (b.2 a.1.path a.1.named)
same_add_back n tokens (Replace x v) (Remove y) a (inr b) = absurd (whole_or_array n tokens y a.2 b)
same_add_back n tokens (Replace x v) (Replace y w) a b = (a.0 ∙ sym b.0, Finds_one n tokens (nodes (view v)) (nodes (view w)) a.1 b.1)

same_restoring : (n : NodeMap) (tokens : List Text) (o p : Operation) → RestoresAt n tokens o → RestoresAt n tokens p → IsAlike o p
same_restoring n tokens o p a b =
    subst (λ (q : Operation). IsAlike q p) (sym a.1)
    (subst (λ (q : Operation). IsAlike (Add tokens a.0) q) (sym b.1)
    (refl, Finds_one n tokens (nodes (view a.0)) (nodes (view b.0)) a.2 b.2))

-- what takes a move back

one_same : (o p : Operation) (back ps : List Operation) → back ≡ o ∷ [] → ps ≡ p ∷ [] → IsAlike o p → AreAlike back ps
one_same o p back ps is are h =
    subst (λ (l : List Operation). AreAlike l ps) (sym is) (subst (λ (l : List Operation). AreAlike (o ∷ []) l) (sym are) (h, tt))

two_same : (o q p r : Operation) (back ps : List Operation) → back ≡ o ∷ q ∷ [] → ps ≡ p ∷ r ∷ [] → IsAlike o p → IsAlike q r → AreAlike back ps
two_same o q p r back ps is are h k =
    subst (λ (l : List Operation). AreAlike l ps) (sym is) (subst (λ (l : List Operation). AreAlike (o ∷ q ∷ []) l) (sym are) (h, (k, tt)))

same_reverse : (n : NodeMap) (from path : List Text) (o p : Operation) (back ps : List Operation) → IsAlike o p → IsReverse n from path o back → IsReverse n from path p ps → AreAlike back ps
same_reverse n from path (Add x v) p back ps s a b = absurd a
same_reverse n from path (Move f x) p back ps s a b = absurd a
same_reverse n from path (Copy f x) p back ps s a b = absurd a
same_reverse n from path (Test x v) p back ps s a b = absurd a
same_reverse n from path (Remove x) (Remove y) back ps s a b = one_same (Move x from) (Move y from) back ps a.0 b.0 (s, refl)
same_reverse n from path (Replace x v) (Replace y w) back ps s a b = two_same (Move x from) (Add x v) (Move y from) (Add y w) back ps a.0 b.0 (s.0, refl) s
same_reverse n from path (Remove x) p back ps s a b = absurd s
same_reverse n from path (Replace x v) p back ps s a b = absurd s

-- a move back is one for each operation that is the same
reverse_too : (n : NodeMap) (from path : List Text) (o p : Operation) (back : List Operation) → IsAlike o p → IsReverse n from path o back → HasNoReverse n from path p → ⊥
reverse_too n from path (Add x v) p back s a none = absurd a
reverse_too n from path (Move f x) p back s a none = absurd a
reverse_too n from path (Copy f x) p back s a none = absurd a
reverse_too n from path (Test x v) p back s a none = absurd a
reverse_too n from path (Remove x) (Remove y) back s a none = none (Move y from ∷ []) (refl, λ f. a.1 (subst (λ (ts : List Text). IsProperPrefix ts from) (sym s) f))
reverse_too n from path (Replace x v) (Replace y w) back s a none = none (Move y from ∷ Add y w ∷ []) (refl, a.1)
reverse_too n from path (Remove x) p back s a none = absurd s
reverse_too n from path (Replace x v) p back s a none = absurd s

same_turned : (o p : Operation) → IsAlike o p → IsAlike p o
same_turned (Add x v) (Add y w) s = (sym s.0, sym s.1)
same_turned (Remove x) (Remove y) s = sym s
same_turned (Replace x v) (Replace y w) s = (sym s.0, sym s.1)
same_turned (Move f x) (Move g y) s = (sym s.0, sym s.1)
same_turned (Copy f x) (Copy g y) s = (sym s.0, sym s.1)
same_turned (Test x v) (Test y w) s = (sym s.0, sym s.1)
same_turned o p s = absurd s

same_move_back : (n : NodeMap) (from path : List Text) (o p : Operation) (back ps : List Operation) → IsAlike o p → TakesMoveBack n from path o back → TakesMoveBack n from path p ps → AreAlike back ps
same_move_back n from path o p back ps s (inl a) (inl b) = same_reverse n from path o p back ps s a b
same_move_back n from path o p back ps s (inl a) (inr b) = absurd (reverse_too n from path o p back s a b.0)
same_move_back n from path o p back ps s (inr a) (inl b) = absurd (reverse_too n from path p o ps (same_turned o p s) b a.0)
same_move_back n from path o p back ps s (inr a) (inr b) = two_same o a.1 p b.1 back ps a.2 b.2 s (same_restoring n from a.1 b.1 a.3 b.3)

-- what takes an operation back

none_same : (back ps : List Operation) → back ≡ [] → ps ≡ [] → AreAlike back ps
none_same back ps is are = subst (λ (l : List Operation). AreAlike l ps) (sym is) (subst (λ (l : List Operation). AreAlike [] l) (sym are) tt)

same_back : (n : NodeMap) (o : Operation) (back ps : List Operation) → IsTree n → TakesBack n o back → TakesBack n o ps → AreAlike back ps
same_back n (Add path v) back ps tree a b = one_same a.0 b.0 back ps a.1 b.1 (same_add_back n path a.0 b.0 a.2 b.2)
same_back n (Remove path) back ps tree a b = one_same a.0 b.0 back ps a.1 b.1 (same_restoring n path a.0 b.0 a.2 b.2)
same_back n (Replace path v) back ps tree a b = one_same (Replace path a.0) (Replace path b.0) back ps a.1 b.1 (refl, Finds_one n path (nodes (view a.0)) (nodes (view b.0)) a.2 b.2)
same_back n (Move from path) back ps tree a b =
    let left : b.2 ≡ a.2 = (takes_one n from b.1 a.1 b.2 a.2 tree b.3 a.3).1 in
    same_move_back n from path a.0 b.0 back ps (same_add_back a.2 path a.0 b.0 a.4 (subst (λ (z : NodeMap). TakesAddBack z path b.0) left b.4)) a.5 b.5
same_back n (Copy from path) back ps tree a b = one_same a.0 b.0 back ps a.1 b.1 (same_add_back n path a.0 b.0 a.2 b.2)
same_back n (Test path v) back ps tree a b = none_same back ps a b

-- what takes a list of operations back

same_append : (xs ys zs ws : List Operation) → AreAlike xs ys → AreAlike zs ws → AreAlike (xs ++ zs) (ys ++ ws)
same_append [] [] zs ws a b = b
same_append [] (y ∷ ys) zs ws a b = absurd a
same_append (x ∷ xs) [] zs ws a b = absurd a
same_append (x ∷ xs) (y ∷ ys) zs ws a b = (a.0, same_append xs ys zs ws a.1 b)

pub same_all_back : (c : Comparison) (n : NodeMap) (os back ps : List Operation) → IsTree n → TakesAllBackBy c n os back → TakesAllBackBy c n os ps → AreAlike back ps
same_all_back c n [] back ps tree a b = none_same back ps a b
same_all_back c n (o ∷ os) back ps tree a b =
    let next : b.0 ≡ a.0 = applies_one c n b.0 a.0 o tree b.3 a.3 in
    let rest : AreAlike a.2 b.2 = same_all_back c a.0 os a.2 b.2 (applies_tree c n a.0 o tree a.3) a.5 (subst (λ (z : NodeMap). TakesAllBackBy c z os b.2) next b.5) in
    let first : AreAlike a.1 b.1 = same_back n o a.1 b.1 tree a.4 b.4 in
    subst (λ (l : List Operation). AreAlike l ps) (sym a.6)
    (subst (λ (l : List Operation). AreAlike (a.2 ++ a.1) l) (sym b.6) (same_append a.2 b.2 a.1 b.1 rest first))

-- where the values are

-- `IsOwn n o p`: the value of operation `p`, if it has one, is at its pointer in the document before operation `o`, or in
-- what a move has left of it
abbrev IsOwn : NodeMap → Operation → Operation → Type 0
IsOwn n o (Add path value) = (m : NodeMap) × IsStage n o m × Finds m path (nodes (view value))
IsOwn n o (Remove path) = ⊤
IsOwn n o (Replace path value) = (m : NodeMap) × IsStage n o m × Finds m path (nodes (view value))
IsOwn n o (Move from path) = ⊤
IsOwn n o (Copy from path) = ⊤
IsOwn n o (Test path value) = ⊥

whole_stage : (n : NodeMap) (o : Operation) → IsStage n o n
whole_stage n (Add path value) = refl
whole_stage n (Remove path) = refl
whole_stage n (Replace path value) = refl
whole_stage n (Move from path) = inl refl
whole_stage n (Copy from path) = refl
whole_stage n (Test path value) = refl

own_add_back : (n m : NodeMap) (tokens : List Text) (o p : Operation) → IsStage n o m → TakesAddBack m tokens p → IsOwn n o p
own_add_back n m tokens o (Add x v) s h = absurd h
own_add_back n m tokens o (Remove x) s h = tt
own_add_back n m tokens o (Replace x v) s h = (m, s, subst (λ (ts : List Text). Finds m ts (nodes (view v))) (sym h.0) h.1)
own_add_back n m tokens o (Move f x) s h = absurd h
own_add_back n m tokens o (Copy f x) s h = absurd h
own_add_back n m tokens o (Test x v) s h = absurd h

own_restoring : (n : NodeMap) (tokens : List Text) (o p : Operation) → RestoresAt n tokens p → IsOwn n o p
own_restoring n tokens o p h = subst (λ (q : Operation). IsOwn n o q) (sym h.1) (n, whole_stage n o, h.2)

one_own : (n : NodeMap) (o p : Operation) (back : List Operation) → back ≡ p ∷ [] → IsOwn n o p → All (IsOwn n o) back
one_own n o p back is h = subst (λ (l : List Operation). All (IsOwn n o) l) (sym is) (All-cons (IsOwn n o) p [] h (All-nil (IsOwn n o)))

two_own : (n : NodeMap) (o p q : Operation) (back : List Operation) → back ≡ p ∷ q ∷ [] → IsOwn n o p → IsOwn n o q → All (IsOwn n o) back
two_own n o p q back is h k = subst (λ (l : List Operation). All (IsOwn n o) l) (sym is) (All-cons (IsOwn n o) p (q ∷ []) h (All-cons (IsOwn n o) q [] k (All-nil (IsOwn n o))))

own_reverse : (n left : NodeMap) (from path : List Text) (p : Operation) (back : List Operation) → IsStage n (Move from path) left → TakesAddBack left path p → IsReverse n from path p back → All (IsOwn n (Move from path)) back
own_reverse n left from path (Add x v) back s h r = absurd r
own_reverse n left from path (Remove x) back s h r = one_own n (Move from path) (Move x from) back r.0 tt
own_reverse n left from path (Replace x v) back s h r = two_own n (Move from path) (Move x from) (Add x v) back r.0 tt (left, s, subst (λ (ts : List Text). Finds left ts (nodes (view v))) (sym h.0) h.1)
own_reverse n left from path (Move f x) back s h r = absurd r
own_reverse n left from path (Copy f x) back s h r = absurd r
own_reverse n left from path (Test x v) back s h r = absurd r

own_back : (n : NodeMap) (o : Operation) (back : List Operation) → TakesBack n o back → All (IsOwn n o) back
own_back n (Add path v) back a = one_own n (Add path v) a.0 back a.1 (own_add_back n n path (Add path v) a.0 refl a.2)
own_back n (Remove path) back a = one_own n (Remove path) a.0 back a.1 (own_restoring n path (Remove path) a.0 a.2)
own_back n (Replace path v) back a = one_own n (Replace path v) (Replace path a.0) back a.1 (n, refl, a.2)
own_back n (Move from path) back a =
    let stage : IsStage n (Move from path) a.2 = inr (a.1, a.3) in
    ⊎_elim
    (λ (r : IsReverse n from path a.0 back). own_reverse n a.2 from path a.0 back stage a.4 r)
    (λ (r : HasNoReverse n from path a.0 × (p : Operation) × (back ≡ a.0 ∷ p ∷ []) × RestoresAt n from p). two_own n (Move from path) a.0 r.1 back r.2 (own_add_back n a.2 path (Move from path) a.0 stage a.4) (own_restoring n from (Move from path) r.1 r.3))
    a.5
own_back n (Copy from path) back a = one_own n (Copy from path) a.0 back a.1 (own_add_back n n path (Copy from path) a.0 refl a.2)
own_back n (Test path v) back a = subst (λ (l : List Operation). All (IsOwn n (Test path v)) l) (sym a) (All-nil (IsOwn n (Test path v)))

found_first : (c : Comparison) (n m : NodeMap) (o : Operation) (os : List Operation) (tokens : List Text) (v : NodeMap) → IsStage n o m → Finds m tokens v → FindsBefore c n (o ∷ os) tokens v
found_first c n m o os tokens v s f = record { done = []; next = o; rest = os; before = n; stage = m; split = refl; applied = refl; is_stage = s; found = f }

found_later : (c : Comparison) (n m : NodeMap) (o : Operation) (os : List Operation) (tokens : List Text) (v : NodeMap) → AppliesBy c n o m → FindsBefore c m os tokens v → FindsBefore c n (o ∷ os) tokens v
found_later c n m o os tokens v a f = record {
  done = o ∷ f.done;
  next = f.next;
  rest = f.rest;
  before = f.before;
  stage = f.stage;
  split = ap (λ (l : List Operation). o ∷ l) f.split;
  applied = (m, a, f.applied);
  is_stage = f.is_stage;
  found = f.found;
}

first_before : (c : Comparison) (n : NodeMap) (o : Operation) (os : List Operation) (p : Operation) → IsOwn n o p → IsOfBefore c n (o ∷ os) p
first_before c n o os (Add x v) h = found_first c n h.0 o os x (nodes (view v)) h.1 h.2
first_before c n o os (Remove x) h = tt
first_before c n o os (Replace x v) h = found_first c n h.0 o os x (nodes (view v)) h.1 h.2
first_before c n o os (Move f x) h = tt
first_before c n o os (Copy f x) h = tt
first_before c n o os (Test x v) h = absurd h

later_before : (c : Comparison) (n m : NodeMap) (o : Operation) (os : List Operation) → AppliesBy c n o m → (p : Operation) → IsOfBefore c m os p → IsOfBefore c n (o ∷ os) p
later_before c n m o os a (Add x v) h = found_later c n m o os x (nodes (view v)) a h
later_before c n m o os a (Remove x) h = tt
later_before c n m o os a (Replace x v) h = found_later c n m o os x (nodes (view v)) a h
later_before c n m o os a (Move f x) h = tt
later_before c n m o os a (Copy f x) h = tt
later_before c n m o os a (Test x v) h = absurd h

pub all_of_before : (c : Comparison) (n : NodeMap) (os back : List Operation) → TakesAllBackBy c n os back → All (IsOfBefore c n os) back
all_of_before c n [] back a = subst (λ (l : List Operation). All (IsOfBefore c n []) l) (sym a) (All-nil (IsOfBefore c n []))
all_of_before c n (o ∷ os) back a =
    let rest : All (IsOfBefore c n (o ∷ os)) a.2 = All-weaker (IsOfBefore c a.0 os) (IsOfBefore c n (o ∷ os)) (later_before c n a.0 o os a.3) a.2 (all_of_before c a.0 os a.2 a.5) in
    let first : All (IsOfBefore c n (o ∷ os)) a.1 = All-weaker (IsOwn n o) (IsOfBefore c n (o ∷ os)) (first_before c n o os) a.1 (own_back n o a.1 a.4) in
    subst (λ (l : List Operation). All (IsOfBefore c n (o ∷ os)) l) (sym a.6) (All-append (IsOfBefore c n (o ∷ os)) a.2 a.1 rest first)
