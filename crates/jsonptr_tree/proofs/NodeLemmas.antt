-- Naming a path of a document: prefixes, one more step, and one path for one list.
use Rattle.std.proofs.Common.{◌≡◌, ℕ, zero, suc, ◌+◌, ◌<◌, Bool, cond, List, [], ◌∷◌, ◌++◌, map, length, get_or, Option, Some, None, IsSome, ◌↔◌, refl, sym, ap, ap₂, ◌∙◌, subst, arith, ne_eqb, append-nil, append_assoc}
use mathlib.Core.Path.{fun_ext}
use Rattle.std.proofs.lemmas.Int.Digits.{same_from_digits_of, first_digits_of}
use Rattle.std.specs.Int.Digits.{digits_of}
use Rattle.jsonptr_grammar.specs.Text.{Text, dec}
use Rattle.jsonptr_tree.specs.Node.{Step, key, place, Path, Label, an_object, an_array, a_leaf, NodeMap, sub, NamesStep, Names, IsNaming, MayHave, IsTree}

-- no two numbers have one decimal text

same_digits : (xs ys : List ℕ) → map (λ d. 48 + d) xs ≡ map (λ d. 48 + d) ys → xs ≡ ys
same_digits [] [] e = refl
same_digits [] (y ∷ ys) e = cc
same_digits (x ∷ xs) [] e = cc
same_digits (x ∷ xs) (y ∷ ys) e =
    let first : 48 + x ≡ 48 + y = cc in
    let same : x ≡ y = omega arith in
    ap₂ (λ (z : ℕ) (zs : List ℕ). z ∷ zs) same (same_digits xs ys (cc))

not_zero : (xs : List ℕ) → 48 ∷ [] ≡ map (λ d. 48 + d) xs → 0 < get_or xs 0 0 → ⊥
not_zero [] e h = cc
not_zero (x ∷ xs) e h =
    let first : 48 ≡ 48 + x = cc in
    omega arith

pub dec_above : (n : ℕ) → 0 < n → dec n ≡ map (λ d. 48 + d) (digits_of 10 n)
dec_above n h = ap (λ (b : Bool). cond b (48 ∷ []) (map (λ d. 48 + d) (digits_of 10 n))) (ne_eqb n 0 (λ e. omega arith))

dec_not_zero : (n : ℕ) → 0 < n → dec 0 ≡ dec n → ⊥
dec_not_zero n h e = not_zero (digits_of 10 n) (e ∙ dec_above n h) (first_digits_of 10 n (omega arith) h)

pub dec_one : (i j : ℕ) → dec i ≡ dec j → i ≡ j
dec_one zero zero e = refl
dec_one zero (suc j) e = absurd (dec_not_zero (suc j) (omega arith) e)
dec_one (suc i) zero e = absurd (dec_not_zero (suc i) (omega arith) (sym e))
dec_one (suc i) (suc j) e = same_from_digits_of 10 (suc i) (suc j) (omega arith) (same_digits (digits_of 10 (suc i)) (digits_of 10 (suc j)) (sym (dec_above (suc i) (omega arith)) ∙ e ∙ dec_above (suc j) (omega arith)))

-- the map below a path

-- its root is the node at the path
pub sub-root : (n : NodeMap) (w : Path) → sub n w [] ≡ n w
sub-root n w = ap n (append-nil w)

-- below a path below a path
pub sub-sub : (n : NodeMap) (w v : Path) → sub (sub n w) v ≡ sub n (w ++ v)
sub-sub n w v = fun_ext (λ (p : Path). ap n (sym (append_assoc w v p)))

-- below a step below a path
pub sub-push : (n m k : NodeMap) (w : Path) (s : Step) → m ≡ sub n w → k ≡ sub m (s ∷ []) → k ≡ sub n (w ++ s ∷ [])
sub-push n m k w s e f = f ∙ ap (λ (p : NodeMap). sub p (s ∷ [])) e ∙ sub-sub n w (s ∷ [])

-- one step

-- a step is taken only from a node
pub NamesStep-some : (o : Option Label) (x : Text) (s : Step) → NamesStep o x s → IsSome o
NamesStep-some None x s h = absurd h
NamesStep-some (Some l) x s h = refl

-- one token takes one step
pub NamesStep_one_step : (o : Option Label) (x : Text) (s t : Step) → NamesStep o x s → NamesStep o x t → s ≡ t
NamesStep_one_step None x s t h k = absurd h
NamesStep_one_step (Some an_object) x (key a) (key b) h k = ap key (h ∙ sym k)
NamesStep_one_step (Some an_object) x (key a) (place j) h k = absurd k
NamesStep_one_step (Some an_object) x (place i) t h k = absurd h
NamesStep_one_step (Some (an_array n)) x (key a) t h k = absurd h
NamesStep_one_step (Some (an_array n)) x (place i) (key b) h k = absurd k
NamesStep_one_step (Some (an_array n)) x (place i) (place j) h k = ap place (dec_one i j (sym h.1 ∙ k.1))
NamesStep_one_step (Some (a_leaf v)) x s t h k = absurd h

-- one step is taken by one token
pub NamesStep_one_token : (o : Option Label) (x y : Text) (s : Step) → NamesStep o x s → NamesStep o y s → x ≡ y
NamesStep_one_token None x y s h k = absurd h
NamesStep_one_token (Some an_object) x y (key a) h k = sym h ∙ k
NamesStep_one_token (Some an_object) x y (place i) h k = absurd h
NamesStep_one_token (Some (an_array n)) x y (key a) h k = absurd h
NamesStep_one_token (Some (an_array n)) x y (place i) h k = h.1 ∙ sym k.1
NamesStep_one_token (Some (a_leaf v)) x y s h k = absurd h

-- a list of tokens

-- the path that is named is in the map
pub Names-here : (n : NodeMap) (xs : List Text) (w : Path) → Names n xs w → IsSome (n w)
Names-here n [] [] h = h
Names-here n [] (s ∷ w) h = absurd h
Names-here n (x ∷ xs) [] h = absurd h
Names-here n (x ∷ xs) (s ∷ w) h = Names-here (sub n (s ∷ [])) xs w h.1

-- so is the root
pub Names-root : (n : NodeMap) (xs : List Text) (w : Path) → Names n xs w → IsSome (n [])
Names-root n [] [] h = h
Names-root n [] (s ∷ w) h = absurd h
Names-root n (x ∷ xs) [] h = absurd h
Names-root n (x ∷ xs) (s ∷ w) h = NamesStep-some (n []) x s h.0

-- there are as many tokens as steps
pub Names-length : (n : NodeMap) (xs : List Text) (w : Path) → Names n xs w → length xs ≡ length w
Names-length n [] [] h = refl
Names-length n [] (s ∷ w) h = absurd h
Names-length n (x ∷ xs) [] h = absurd h
Names-length n (x ∷ xs) (s ∷ w) h = ap suc (Names-length (sub n (s ∷ [])) xs w h.1)

-- tokens that name a path, and then tokens that name a path below it
pub Names-append : (n : NodeMap) (xs ys : List Text) (w v : Path) → Names n xs w → Names (sub n w) ys v → Names n (xs ++ ys) (w ++ v)
Names-append n [] ys [] v h k = k
Names-append n [] ys (s ∷ w) v h k = absurd h
Names-append n (x ∷ xs) ys [] v h k = absurd h
Names-append n (x ∷ xs) ys (s ∷ w) v h k = (h.0, Names-append (sub n (s ∷ [])) xs ys w v h.1 k)

-- a path that `xs ++ ys` names is one that xs names, and then one that ys names below it
pub Names-split : (n : NodeMap) (xs ys : List Text) (u : Path) → Names n (xs ++ ys) u → (w v : Path) × (u ≡ w ++ v) × Names n xs w × Names (sub n w) ys v
Names-split n [] ys u h = ([], u, refl, Names-root n ys u h, h)
Names-split n (x ∷ xs) ys [] h = absurd h
Names-split n (x ∷ xs) ys (s ∷ u) h =
    let r = Names-split (sub n (s ∷ [])) xs ys u h.1 in
    (s ∷ r.0, r.1, ap (λ (p : Path). s ∷ p) r.2, (h.0, r.3), r.4)

-- one token more, which takes one step more
pub Names-push : (n : NodeMap) (xs : List Text) (x : Text) (w : Path) (s : Step) → Names n xs w → NamesStep (n w) x s → IsSome (n (w ++ s ∷ [])) → Names n (xs ++ x ∷ []) (w ++ s ∷ [])
Names-push n [] x [] s h k i = (k, i)
Names-push n [] x (t ∷ w) s h k i = absurd h
Names-push n (y ∷ xs) x [] s h k i = absurd h
Names-push n (y ∷ xs) x (t ∷ w) s h k i = (h.0, Names-push (sub n (t ∷ [])) xs x w s h.1 k i)

-- the same, seen in the map m below w
pub Names-push_below : (n m : NodeMap) (xs : List Text) (x : Text) (w : Path) (s : Step) → m ≡ sub n w → Names n xs w → NamesStep (m []) x s → IsSome (m (s ∷ [])) → Names n (xs ++ x ∷ []) (w ++ s ∷ [])
Names-push_below n m xs x w s e h k i = Names-push n xs x w s h (subst (λ (o : Option Label). NamesStep o x s) (ap (λ (p : NodeMap). p []) e ∙ sub-root n w) k) (subst (λ (p : NodeMap). IsSome (p (s ∷ []))) e i)

-- the last token takes the last step
pub Names-pop : (n : NodeMap) (xs : List Text) (x : Text) (u : Path) → Names n (xs ++ x ∷ []) u → (w : Path) × (s : Step) × (u ≡ w ++ s ∷ []) × Names n xs w × NamesStep (n w) x s × IsSome (n (w ++ s ∷ []))
Names-pop n [] x [] h = absurd h
Names-pop n [] x (s ∷ []) h = ([], s, refl, NamesStep-some (n []) x s h.0, h.0, h.1)
Names-pop n [] x (s ∷ t ∷ u) h = absurd h.1
Names-pop n (y ∷ xs) x [] h = absurd h
Names-pop n (y ∷ xs) x (t ∷ u) h =
    let r = Names-pop (sub n (t ∷ [])) xs x u h.1 in
    (t ∷ r.0, r.1, ap (λ (p : Path). t ∷ p) r.2, (h.0, r.3), r.4, r.5)

-- one list of tokens names one path
pub Names_one_path : (n : NodeMap) (xs : List Text) (w v : Path) → Names n xs w → Names n xs v → w ≡ v
Names_one_path n [] [] [] h k = refl
Names_one_path n [] [] (t ∷ v) h k = absurd k
Names_one_path n [] (s ∷ w) v h k = absurd h
Names_one_path n (x ∷ xs) [] v h k = absurd h
Names_one_path n (x ∷ xs) (s ∷ w) [] h k = absurd k
Names_one_path n (x ∷ xs) (s ∷ w) (t ∷ v) h k =
    let e : s ≡ t = NamesStep_one_step (n []) x s t h.0 k.0 in
    ap₂ (λ (r : Step) (p : Path). r ∷ p) e (Names_one_path (sub n (s ∷ [])) xs w v h.1 (subst (λ (r : Step). Names (sub n (r ∷ [])) xs v) (sym e) k.1))

-- one path is named by one list of tokens
pub Names_one_list : (n : NodeMap) (xs ys : List Text) (w : Path) → Names n xs w → Names n ys w → xs ≡ ys
Names_one_list n [] [] w h k = refl
Names_one_list n [] (y ∷ ys) [] h k = absurd k
Names_one_list n [] (y ∷ ys) (s ∷ w) h k = absurd h
Names_one_list n (x ∷ xs) ys [] h k = absurd h
Names_one_list n (x ∷ xs) [] (s ∷ w) h k = absurd k
Names_one_list n (x ∷ xs) (y ∷ ys) (s ∷ w) h k =
    ap₂ (λ (z : Text) (zs : List Text). z ∷ zs) (NamesStep_one_token (n []) x y s h.0 k.0) (Names_one_list (sub n (s ∷ [])) xs ys w h.1 k.1)

-- in words of the whole lists

-- the token after a prefix selects the step after a prefix of as many steps
pub Names-at : (n : NodeMap) (ys : List Text) (x : Text) (zs : List Text) (u : Path) (s : Step) (v : Path) → length ys ≡ length u → Names n (ys ++ x ∷ zs) (u ++ s ∷ v) → NamesStep (n u) x s
Names-at n [] x zs [] s v e h = h.0
Names-at n [] x zs (t ∷ u) s v e h = absurd (omega arith)
Names-at n (y ∷ ys) x zs [] s v e h = absurd (omega arith)
Names-at n (y ∷ ys) x zs (t ∷ u) s v e h = Names-at (sub n (t ∷ [])) ys x zs u s v (omega arith) h.1

-- naming implies what holds of the whole lists
pub IsNaming-Names : (n : NodeMap) (xs : List Text) (w : Path) → Names n xs w → IsNaming n xs w
IsNaming-Names n xs w h = record {
  as_many = Names-length n xs w h;
  is_there = Names-here n xs w h;
  each = λ ys x zs u s v e f l. Names-at n ys x zs u s v l (subst (λ (p : Path). Names n (ys ++ x ∷ zs) p) f (subst (λ (ts : List Text). Names n ts w) e h));
}

-- what holds of the whole lists implies naming
pub Names-IsNaming : (n : NodeMap) (xs : List Text) (w : Path) → IsNaming n xs w → Names n xs w
Names-IsNaming n [] [] r = r.is_there
Names-IsNaming n [] (s ∷ w) r = absurd (omega (arith, r.as_many))
Names-IsNaming n (x ∷ xs) [] r = absurd (omega (arith, r.as_many))
Names-IsNaming n (x ∷ xs) (s ∷ w) r = (
  r.each [] x xs [] s w refl refl refl,
  Names-IsNaming (sub n (s ∷ [])) xs w (record {
    as_many = omega (arith, r.as_many);
    is_there = r.is_there;
    each = λ ys y zs u t v e f l. r.each (x ∷ ys) y zs (s ∷ u) t v (ap (λ (ts : List Text). x ∷ ts) e) (ap (λ (p : Path). s ∷ p) f) (ap suc l);
  }),
)

-- naming is what its definition over the whole lists says
pub Names-iff : (n : NodeMap) (xs : List Text) (w : Path) → Names n xs w ↔ IsNaming n xs w
Names-iff n xs w = (IsNaming-Names n xs w, Names-IsNaming n xs w)

-- in a tree

MayHave-some : (o : Option Label) (s : Step) → MayHave o s → IsSome o
MayHave-some None s h = absurd h
MayHave-some (Some l) s h = refl

-- above each node is a node
pub IsTree-above : (n : NodeMap) → IsTree n → (w v : Path) → IsSome (n (w ++ v)) → IsSome (n w)
IsTree-above n tree w [] h = subst (λ (p : Path). IsSome (n p)) (append-nil w) h
IsTree-above n tree w (s ∷ v) h = MayHave-some (n w) s (tree.parent w s (IsTree-above n tree (w ++ s ∷ []) v (subst (λ (p : Path). IsSome (n p)) (sym (append_assoc w (s ∷ []) v)) h)))

-- below each node of a tree is a tree
pub IsTree-sub : (n : NodeMap) (w : Path) → IsTree n → IsSome (n w) → IsTree (sub n w)
IsTree-sub n w tree h = record {
  root = subst (λ (p : Path). IsSome (n p)) (sym (append-nil w)) h;
  parent = λ v s i. tree.parent (w ++ v) s (subst (λ (p : Path). IsSome (n p)) (sym (append_assoc w v (s ∷ []))) i);
  full = λ v len i e b. subst (λ (p : Path). IsSome (n p)) (append_assoc w v (place i ∷ [])) (tree.full (w ++ v) len i e b);
}

-- each step to a node of a tree is one that a token takes
token_for : (o : Option Label) (s : Step) → MayHave o s → (x : Text) × NamesStep o x s
token_for None s h = absurd h
token_for (Some an_object) (key k) h = (k, refl)
token_for (Some an_object) (place i) h = absurd h
token_for (Some (an_array len)) (key k) h = absurd h
token_for (Some (an_array len)) (place i) h = (dec i, (h, refl))
token_for (Some (a_leaf v)) s h = absurd h

-- some list of tokens names each node of a tree
pub IsTree-named : (n : NodeMap) → IsTree n → (w : Path) → IsSome (n w) → (xs : List Text) × Names n xs w
IsTree-named n tree [] h = ([], h)
IsTree-named n tree (s ∷ w) h =
    let child : IsSome (n (s ∷ [])) = IsTree-above n tree (s ∷ []) w h in
    let first = token_for (n []) s (tree.parent [] s child) in
    let rest = IsTree-named (sub n (s ∷ [])) (IsTree-sub n (s ∷ []) tree child) w h in
    (first.0 ∷ rest.0, (first.1, rest.1))
