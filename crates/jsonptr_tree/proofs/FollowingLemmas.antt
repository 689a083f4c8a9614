-- Where following a list of tokens stops: that this is unique, where it is, and that it exists.
use Rattle.std.proofs.Common.{◌≡◌, ℕ, zero, suc, ◌+◌, ◌<◌, ◌≤◌, Bool, true, false, bytes_eq, is_some, List, [], ◌∷◌, ◌++◌, length, Option, Some, None, IsSome, ◌↔◌, ◌⊎◌, inl, inr, ⊎_elim, refl, sym, ap, ap₂, ◌∙◌, subst, arith, append-nil, append_assoc, length-append, true≢false}
use Rattle.std.proofs.lemmas.Bool.{cases_lt}
use Rattle.std.proofs.lemmas.Slice.Eq.{bytes_eq-Decides}
use Rattle.jsonptr_grammar.specs.Text.{Text, text, dec}
use Rattle.jsonptr_tree.specs.Node.{Step, key, place, Path, Scalar, Label, an_object, an_array, a_leaf, NodeMap, sub, NamesStep, Names, PairsOff, IsTree}
use Rattle.jsonptr_tree.specs.Following.{Finds, StopsAt, LacksStep, StopsBefore}
use Rattle.jsonptr_tree.proofs.NodeLemmas.{sub-root, NamesStep_one_step, Names-here, Names-root, Names-push, Names_one_path, Names_one_list, IsTree-named}

-- lists with one beginning

-- a longer prefix of one list continues with the next element
longer_front : {A : Type 0} (front : List A) (x : A) (rest longer after : List A) → front ++ x ∷ rest ≡ longer ++ after → length front < length longer → (more : List A) × (longer ≡ front ++ x ∷ more)
longer_front [] x rest [] after e h = absurd (omega arith)
longer_front [] x rest (y ∷ ys) after e h = (ys, cc)
longer_front (f ∷ front) x rest [] after e h = absurd (omega arith)
longer_front (f ∷ front) x rest (y ∷ ys) after e h =
    let r = longer_front front x rest ys after (cc) (omega arith) in
    let same : y ≡ f = cc in
    (r.0, ap₂ (λ z zs. z ∷ zs) same r.1)

-- prefixes of equal length are equal
same_front : {A : Type 0} (xs ys us vs : List A) → xs ++ us ≡ ys ++ vs → length xs ≡ length ys → (xs ≡ ys) × (us ≡ vs)
same_front [] [] us vs e h = (refl, e)
same_front [] (y ∷ ys) us vs e h = absurd (omega arith)
same_front (x ∷ xs) [] us vs e h = absurd (omega arith)
same_front (x ∷ xs) (y ∷ ys) us vs e h =
    let r = same_front xs ys us vs (cc) (omega arith) in
    let same : x ≡ y = cc in
    (ap₂ (λ z zs. z ∷ zs) same r.0, r.1)

-- stopping

-- if x names no child, then no longer prefix names a path
no_longer : (n : NodeMap) (front : List Text) (x : Text) (more : List Text) (w v : Path) → Names n front w → LacksStep n w x → Names n (front ++ x ∷ more) v → ⊥
no_longer n [] x more [] [] h lacks k = k
no_longer n [] x more [] (s ∷ v) h lacks k = lacks s k.0 (Names-root (sub n (s ∷ [])) more v k.1)
no_longer n [] x more (t ∷ w) v h lacks k = h
no_longer n (y ∷ front) x more [] v h lacks k = h
no_longer n (y ∷ front) x more (t ∷ w) [] h lacks k = k
no_longer n (y ∷ front) x more (t ∷ w) (s ∷ v) h lacks k =
    let e : s ≡ t = NamesStep_one_step (n []) y s t k.0 h.0 in
    no_longer (sub n (t ∷ [])) front x more w v h.1 lacks (subst (λ (r : Step). Names (sub n (r ∷ [])) (front ++ x ∷ more) v) e k.1)

-- following stops at a prefix after which the next token names no child
pub stops_here : (n : NodeMap) (front : List Text) (x : Text) (rest : List Text) (w : Path) → Names n front w → LacksStep n w x → StopsAt n (front ++ x ∷ rest) front w (x ∷ rest)
stops_here n front x rest w h lacks = record {
  split = refl;
  named = h;
  longest = λ longer after v e k. ⊎_elim
      (λ (far : length front < length longer).
      let r = longer_front front x rest longer after e far in
      absurd (no_longer n front x r.0 w v h lacks (subst (λ (ts : List Text). Names n ts v) r.1 k)))
      (λ (near : length longer ≤ length front). near)
      (cases_lt (length front) (length longer));
}

-- the same for tokens that are split so
pub stops_in : (n : NodeMap) (tokens front : List Text) (x : Text) (rest : List Text) (w : Path) → tokens ≡ front ++ x ∷ rest → Names n front w → LacksStep n w x → StopsAt n tokens front w (x ∷ rest)
stops_in n tokens front x rest w e h lacks = subst (λ (ts : List Text). StopsAt n ts front w (x ∷ rest)) (sym e) (stops_here n front x rest w h lacks)

-- a scalar has no child
pub lacks_at_leaf : (n : NodeMap) (w : Path) (x : Text) (v : Scalar) → n w ≡ Some (a_leaf v) → LacksStep n w x
lacks_at_leaf n w x v e s h i = subst (λ (o : Option Label). NamesStep o x s) e h

-- whether a child lacks is seen in the map below w alone
pub lacks_below : (n m : NodeMap) (w : Path) (x : Text) → m ≡ sub n w → LacksStep m [] x → LacksStep n w x
lacks_below n m w x e lacks s h i = subst (λ (k : NodeMap). LacksStep k [] x) e lacks s (subst (λ (o : Option Label). NamesStep o x s) (sym (sub-root n w)) h) i

member_absent : (n : NodeMap) (w : Path) (x : Text) (s : Step) → n (w ++ key x ∷ []) ≡ None → NamesStep (Some an_object) x s → IsSome (n (w ++ s ∷ [])) → ⊥
member_absent n w x (key k) none h i = true≢false (sym (subst (λ (t : Text). is_some (n (w ++ key t ∷ [])) ≡ true) h i) ∙ ap is_some none)
member_absent n w x (place j) none h i = h

-- an object has no member x
pub lacks_at_object : (n : NodeMap) (w : Path) (x : Text) → n w ≡ Some an_object → n (w ++ key x ∷ []) ≡ None → LacksStep n w x
lacks_at_object n w x e none s h i = member_absent n w x s none (subst (λ (o : Option Label). NamesStep o x s) e h) i

place_absent : (len : ℕ) (x : Text) (s : Step) → ((i : ℕ) → i < len → x ≡ dec i → ⊥) → NamesStep (Some (an_array len)) x s → ⊥
place_absent len x (key k) none h = h
place_absent len x (place i) none h = none i h.0 h.1

-- an array has no index of which x is the decimal text
pub lacks_at_array : (n : NodeMap) (w : Path) (x : Text) (len : ℕ) → n w ≡ Some (an_array len) → ((i : ℕ) → i < len → x ≡ dec i → ⊥) → LacksStep n w x
lacks_at_array n w x len e none s h i = place_absent len x s none (subst (λ (o : Option Label). NamesStep o x s) e h)

-- an array has no index i, of which x is the decimal text
pub lacks_past_array : (n : NodeMap) (w : Path) (x : Text) (len i : ℕ) → n w ≡ Some (an_array len) → x ≡ dec i → len ≤ i → LacksStep n w x
lacks_past_array n w x len i e d past = lacks_at_array n w x len e (λ j h f.
    let here : NamesStep (Some (an_array (suc (i + j)))) x (place i) = (omega arith, d) in
    let there : NamesStep (Some (an_array (suc (i + j)))) x (place j) = (omega arith, f) in
    let same : place i ≡ place j = NamesStep_one_step (Some (an_array (suc (i + j)))) x (place i) (place j) here there in
    let one : i ≡ j = cc same in
    omega arith)

-- following stops before x, after a prefix that names w
pub stops_before : (n : NodeMap) (tokens front : List Text) (x : Text) (rest : List Text) (w : Path) (label : Label) → tokens ≡ front ++ x ∷ rest → Names n front w → n w ≡ Some label → LacksStep n w x → StopsBefore n tokens (length front) (length (text front)) label x
stops_before n tokens front x rest w label e h is lacks = record {
  front = front;
  path = w;
  rest = rest;
  stops = stops_in n tokens front x rest w e h lacks;
  label_is = is;
  position_is = refl;
  offset_is = refl;
}

-- and only so: where following stops, no child is the one that the next token names
pub stops-lacks : (n : NodeMap) (tokens front : List Text) (x : Text) (rest : List Text) (w : Path) → StopsAt n tokens front w (x ∷ rest) → LacksStep n w x
stops-lacks n tokens front x rest w r s h i =
    let split : tokens ≡ (front ++ x ∷ []) ++ rest = r.split ∙ sym (append_assoc front (x ∷ []) rest) in
    let more : length (front ++ x ∷ []) ≤ length front = r.longest (front ++ x ∷ []) rest (w ++ s ∷ []) split (Names-push n front x w s r.named h i) in
    let long : length (front ++ x ∷ []) ≡ length front + 1 = length-append front (x ∷ []) in
    omega arith

-- so it stops where the prefix names a path, and the next token no child there
pub StopsAt-iff : (n : NodeMap) (tokens front : List Text) (x : Text) (rest : List Text) (w : Path) → StopsAt n tokens front w (x ∷ rest) ↔ ((tokens ≡ front ++ x ∷ rest) × Names n front w × LacksStep n w x)
StopsAt-iff n tokens front x rest w = (λ r. (r.split, r.named, stops-lacks n tokens front x rest w r), λ r. stops_in n tokens front x rest w r.0 r.1 r.2)

-- one position to stop

-- following stops at one prefix, with one path and one rest
pub StopsAt_one : (n : NodeMap) (tokens f g : List Text) (w v : Path) (r q : List Text) → StopsAt n tokens f w r → StopsAt n tokens g v q → (f ≡ g) × (w ≡ v) × (r ≡ q)
StopsAt_one n tokens f g w v r q a b =
    let above : length g ≤ length f = a.longest g q v b.split b.named in
    let below : length f ≤ length g = b.longest f r w a.split a.named in
    let same = same_front f g r q (sym a.split ∙ b.split) (omega arith) in
    (same.0, Names_one_path n g w v (subst (λ (ts : List Text). Names n ts w) same.0 a.named) b.named, same.1)

-- following stops before one token, at one position, one offset and one label
pub StopsBefore_one : (n : NodeMap) (tokens : List Text) (p q o u : ℕ) (l m : Label) (x y : Text) → StopsBefore n tokens p o l x → StopsBefore n tokens q u m y → (p ≡ q) × (o ≡ u) × (l ≡ m) × (x ≡ y)
StopsBefore_one n tokens p q o u l m x y a b =
    let same = StopsAt_one n tokens a.front b.front a.path b.path (x ∷ a.rest) (y ∷ b.rest) a.stops b.stops in
    let label : Some l ≡ Some m = sym a.label_is ∙ ap n same.1 ∙ b.label_is in
    let head : x ∷ a.rest ≡ y ∷ b.rest = same.2 in
    (a.position_is ∙ ap (λ (ts : List Text). length ts) same.0 ∙ sym b.position_is, a.offset_is ∙ ap (λ (ts : List Text). length (text ts)) same.0 ∙ sym b.offset_is, cc label, cc head)

-- tokens find one map
pub Finds_one : (n : NodeMap) (tokens : List Text) (m k : NodeMap) → Finds n tokens m → Finds n tokens k → m ≡ k
Finds_one n tokens m k a b = a.below ∙ ap (sub n) (Names_one_path n tokens a.path b.path a.named b.named) ∙ sym b.below

-- tokens that name a path stop before no token
pub Names-StopsBefore : (n : NodeMap) (tokens : List Text) (w : Path) (p o : ℕ) (l : Label) (x : Text) → Names n tokens w → StopsBefore n tokens p o l x → ⊥
Names-StopsBefore n tokens w p o l x h r =
    let all : length tokens ≤ length r.front = r.stops.longest tokens [] w (sym (append-nil tokens)) h in
    let long : length (r.front ++ x ∷ r.rest) ≡ length r.front + length (x ∷ r.rest) = length-append r.front (x ∷ r.rest) in
    let same : length tokens ≡ length (r.front ++ x ∷ r.rest) = ap (λ (ts : List Text). length ts) r.stops.split in
    omega arith

-- tokens that find a map stop before no token
pub Finds-StopsBefore : (n : NodeMap) (tokens : List Text) (m : NodeMap) (p o : ℕ) (l : Label) (x : Text) → Finds n tokens m → StopsBefore n tokens p o l x → ⊥
Finds-StopsBefore n tokens m p o l x a r = Names-StopsBefore n tokens a.path p o l x a.named r

-- what the label says of the token that following stops before

-- at an object, no member is the token's
pub StopsBefore-object : (n : NodeMap) (tokens : List Text) (p o : ℕ) (x : Text) (r : StopsBefore n tokens p o an_object x) → IsSome (n (r.path ++ key x ∷ [])) → ⊥
StopsBefore-object n tokens p o x r i = stops-lacks n tokens r.front x r.rest r.path r.stops (key x) (subst (λ (l : Option Label). NamesStep l x (key x)) (sym r.label_is) refl) i

-- at an array of a tree, the token is not the decimal text of an index
pub StopsBefore-array : (n : NodeMap) (tokens : List Text) (p o len i : ℕ) (x : Text) → IsTree n → StopsBefore n tokens p o (an_array len) x → i < len → x ≡ dec i → ⊥
StopsBefore-array n tokens p o len i x tree r h e = stops-lacks n tokens r.front x r.rest r.path r.stops (place i) (subst (λ (l : Option Label). NamesStep l x (place i)) (sym r.label_is) (h, e)) (tree.full r.path len i r.label_is h)

-- that following ends

cases_text : (x y : Text) → (x ≡ y) ⊎ (x ≡ y → ⊥)
cases_text x y = go (bytes_eq x y) refl
  where
    go : (b : Bool) → bytes_eq x y ≡ b → (x ≡ y) ⊎ (x ≡ y → ⊥)
    go true e = inl ((bytes_eq-Decides x y).0 e)
    go false e = inr (λ h. true≢false (sym ((bytes_eq-Decides x y).1 h) ∙ e))

-- some number below len has this decimal text, or none has
pub cases_dec : (len : ℕ) (x : Text) → ((i : ℕ) × (i < len) × (x ≡ dec i)) ⊎ ((i : ℕ) → i < len → x ≡ dec i → ⊥)
cases_dec zero x = inr (λ i h e. omega arith)
cases_dec (suc len) x = go (cases_dec len x) (cases_text x (dec len))
  where
    go : ((i : ℕ) × (i < len) × (x ≡ dec i)) ⊎ ((i : ℕ) → i < len → x ≡ dec i → ⊥) → (x ≡ dec len) ⊎ (x ≡ dec len → ⊥) → ((i : ℕ) × (i < suc len) × (x ≡ dec i)) ⊎ ((i : ℕ) → i < suc len → x ≡ dec i → ⊥)
    go (inl r) other = inl (r.0, omega arith, r.2)
    go (inr none) (inl here) = inl (len, omega arith, here)
    go (inr none) (inr away) = inr (λ i h e. ⊎_elim (λ (below : i < len). none i below e) (λ (at : len ≤ i). away (e ∙ ap dec (last i h at))) (cases_lt i len))
      where
        last : (i : ℕ) → i < suc len → len ≤ i → i ≡ len
        last i h at = omega arith

-- a node is there, or none is
pub cases_some : {A : Type 0} (o : Option A) → IsSome o ⊎ (o ≡ None)
cases_some None = inr refl
cases_some (Some a) = inl refl

-- the label of a node
pub the_label : (o : Option Label) → IsSome o → (l : Label) × (o ≡ Some l)
the_label None h = absurd (true≢false (sym h))
the_label (Some l) h = (l, refl)

-- at a tree, some child is the one that the token x names, or none is
pub cases_step : (n : NodeMap) (w : Path) (x : Text) → IsTree n → ((s : Step) × NamesStep (n w) x s × IsSome (n (w ++ s ∷ []))) ⊎ LacksStep n w x
cases_step n w x tree = go (n w) refl
  where
    member : n w ≡ Some an_object → IsSome (n (w ++ key x ∷ [])) ⊎ (n (w ++ key x ∷ []) ≡ None) → ((s : Step) × NamesStep (n w) x s × IsSome (n (w ++ s ∷ []))) ⊎ LacksStep n w x
    member e (inl there) = inl (key x, subst (λ (l : Option Label). NamesStep l x (key x)) (sym e) refl, there)
    member e (inr none) = inr (lacks_at_object n w x e none)

    element : (len : ℕ) → n w ≡ Some (an_array len) → ((i : ℕ) × (i < len) × (x ≡ dec i)) ⊎ ((i : ℕ) → i < len → x ≡ dec i → ⊥) → ((s : Step) × NamesStep (n w) x s × IsSome (n (w ++ s ∷ []))) ⊎ LacksStep n w x
    element len e (inl r) = inl (place r.0, subst (λ (l : Option Label). NamesStep l x (place r.0)) (sym e) (r.1, r.2), tree.full w len r.0 e r.1)
    element len e (inr none) = inr (lacks_at_array n w x len e none)

    go : (o : Option Label) → n w ≡ o → ((s : Step) × NamesStep (n w) x s × IsSome (n (w ++ s ∷ []))) ⊎ LacksStep n w x
    go None e = inr (λ s h i. subst (λ (l : Option Label). NamesStep l x s) e h)
    go (Some an_object) e = member e (cases_some (n (w ++ key x ∷ [])))
    go (Some (an_array len)) e = element len e (cases_dec len x)
    go (Some (a_leaf v)) e = inr (lacks_at_leaf n w x v e)

-- after a prefix that names w, the tokens name a path, or following stops before one of them
Follows : NodeMap → List Text → Type 0
Follows n tokens = ((w : Path) × Names n tokens w) ⊎ ((p o : ℕ) × (l : Label) × (x : Text) × StopsBefore n tokens p o l x)

goes_on : (n : NodeMap) → IsTree n → (rest front : List Text) (w : Path) → Names n front w → Follows n (front ++ rest)
unfolding Follows
goes_on n tree [] front w h = inl (w, subst (λ (ts : List Text). Names n ts w) (sym (append-nil front)) h)
goes_on n tree (x ∷ rest) front w h = ⊎_elim
    (λ (r : (s : Step) × NamesStep (n w) x s × IsSome (n (w ++ s ∷ []))). subst (Follows n) (append_assoc front (x ∷ []) rest) (goes_on n tree rest (front ++ x ∷ []) (w ++ r.0 ∷ []) (Names-push n front x w r.0 h r.1 r.2)))
    (λ (lacks : LacksStep n w x).
    let l = the_label (n w) (Names-here n front w h) in
    inr (length front, length (text front), l.0, x, stops_before n (front ++ x ∷ rest) front x rest w l.0 refl h l.1 lacks))
    (cases_step n w x tree)

-- into a tree, each list of tokens names a path, or following stops before one of them
pub follows : (n : NodeMap) (tokens : List Text) → IsTree n → ((w : Path) × Names n tokens w) ⊎ ((p o : ℕ) × (l : Label) × (x : Text) × StopsBefore n tokens p o l x)
unfolding Follows
follows n tokens tree = goes_on n tree tokens [] [] tree.root

-- in a tree, the lists that find something and the paths are paired off
pub one_each : (n : NodeMap) → IsTree n → PairsOff n (λ (xs : List Text). (m : NodeMap) × Finds n xs m) (λ (w : Path). IsSome (n w))
one_each n tree = record {
  path = λ xs h. (h.1.path, Names-here n xs h.1.path h.1.named, h.1.named, λ v k. Names_one_path n xs v h.1.path k h.1.named);
  list = λ w i.
      let r = IsTree-named n tree w i in
      (r.0, (sub n w, record { path = w; named = r.1; below = refl }), r.1, λ ys k. Names_one_list n ys r.0 w k r.1);
}
