-- The value in the highest of some layers, and which tokens an assignment does not affect.
use Rattle.std.proofs.Common.{◌≡◌, ℕ, zero, suc, ◌<◌, ◌+◌, max, ◌⊎◌, inl, inr, Bool, true, false, cond, ◌||◌, bytes_eq, codes, List, [], ◌∷◌, ◌++◌, Option, Some, None, IsSome, length, get_or, take, drop, take-append-drop, refl, sym, ap, ap₂, subst, ◌∙◌, arith, append_assoc, append-nil, true≢false}
use mathlib.Core.Path.{fun_ext}
use Rattle.std.specs.List.{All}
use Rattle.std.proofs.lemmas.List.{drop_more}
use Rattle.std.proofs.lemmas.List.Elements.{All-weaker}
use Rattle.std.proofs.lemmas.Slice.Eq.{bytes_eq-Decides}
use Rattle.jsonptr.specs.Text.{Text, dec}
use Rattle.jsonptr.specs.Parts.{BeginsWith}
use Rattle.jsonptr.specs.Node.{Step, key, place, Path, Label, an_object, an_array, a_leaf, NodeMap, sub, NamesStep, Names, MayHave, IsTree}
use Rattle.jsonptr.specs.Following.{Finds, StopsAt, LacksStep}
use Rattle.jsonptr.specs.Put.{GoesThrough, same_step, rest_after}
use Rattle.jsonptr.specs.Expansion.{is_append_index, with_one, expanded, LacksDash}
use Rattle.jsonptr.specs.Landing.{LandsFrom}
use Rattle.jsonptr.specs.Assigning.{long_enough, with_room, Assigns}
use Rattle.jsonptr.specs.Delete.{NamesNothing}
use Rattle.jsonptr.proofs.Calling.{Names-root, Names-here, Names_one_list, stops-lacks, Assigns-frame}
use Rattle.jsonptr_uses.specs.Settings.{IsHighest, IsAnswer, IsApart, IsLocationOf, IsSetAt}
use Rattle.jsonptr_text_paths.specs.PrivateWalking.{token_of, tokens_to}
use Rattle.jsonptr_text_paths.proofs.WalkingLemmas.{tokens_are, named_by_steps}

-- layers

-- the value of the layer at this position is the result, if those before it lack one
pub highest_here : {L V : Type 0} (has : L → V → Type 0) (lacks : L → Type 0) (layers : List L) (i : ℕ) (layer : L) (v : V) → i < length layers → layer ≡ get_or layers i layer → All lacks (take i layers) → has layer v → IsHighest has lacks layers v
highest_here has lacks layers i layer v inside read lacking there = record {
  above = take i layers;
  layer = layer;
  below = drop (i + 1) layers;
  split = sym (take-append-drop i layers) ∙ ap (λ ls. take i layers ++ ls) (drop_more layers i layer inside ∙ ap (λ l. l ∷ drop (i + 1) layers) (sym read));
  lacking = lacking;
  there = there;
}

-- a result with a weaker property of the layers that lack a value
pub answer_weaker : {L V : Type 0} (has : L → V → Type 0) (lacks misses : L → Type 0) → ((l : L) → lacks l → misses l) → (layers : List L) (answer : Option V) → IsAnswer has lacks layers answer → IsAnswer has misses layers answer
answer_weaker has lacks misses weaker layers None all = All-weaker lacks misses weaker layers all
answer_weaker has lacks misses weaker layers (Some v) found = record {
  above = found.above;
  layer = found.layer;
  below = found.below;
  split = found.split;
  lacking = All-weaker lacks misses weaker found.above found.lacking;
  there = found.there;
}

-- tokens

-- a prefix of tokens that evaluate to a path through q evaluates to q
names_cut : (n : NodeMap) (xs : List Text) (q u : Path) → Names n xs (q ++ u) → (ys zs : List Text) × (xs ≡ ys ++ zs) × Names n ys q × Names (sub n q) zs u
names_cut n xs [] u h = ([], xs, refl, Names-root n xs u h, h)
names_cut n [] (s ∷ q) u h = absurd h
names_cut n (x ∷ xs) (s ∷ q) u h =
    let r = names_cut (sub n (s ∷ [])) xs q u h.1 in
    (x ∷ r.0, r.1, ap (λ l. x ∷ l) r.2, (h.0, r.3), r.4)

-- so tokens that evaluate to a path through that of a prefix begin with that prefix
begins : (n : NodeMap) (front others : List Text) (w u : Path) → Names n front w → Names n others (w ++ u) → (zs : List Text) × (others ≡ front ++ zs) × Names (sub n w) zs u
begins n front others w u named through =
    let r = names_cut n others w u through in
    (r.1, r.2 ∙ ap (λ l. l ++ r.1) (Names_one_list n r.0 front w r.3 named), r.4)

-- and a path on the way to that of a prefix is that of a shorter prefix
is_begun : (n : NodeMap) (front others : List Text) (q u : Path) → Names n others q → Names n front (q ++ u) → BeginsWith front others
is_begun n front others q u named through =
    let r = begins n others front q u named through in
    (r.0, r.1)

-- a prefix of a list with one more element is that list, or a prefix of the list
fronts : {A : Type 0} (w : List A) (s : A) (q u : List A) → w ++ s ∷ [] ≡ q ++ u → ((v : List A) × (w ≡ q ++ v)) ⊎ (q ≡ w ++ s ∷ [])
fronts [] s [] u e = inl ([], refl)
fronts [] s (t ∷ []) u e = inr cc
fronts [] s (t ∷ r ∷ q) u e = absurd (cc)
fronts (t ∷ w) s [] u e = inl (t ∷ w, refl)
fronts (t ∷ w) s (r ∷ q) u e = elim (fronts w s q u cc) [
  | inl h ↦ inl (h.0, cc)
  | inr h ↦ inr cc
]

-- the location of an assigned value

-- no token leads below a scalar
ends_at_leaf : (o : Option Label) (n : NodeMap) (ys : List Text) (u : Path) → o ≡ n [] → ((y : Text) (s : Step) → NamesStep o y s → ⊥) → Names n ys u → ys ≡ []
ends_at_leaf o n [] u root none h = refl
ends_at_leaf o n (y ∷ ys) [] root none h = absurd h
ends_at_leaf o n (y ∷ ys) (s ∷ u) root none h = absurd (none y s (subst (λ (l : Option Label). NamesStep l y s) (sym root) h.0))

-- no tokens lead to a node that does not exist, or below it
new_unnamed : (n : NodeMap) (front others : List Text) (w : Path) (s : Step) (u : Path) → Names n front w → ((y : Text) → NamesStep (n w) y s → IsSome (n (w ++ s ∷ [])) → ⊥) → Names n others (w ++ s ∷ u) → ⊥
new_unnamed n front others w s u named none through =
    let r = begins n front others w (s ∷ u) named through in
    at r.0 r.2
  where
    at : (ys : List Text) → Names (sub n w) ys (s ∷ u) → ⊥
    at [] h = h
    at (y ∷ ys) h =
        none y (subst (λ (v : Path). NamesStep (n v) y s) (append-nil w) h.0) (Names-root (sub (sub n w) (s ∷ [])) ys u h.1)

-- a prefix of a prefix
begins_longer : (tokens front rest others : List Text) → tokens ≡ front ++ rest → BeginsWith front others → BeginsWith tokens others
begins_longer tokens front rest others split h =
    (h.0 ++ rest, split ∙ ap (λ l. l ++ rest) h.1 ∙ append_assoc others h.0 rest)

abbrev Clear : Path → Path → Type 0
Clear p q = (GoesThrough p q → ⊥) × (GoesThrough q p → ⊥)

-- the path of tokens that are apart from those of a prefix is not on the way to the path w of that prefix
not_on_the_way : (n : NodeMap) (tokens front rest others : List Text) (w q : Path) → tokens ≡ front ++ rest → Names n front w → Names n others q → IsApart others tokens → GoesThrough w q → ⊥
not_on_the_way n tokens front rest others w q split named there apart h =
    apart.not_above (begins_longer tokens front rest others split (is_begun n front others q h.0 there (subst (λ (v : Path). Names n front v) h.1 named)))

-- nor is it on the way to a new step from w, nor below it
clear_of_new : (n : NodeMap) (tokens front rest others : List Text) (w q : Path) (s : Step) → tokens ≡ front ++ rest → Names n front w → ((y : Text) → NamesStep (n w) y s → IsSome (n (w ++ s ∷ [])) → ⊥) → Names n others q → IsApart others tokens → Clear (w ++ s ∷ []) q
clear_of_new n tokens front rest others w q s split named none there apart = (above, below)
  where
    above : GoesThrough (w ++ s ∷ []) q → ⊥
    above h = elim (fronts w s q h.0 h.1) [
      | inl r ↦ not_on_the_way n tokens front rest others w q split named there apart r
      | inr r ↦ new_unnamed n front others w s [] named none (subst (λ (v : Path). Names n others v) r there)
    ]

    below : GoesThrough q (w ++ s ∷ []) → ⊥
    below h = new_unnamed n front others w s h.0 named none (subst (λ (v : Path). Names n others v) (h.1 ∙ append_assoc w (s ∷ []) h.0) there)

-- nor on the way to w or below it, if no tokens are left, or w is a scalar
clear_of_there : (n : NodeMap) (tokens front rest others : List Text) (w q : Path) → tokens ≡ front ++ rest → Names n front w → ((ys : List Text) (u : Path) → Names (sub n w) ys u → (rest ≡ []) ⊎ (ys ≡ [])) → Names n others q → IsApart others tokens → Clear w q
clear_of_there n tokens front rest others w q split named ends there apart = (not_on_the_way n tokens front rest others w q split named there apart, below)
  where
    below : GoesThrough q w → ⊥
    below h =
        let r = begins n front others w h.0 named (subst (λ (v : Path). Names n others v) h.1 there) in
        elim (ends r.0 h.0 r.2) [
          | inl none ↦ apart.not_below (r.0, r.1 ∙ ap (λ l. l ++ r.0) (sym (split ∙ ap (λ l. front ++ l) none ∙ append-nil front)))
          | inr none ↦ apart.not_above (rest, split ∙ ap (λ l. l ++ rest) (sym (r.1 ∙ ap (λ l. front ++ l) none ∙ append-nil front)))
        ]

clear_from : (n : NodeMap) (tokens at front rest more others : List Text) (w p q : Path) (left : List Text) (o : Option Label) → n w ≡ o → StopsAt n tokens front w rest → at ≡ front ++ more → (rest ≡ [] → more ≡ []) → LandsFrom w o rest p left → Names n others q → IsApart others at → Clear p q
clear_from n tokens at front [] more others w p q left o label stops split none lands there apart =
    subst (λ (v : Path). Clear v q) (sym lands.0) (clear_of_there n at front more others w q split stops.named (λ ys u h. inl (none refl)) there apart)
clear_from n tokens at front (x ∷ rest) more others w p q left None label stops split none lands there apart = absurd lands
clear_from n tokens at front (x ∷ rest) more others w p q left (Some an_object) label stops split none lands there apart =
    let lacks : LacksStep n w x = stops-lacks n tokens front x rest w stops in
    let taken : NamesStep (n w) x (key x) = subst (λ (l : Option Label). NamesStep l x (key x)) (sym label) refl in
    subst (λ (v : Path). Clear v q) (sym lands.0) (clear_of_new n at front more others w q (key x) split stops.named (λ y step some. lacks (key x) taken some) there apart)
clear_from n tokens at front (x ∷ rest) more others w p q left (Some (an_array len)) label stops split none lands there apart =
    subst (λ (v : Path). Clear v q) (sym lands.1) (clear_of_new n at front more others w q (place len) split stops.named (λ y step some. beyond y step) there apart)
  where
    beyond : (y : Text) → NamesStep (n w) y (place len) → ⊥
    beyond y step =
        let taken : NamesStep (Some (an_array len)) y (place len) = subst (λ (l : Option Label). NamesStep l y (place len)) label step in
        let inside : len < len = taken.0 in
        absurd (omega arith)
clear_from n tokens at front (x ∷ rest) more others w p q left (Some (a_leaf v)) label stops split none lands there apart =
    subst (λ (v : Path). Clear v q) (sym lands.0) (clear_of_there n at front more others w q split stops.named (λ ys u h. inr (ends_at_leaf (Some (a_leaf v)) (sub n w) ys u (sym label ∙ ap n (sym (append-nil w))) (λ y s step. step) h)) there apart)

-- tokens that resolve, and are apart from a list that continues after where evaluation stops, resolve to the same
kept_apart : (n : NodeMap) (tokens : List Text) (v m : NodeMap) (old : Option NodeMap) (r : Assigns n tokens v m old) (at more : List Text) → at ≡ r.lands.front ++ more → (r.lands.rest ≡ [] → more ≡ []) → (others : List Text) (k : NodeMap) → IsApart others at → Finds n others k → Finds m others k
kept_apart n tokens v m old r at more split none others k apart found =
    let lands = r.lands in
    let clear = clear_from n tokens at lands.front lands.rest more others lands.path r.path found.path r.left (n lands.path) refl lands.stops split none lands.lands found.named apart in
    let kept = Assigns-frame n tokens v m old r others found.path found.named clear.0 clear.1 in
    record {
      path = found.path;
      named = kept.0;
      below = found.below ∙ sym kept.1;
    }

-- and so do those that are apart from the tokens of the assignment
pub assigned_apart : (n : NodeMap) (tokens : List Text) (v m : NodeMap) (old : Option NodeMap) → Assigns n tokens v m old → (others : List Text) (k : NodeMap) → IsApart others tokens → Finds n others k → Finds m others k
assigned_apart n tokens v m old r = kept_apart n tokens v m old r tokens r.lands.rest r.lands.stops.split (λ e. e)

-- the location as tokens

-- the location of no tokens is no tokens
no_place : (ys : List Text) → IsLocationOf [] ys → ys ≡ []
no_place [] h = refl
no_place (y ∷ ys) h = absurd h

-- after a common prefix
place_behind : (front rest more : List Text) → IsLocationOf rest more → IsLocationOf (front ++ rest) (front ++ more)
place_behind [] rest more h = h
place_behind (x ∷ front) rest more h = (inl refl, place_behind front rest more h)

-- tokens without `-` are their own location
plain_place : (xs ys : List Text) → LacksDash xs → IsLocationOf xs ys → ys ≡ xs
plain_place [] [] dash h = refl
plain_place [] (y ∷ ys) dash h = absurd h
plain_place (x ∷ xs) [] dash h = absurd h
plain_place (x ∷ xs) (y ∷ ys) dash h =
    let rest : ys ≡ xs = plain_place xs ys (λ front more e. dash (x ∷ front) more (ap (λ l. x ∷ l) e)) h.1 in
    let first : y ≡ x = elim h.0 [
      | inl e ↦ e
      | inr e ↦ absurd (dash [] xs (ap (λ t. t ∷ xs) e.0))
    ] in
    ap₂ (λ t ts. t ∷ ts) first rest

-- the token `-` represents the index after the last element
end_place : (len : ℕ) (x : Text) → is_append_index len x ≡ true → (dec len ≡ x) ⊎ ((x ≡ codes "-") × (i : ℕ) × (dec len ≡ dec i))
end_place len x = by (bytes_eq x (codes "-")) refl
  where
    by : (b : Bool) → bytes_eq x (codes "-") ≡ b → (b || bytes_eq x (dec len)) ≡ true → (dec len ≡ x) ⊎ ((x ≡ codes "-") × (i : ℕ) × (dec len ≡ dec i))
    by true e h = inr ((bytes_eq-Decides x (codes "-")).0 e, len, refl)
    by false e h = inl (sym ((bytes_eq-Decides x (dec len)).0 h))

tokens_append : (w u : Path) → tokens_to (w ++ u) ≡ tokens_to w ++ tokens_to u
tokens_append [] u = refl
tokens_append (s ∷ w) u = ap (λ l. token_of s ∷ l) (tokens_append w u)

-- the expanded value

-- the tokens evaluate to v in g, and each node of g is on the way there or below it
record Expands (xs : List Text) (g v : NodeMap) : Type 0 where
  path : Path
  reads : IsLocationOf xs (tokens_to path)
  below : sub g path ≡ v
  all : (u : Path) → IsSome (g u) → Clear path u → ⊥

-- a node with one child around it
expands_one : (l : Label) (s : Step) (x : Text) (xs : List Text) (g v : NodeMap) → (token_of s ≡ x) ⊎ ((x ≡ codes "-") × (i : ℕ) × (token_of s ≡ dec i)) → same_step s s ≡ true → ((t : Step) → same_step s t ≡ true → s ≡ t) → Expands xs g v → Expands (x ∷ xs) (with_one l s g) v
expands_one l s x xs g v read same one r = record {
  path = s ∷ r.path;
  reads = (read, r.reads);
  below = ap (λ (k : NodeMap). sub k r.path) here ∙ r.below;
  all = all;
}
  where
    here : sub (with_one l s g) (s ∷ []) ≡ g
    here = fun_ext (λ (p : Path). ap (λ (b : Bool). cond b (g p) None) same)

    on : (t : Step) (p q : Path) → s ≡ t → GoesThrough p q → GoesThrough (s ∷ p) (t ∷ q)
    on t p q e c = (c.0, ap₂ (λ a w. a ∷ w) e c.1)

    back : (t : Step) (p q : Path) → s ≡ t → GoesThrough p q → GoesThrough (t ∷ p) (s ∷ q)
    back t p q e c = (c.0, ap₂ (λ a w. a ∷ w) (sym e) c.1)

    child : (t : Step) (u : Path) (b : Bool) → same_step s t ≡ b → IsSome (cond b (g u) None) → Clear (s ∷ r.path) (t ∷ u) → ⊥
    child t u true e some clear = r.all u some (λ c. clear.0 (on t r.path u (one t e) c), λ c. clear.1 (back t u r.path (one t e) c))
    child t u false e some clear = true≢false (sym some)

    all : (u : Path) → IsSome (with_one l s g u) → Clear (s ∷ r.path) u → ⊥
    all [] some clear = clear.0 (s ∷ r.path, refl)
    all (t ∷ u) some clear = child t u (same_step s t) refl some clear

first_place : (t : Step) → same_step (place 0) t ≡ true → place 0 ≡ t
first_place (key k) e = absurd (true≢false (sym e))
first_place (place zero) e = refl
first_place (place (suc j)) e = absurd (true≢false (sym e))

one_key : (x : Text) (t : Step) → same_step (key x) t ≡ true → key x ≡ t
one_key x (key k) e = ap key ((bytes_eq-Decides x k).0 e)
one_key x (place j) e = absurd (true≢false (sym e))

expands : (xs : List Text) (v : NodeMap) → Expands xs (expanded xs v) v
expands [] v = record { path = []; reads = tt; below = refl; all = λ u some clear. clear.1 (u, refl) }
expands (x ∷ xs) v = by (is_append_index 0 x) refl (expands xs v)
  where
    by : (b : Bool) → is_append_index 0 x ≡ b → Expands xs (expanded xs v) v → Expands (x ∷ xs) (cond b (with_one (an_array 1) (place 0) (expanded xs v)) (with_one an_object (key x) (expanded xs v))) v
    by true e r = expands_one (an_array 1) (place 0) x xs (expanded xs v) v (end_place 0 x e) refl first_place r
    by false e r = expands_one an_object (key x) x xs (expanded xs v) v (inl refl) ((bytes_eq-Decides x x).1 refl) (one_key x) r

-- the tokens that are left lead from where evaluation stops to the location
landing : (w : Path) (o : Option Label) (rest : List Text) (p : Path) (left : List Text) → LandsFrom w o rest p left → (g : Path) → IsLocationOf left (tokens_to g) → (u : Path) × (p ++ g ≡ w ++ u) × IsLocationOf rest (tokens_to u)
landing w o [] p left lands g reads = (g, ap (λ a. a ++ g) lands.0, subst (λ (ts : List Text). IsLocationOf ts (tokens_to g)) lands.1 reads)
landing w None (x ∷ rest) p left lands g reads = absurd lands
landing w (Some an_object) (x ∷ rest) p left lands g reads = (key x ∷ g, ap (λ a. a ++ g) lands.0 ∙ append_assoc w (key x ∷ []) g, (inl refl, subst (λ (ts : List Text). IsLocationOf ts (tokens_to g)) lands.1 reads))
landing w (Some (an_array len)) (x ∷ rest) p left lands g reads = (place len ∷ g, ap (λ a. a ++ g) lands.1 ∙ append_assoc w (place len ∷ []) g, (end_place len x lands.0, subst (λ (ts : List Text). IsLocationOf ts (tokens_to g)) lands.2 reads))
landing w (Some (a_leaf v)) (x ∷ rest) p left lands g reads = (g, ap (λ a. a ++ g) lands.0, subst (λ (ts : List Text). IsLocationOf ts (tokens_to g)) lands.1 reads)

-- which nodes have tokens afterwards

-- tokens evaluate to the same path in another map, if each step to a node is selected there, too
along : (n m : NodeMap) (xs : List Text) (q : Path) → ((u : Path) (t : Step) (v : Path) (x : Text) → q ≡ u ++ t ∷ v → NamesStep (n u) x t → IsSome (n (u ++ t ∷ [])) → NamesStep (m u) x t) → (IsSome (n q) → IsSome (m q)) → Names n xs q → Names m xs q
along n m [] [] step here h = here h
along n m [] (t ∷ q) step here h = absurd h
along n m (x ∷ xs) [] step here h = absurd h
along n m (x ∷ xs) (t ∷ q) step here h = (
  step [] t q x refl h.0 (Names-root (sub n (t ∷ [])) xs q h.1),
  along (sub n (t ∷ [])) (sub m (t ∷ [])) xs q (λ u s v y e. step (t ∷ u) s v y (ap (λ p. t ∷ p) e)) here h.1,
)

-- with room for an index an array may be longer, and everything else is unchanged
room : (r : Option Path) (o : Option Label) → (long_enough r o ≡ o) ⊎ ((len more : ℕ) × (o ≡ Some (an_array len)) × (long_enough r o ≡ Some (an_array more)))
room None o = inl refl
room (Some []) o = inl refl
room (Some (key k ∷ p)) o = inl refl
room (Some (place i ∷ p)) None = inl refl
room (Some (place i ∷ p)) (Some an_object) = inl refl
room (Some (place i ∷ p)) (Some (an_array len)) = inr (len, max len (suc i), refl, refl)
room (Some (place i ∷ p)) (Some (a_leaf v)) = inl refl

-- so no node is new
old_node : (r : Option Path) (o : Option Label) → IsSome (long_enough r o) → IsSome o
old_node r o some = elim (room r o) [
  | inl e ↦ subst (λ (l : Option Label). IsSome l) e some
  | inr a ↦ subst (λ (l : Option Label). IsSome l) (sym a.2) refl
]

array_step : (len more : ℕ) (x : Text) (t : Step) → NamesStep (Some (an_array more)) x t → MayHave (Some (an_array len)) t → NamesStep (Some (an_array len)) x t
array_step len more x (key k) h may = absurd h
array_step len more x (place i) h may = (may, h.1)

-- and a step to a child that may exist was selected before
old_step : (r : Option Path) (o : Option Label) (x : Text) (t : Step) → NamesStep (long_enough r o) x t → MayHave o t → NamesStep o x t
old_step r o x t h may = elim (room r o) [
  | inl e ↦ subst (λ (l : Option Label). NamesStep l x t) e h
  | inr a ↦ subst (λ (l : Option Label). NamesStep l x t) (sym a.2) (array_step a.0 a.1 x t (subst (λ (l : Option Label). NamesStep l x t) a.3 h) (subst (λ (l : Option Label). MayHave l t) a.2 may))
]

-- tokens that evaluate to a path afterwards, and not to one below p, which alone is new, did so before
was_named : (n m : NodeMap) (p : Path) → IsTree n → ((u : Path) → (GoesThrough u p → ⊥) → m u ≡ with_room n p u) → (others : List Text) (q : Path) → Names m others q → (GoesThrough q p → ⊥) → Names n others q
was_named n m p tree outside others q named away = along m n others q step (there q away) named
  where
    there : (u : Path) → (GoesThrough u p → ⊥) → IsSome (m u) → IsSome (n u)
    there u h some = old_node (rest_after u p) (n u) (subst (λ (l : Option Label). IsSome l) (outside u h) some)

    above : (u v : Path) → q ≡ u ++ v → GoesThrough u p → ⊥
    above u v e h = away (h.0 ++ v, e ∙ ap (λ w. w ++ v) h.1 ∙ append_assoc p h.0 v)

    step : (u : Path) (t : Step) (v : Path) (x : Text) → q ≡ u ++ t ∷ v → NamesStep (m u) x t → IsSome (m (u ++ t ∷ [])) → NamesStep (n u) x t
    step u t v x e h some =
        let child = there (u ++ t ∷ []) (above (u ++ t ∷ []) v (e ∙ sym (append_assoc u (t ∷ []) v))) some in
        old_step (rest_after u p) (n u) x t (subst (λ (l : Option Label). NamesStep l x t) (outside u (above u (t ∷ v) e)) h) (tree.parent u t child)

-- the location

-- the path of tokens that are apart from those of the location is not on the way to the assigned value, nor below it
clear_after : (m : NodeMap) (p : Path) (left : List Text) (v : NodeMap) (g : Expands left (expanded left v) v) (at others : List Text) (q : Path) → ((u : Path) → m (p ++ u) ≡ expanded left v u) → Names m at (p ++ g.path) → Names m others q → IsApart others at → Clear p q
clear_after m p left v g at others q inside there named apart = (above, below)
  where
    -- q is not on the way to the location, however that continues after p
    on_the_way : (u : Path) → p ++ g.path ≡ q ++ u → ⊥
    on_the_way u e = apart.not_above (is_begun m at others q u named (subst (λ (w : Path). Names m at w) e there))

    above : GoesThrough p q → ⊥
    above h = on_the_way (h.0 ++ g.path) (ap (λ w. w ++ g.path) h.1 ∙ append_assoc q h.0 g.path)

    below : GoesThrough q p → ⊥
    below h = g.all h.0 (subst (λ (l : Option Label). IsSome l) (ap m h.1 ∙ inside h.0) (Names-here m others q named)) (
      λ c. on_the_way c.0 (ap (λ w. p ++ w) c.1 ∙ sym (append_assoc p h.0 c.0) ∙ ap (λ w. w ++ c.0) (sym h.1)),
      λ c. apart.not_below (is_begun m others at (p ++ g.path) c.0 there (subst (λ (w : Path). Names m others w) (h.1 ∙ ap (λ w. p ++ w) c.1 ∙ sym (append_assoc p g.path c.0)) named)),
    )

-- one list of tokens resolves to the value afterwards, and each list apart from it resolves to the same as before
pub set_at : (n : NodeMap) (tokens : List Text) (v m : NodeMap) (old : Option NodeMap) (r : Assigns n tokens v m old) → IsTree n → IsTree m → IsSome (v []) → ((u : Path) → m (r.path ++ u) ≡ expanded r.left v u) × ((u : Path) → (GoesThrough u r.path → ⊥) → m u ≡ with_room n r.path u) → (at : List Text) × IsLocationOf tokens at × IsSetAt n at v m
set_at n tokens v m old r tree after some made =
    let lands = r.lands in
    let g = expands r.left v in
    let goal : Path = r.path ++ g.path in
    let down = landing lands.path (n lands.path) lands.rest r.path r.left lands.lands g.path g.reads in
    let more : List Text = tokens_to down.0 in
    let at : List Text = lands.front ++ more in
    let below : sub m goal ≡ v = fun_ext (λ (u : Path). ap m (append_assoc r.path g.path u) ∙ made.0 (g.path ++ u)) ∙ g.below in
    let there : IsSome (m goal) = subst (λ (l : Option Label). IsSome l) (sym (ap (λ (k : NodeMap). k []) below) ∙ ap m (append-nil goal)) some in
    let reads : tokens_to goal ≡ at = ap tokens_to down.1 ∙ tokens_append lands.path down.0 ∙ ap (λ ts. ts ++ more) (sym (tokens_are n lands.front lands.path lands.stops.named)) in
    let names : Names m at goal = subst (λ (ts : List Text). Names m ts goal) reads (named_by_steps m after goal there) in (
      at,
      subst (λ (ts : List Text). IsLocationOf ts at) (sym lands.stops.split) (place_behind lands.front lands.rest more down.2),
      record {
        there = record { path = goal; named = names; below = sym below };
        others = λ others k apart. (
          kept_apart n tokens v m old r at more refl (λ none. no_place more (subst (λ (ts : List Text). IsLocationOf ts more) none down.2)) others k apart,
          λ found.
              let clear = clear_after m r.path r.left v g at others found.path made.0 names found.named apart in
              let before = was_named n m r.path tree made.1 others found.path found.named clear.1 in
              let kept = Assigns-frame n tokens v m old r others found.path before clear.0 clear.1 in
              record { path = found.path; named = before; below = found.below ∙ kept.1 },
        );
      },
    )

-- so what did not resolve does not resolve afterwards
pub nothing_apart : (n : NodeMap) (tokens at : List Text) (v m : NodeMap) → IsLocationOf tokens at → IsSetAt n at v m → LacksDash tokens → (others : List Text) → IsApart others tokens → NamesNothing n others → NamesNothing m others
nothing_apart n tokens at v m reads is dash others apart none w there =
    let away : IsApart others at = subst (λ (ts : List Text). IsApart others ts) (sym (plain_place tokens at dash reads)) apart in
    let found = (is.others others (sub m w) away).1 (record { path = w; named = there; below = refl }) in
    none found.path found.named
