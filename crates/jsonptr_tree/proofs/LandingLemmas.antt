-- Where a value lands: at one path, or at none.
use Rattle.std.proofs.Common.{◌≡◌, ◌≢◌, ℕ, zero, suc, ◌+◌, ◌<◌, ◌≤◌, Bool, true, false, bytes_eq, ◌||◌, codes, List, [], ◌∷◌, ◌++◌, map, length, Option, Some, None, ◌⊎◌, inl, inr, ⊎_elim, refl, sym, ap, ◌∙◌, subst, arith, true≢false, append-nil, length-append}
use Rattle.std.specs.Int.Digits.{digits_of}
use Rattle.std.proofs.lemmas.Bool.{cases_lt}
use Rattle.std.proofs.lemmas.Slice.Eq.{bytes_eq-Decides}
use Rattle.jsonptr_grammar.specs.Text.{Text, dec}
use Rattle.jsonptr_tree.specs.Node.{key, place, Path, Scalar, Label, an_object, an_array, a_leaf, NodeMap, Names, IsTree}
use Rattle.jsonptr_tree.specs.Following.{StopsAt, LacksStep, StopsBefore}
use Rattle.jsonptr_tree.specs.Expansion.{is_append_index}
use Rattle.jsonptr_tree.specs.Landing.{LandsFrom, Lands, LandsNowhere}
use Rattle.jsonptr_tree.proofs.NodeLemmas.{dec_above}
use Rattle.jsonptr_tree.proofs.FollowingLemmas.{StopsAt_one, lacks_at_array, lacks_past_array, StopsBefore-array, follows}

-- the end of an array

or_cases : (a b : Bool) → (a || b) ≡ true → (a ≡ true) ⊎ (b ≡ true)
or_cases true b e = inl refl
or_cases false b e = inr e

or_first : (a b : Bool) → a ≡ true → (a || b) ≡ true
or_first true b e = refl
or_first false b e = absurd (true≢false (sym e))

or_second : (a b : Bool) → b ≡ true → (a || b) ≡ true
or_second true b e = refl
or_second false b e = e

-- the token for the end is `-` or the decimal text of the length
pub means_end-cases : (len : ℕ) (x : Text) → is_append_index len x ≡ true → (x ≡ codes "-") ⊎ (x ≡ dec len)
means_end-cases len x e = ⊎_elim
    (λ (a : bytes_eq x (codes "-") ≡ true). inl ((bytes_eq-Decides x (codes "-")).0 a))
    (λ (b : bytes_eq x (dec len) ≡ true). inr ((bytes_eq-Decides x (dec len)).0 b))
    (or_cases (bytes_eq x (codes "-")) (bytes_eq x (dec len)) e)

pub means_end-dash : (len : ℕ) (x : Text) → x ≡ codes "-" → is_append_index len x ≡ true
means_end-dash len x e = or_first (bytes_eq x (codes "-")) (bytes_eq x (dec len)) ((bytes_eq-Decides x (codes "-")).1 e)

pub means_end-dec : (len : ℕ) (x : Text) → x ≡ dec len → is_append_index len x ≡ true
means_end-dec len x e = or_second (bytes_eq x (codes "-")) (bytes_eq x (dec len)) ((bytes_eq-Decides x (dec len)).1 e)

-- no decimal text is `-`
no_dash_digits : (ds : List ℕ) → 45 ∷ [] ≡ map (λ d. 48 + d) ds → ⊥
no_dash_digits [] e = cc
no_dash_digits (d ∷ ds) e =
    let first : 45 ≡ 48 + d = cc in
    omega arith

pub dec_no_dash : (i : ℕ) → codes "-" ≡ dec i → ⊥
dec_no_dash zero e = apart 45 48 (omega arith) e
  where
    apart : (a b : ℕ) → a < b → a ∷ [] ≡ b ∷ [] → ⊥
    apart a b h e =
        let same : a ≡ b = cc in
        omega arith
dec_no_dash (suc i) e = no_dash_digits (digits_of 10 (suc i)) (e ∙ dec_above (suc i) (omega arith))

-- an array has no element at its end
pub lacks_at_end : (n : NodeMap) (w : Path) (x : Text) (len : ℕ) → n w ≡ Some (an_array len) → is_append_index len x ≡ true → LacksStep n w x
lacks_at_end n w x len e h = ⊎_elim
    (λ (a : x ≡ codes "-"). lacks_at_array n w x len e (λ i below d. dec_no_dash i (sym a ∙ d)))
    (λ (b : x ≡ dec len). lacks_past_array n w x len len e b (omega arith))
    (means_end-cases len x h)

-- landing

-- tokens that name a path stop there, with none left
pub stops_named : (n : NodeMap) (tokens : List Text) (w : Path) → Names n tokens w → StopsAt n tokens tokens w []
stops_named n tokens w h = record {
  split = sym (append-nil tokens);
  named = h;
  longest = λ longer after v e k.
      let long : length (longer ++ after) ≡ length longer + length after = length-append longer after in
      let same : length tokens ≡ length (longer ++ after) = ap (λ (ts : List Text). length ts) e in
      omega arith;
}

-- at the node that the tokens name
pub Lands_named : (n : NodeMap) (tokens : List Text) (w : Path) → Names n tokens w → Lands n tokens w []
Lands_named n tokens w h = record {
  front = tokens;
  path = w;
  rest = [];
  stops = stops_named n tokens w h;
  lands = (refl, refl);
}

-- at a scalar, before some tokens
pub Lands_leaf : (n : NodeMap) (tokens front : List Text) (x : Text) (rest : List Text) (w : Path) (v : Scalar) → StopsAt n tokens front w (x ∷ rest) → n w ≡ Some (a_leaf v) → Lands n tokens w (x ∷ rest)
Lands_leaf n tokens front x rest w v s e = record {
  front = front;
  path = w;
  rest = x ∷ rest;
  stops = s;
  lands = subst (λ (l : Option Label). LandsFrom w l (x ∷ rest) w (x ∷ rest)) (sym e) (refl, refl);
}

-- at a new member of an object
pub Lands_object : (n : NodeMap) (tokens front : List Text) (x : Text) (rest : List Text) (w : Path) → StopsAt n tokens front w (x ∷ rest) → n w ≡ Some an_object → Lands n tokens (w ++ key x ∷ []) rest
Lands_object n tokens front x rest w s e = record {
  front = front;
  path = w;
  rest = x ∷ rest;
  stops = s;
  lands = subst (λ (l : Option Label). LandsFrom w l (x ∷ rest) (w ++ key x ∷ []) rest) (sym e) (refl, refl);
}

-- after the elements of an array
pub Lands_end : (n : NodeMap) (tokens front : List Text) (x : Text) (rest : List Text) (w : Path) (len : ℕ) → StopsAt n tokens front w (x ∷ rest) → n w ≡ Some (an_array len) → is_append_index len x ≡ true → Lands n tokens (w ++ place len ∷ []) rest
Lands_end n tokens front x rest w len s e h = record {
  front = front;
  path = w;
  rest = x ∷ rest;
  stops = s;
  lands = subst (λ (l : Option Label). LandsFrom w l (x ∷ rest) (w ++ place len ∷ []) rest) (sym e) (h, refl, refl);
}

LandsFrom_one : (w : Path) (l : Option Label) (rest : List Text) (p q : Path) (a b : List Text) → LandsFrom w l rest p a → LandsFrom w l rest q b → (p ≡ q) × (a ≡ b)
LandsFrom_one w l [] p q a b h k = (h.0 ∙ sym k.0, h.1 ∙ sym k.1)
LandsFrom_one w None (x ∷ rest) p q a b h k = absurd h
LandsFrom_one w (Some an_object) (x ∷ rest) p q a b h k = (h.0 ∙ sym k.0, h.1 ∙ sym k.1)
LandsFrom_one w (Some (an_array len)) (x ∷ rest) p q a b h k = (h.1 ∙ sym k.1, h.2 ∙ sym k.2)
LandsFrom_one w (Some (a_leaf v)) (x ∷ rest) p q a b h k = (h.0 ∙ sym k.0, h.1 ∙ sym k.1)

-- a value lands at one path, with one rest to expand
pub Lands_one : (n : NodeMap) (tokens : List Text) (p q : Path) (a b : List Text) → Lands n tokens p a → Lands n tokens q b → (p ≡ q) × (a ≡ b)
Lands_one n tokens p q a b h k =
    let same = StopsAt_one n tokens h.front k.front h.path k.path h.rest k.rest h.stops k.stops in
    let there : LandsFrom h.path (n h.path) k.rest q b = subst (λ (w : Path). LandsFrom w (n w) k.rest q b) (sym same.1) k.lands in
    LandsFrom_one h.path (n h.path) h.rest p q a b h.lands (subst (λ (rest : List Text). LandsFrom h.path (n h.path) rest q b) (sym same.2) there)

-- landing nowhere

from_end : (w : Path) (l : Option Label) (len : ℕ) (x : Text) (rest : List Text) (p : Path) (a : List Text) → l ≡ Some (an_array len) → LandsFrom w l (x ∷ rest) p a → is_append_index len x ≡ true
from_end w None len x rest p a e h = absurd h
from_end w (Some an_object) len x rest p a e h = cc
from_end w (Some (an_array k)) len x rest p a e h =
    let same : k ≡ len = cc in
    subst (λ (j : ℕ). is_append_index j x ≡ true) same h.0
from_end w (Some (a_leaf v)) len x rest p a e h = cc

-- if following stops at an array and a value lands, then the token names its end
pub Lands-means_end : (n : NodeMap) (tokens : List Text) (position offset len : ℕ) (x : Text) (p : Path) (a : List Text) → StopsBefore n tokens position offset (an_array len) x → Lands n tokens p a → is_append_index len x ≡ true
Lands-means_end n tokens position offset len x p a r h =
    let same = StopsAt_one n tokens h.front r.front h.path r.path h.rest (x ∷ r.rest) h.stops r.stops in
    let there : LandsFrom h.path (n h.path) (x ∷ r.rest) p a = subst (λ (rest : List Text). LandsFrom h.path (n h.path) rest p a) same.2 h.lands in
    from_end h.path (n h.path) len x r.rest p a (ap n same.1 ∙ r.label_is) there

-- a value cannot both land and fail to land
pub Lands-LandsNowhere : (n : NodeMap) (tokens : List Text) (position offset len : ℕ) (x : Text) (p : Path) (a : List Text) → Lands n tokens p a → LandsNowhere n tokens position offset len x → ⊥
Lands-LandsNowhere n tokens position offset len x p a h r = ⊎_elim
    (λ (e : x ≡ codes "-"). r.no_dash e)
    (λ (e : x ≡ dec len). r.no_place len (omega arith) e)
    (means_end-cases len x (Lands-means_end n tokens position offset len x p a r.stops h))

-- a token that does not name the end of the array where following stops is not the decimal text of a
-- number up to its length
pub lands_nowhere : (n : NodeMap) (tokens : List Text) (position offset len : ℕ) (x : Text) → IsTree n → StopsBefore n tokens position offset (an_array len) x → is_append_index len x ≡ false → LandsNowhere n tokens position offset len x
lands_nowhere n tokens position offset len x tree r e = record {
  stops = r;
  no_dash = λ d. true≢false (sym (means_end-dash len x d) ∙ e);
  no_place = λ i near d. ⊎_elim
      (λ (below : i < len). StopsBefore-array n tokens position offset len i x tree r below d)
      (λ (at : len ≤ i). true≢false (sym (means_end-dec len x (d ∙ ap dec (last i near at))) ∙ e))
      (cases_lt i len);
}
  where
    last : (i : ℕ) → i ≤ len → len ≤ i → i ≡ len
    last i near at = omega arith

-- the same for a token that is neither `-` nor the decimal text of the length
pub lands_nowhere_at : (n : NodeMap) (tokens : List Text) (position offset len : ℕ) (x : Text) → IsTree n → StopsBefore n tokens position offset (an_array len) x → x ≢ codes "-" → x ≢ dec len → LandsNowhere n tokens position offset len x
lands_nowhere_at n tokens position offset len x tree r dash end = by_test (is_append_index len x) refl
  where
    by_test : (b : Bool) → is_append_index len x ≡ b → LandsNowhere n tokens position offset len x
    by_test true e = absurd (⊎_elim (λ (a : x ≡ codes "-"). dash a) (λ (b : x ≡ dec len). end b) (means_end-cases len x e))
    by_test false e = lands_nowhere n tokens position offset len x tree r e

-- into a tree, a value lands or it lands nowhere
pub lands : (n : NodeMap) (tokens : List Text) → IsTree n → ((p : Path) × (left : List Text) × Lands n tokens p left) ⊎ ((position offset len : ℕ) × (x : Text) × LandsNowhere n tokens position offset len x)
lands n tokens tree = ⊎_elim
    (λ (r : (w : Path) × Names n tokens w). inl (r.0, [], Lands_named n tokens r.0 r.1))
    (λ (r : (p o : ℕ) × (l : Label) × (x : Text) × StopsBefore n tokens p o l x). stopped r.0 r.1 r.2 r.3 r.4)
    (follows n tokens tree)
  where
    at_array : (p o len : ℕ) (x : Text) → StopsBefore n tokens p o (an_array len) x → (b : Bool) → is_append_index len x ≡ b → ((p : Path) × (left : List Text) × Lands n tokens p left) ⊎ ((position offset len : ℕ) × (x : Text) × LandsNowhere n tokens position offset len x)
    at_array p o len x r true e = inl (r.path ++ place len ∷ [], r.rest, Lands_end n tokens r.front x r.rest r.path len r.stops r.label_is e)
    at_array p o len x r false e = inr (p, o, len, x, lands_nowhere n tokens p o len x tree r e)

    stopped : (p o : ℕ) (l : Label) (x : Text) → StopsBefore n tokens p o l x → ((p : Path) × (left : List Text) × Lands n tokens p left) ⊎ ((position offset len : ℕ) × (x : Text) × LandsNowhere n tokens position offset len x)
    stopped p o an_object x r = inl (r.path ++ key x ∷ [], r.rest, Lands_object n tokens r.front x r.rest r.path r.stops r.label_is)
    stopped p o (an_array len) x r = at_array p o len x r (is_append_index len x) refl
    stopped p o (a_leaf v) x r = inl (r.path, x ∷ r.rest, Lands_leaf n tokens r.front x r.rest r.path v r.stops r.label_is)
