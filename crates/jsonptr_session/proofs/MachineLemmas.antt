-- The machine's answer and next state exist and are unique, and the next state is one of a session.
use Rattle.std.proofs.Common.{◌≡◌, ℕ, ◌<◌, ◌≤◌, ◌⊎◌, inl, inr, ⊎_elim, List, [], ◌∷◌, ◌++◌, length, Option, Some, None, refl, sym, ap, ap₂, ◌∙◌, subst, arith}
use Rattle.std.specs.Prelude.{◌↔◌, All, IsUtf8, IsSome, slice_get, slice_set}
use Rattle.std.proofs.lemmas.Bool.{cases_lt}
use Rattle.std.proofs.lemmas.List.Elements.{All-nil, All-push, All-cons, All-tail, All-set, All-append, All-pop}
use Rattle.jsonptr.specs.Text.{Text, text, tokens_of}
use Rattle.jsonptr.specs.Grammar.{IsPointer}
use Rattle.jsonptr.specs.Node.{Step, Path, Label, NodeMap, Names, sub, IsTree}
use Rattle.jsonptr.specs.Put.{put}
use Rattle.jsonptr.specs.Following.{Finds, StopsBefore}
use Rattle.jsonptr.specs.Assigning.{Assigns}
use Rattle.jsonptr.specs.Removing.{Deletes}
use Rattle.jsonptr.specs.Ends.{PopsFront, PopsBack}
use Rattle.jsonptr.specs.ParseError.{IsParseErrorOf}
use Rattle.jsonptr.specs.Resolve.{Refuses, PutsAt}
use Rattle.jsonptr.specs.Assign.{RefusesAssign}
use Rattle.jsonptr.specs.Types.ParseError.{ParseError}
use Rattle.jsonptr.specs.declared.pointer.buf.ReplaceError.{ReplaceError}
use Rattle.jsonptr.specs.declared.resolve.Error.{Error as ResolveError}
use Rattle.jsonptr.specs.declared.assign.Error.{Error as AssignError}
use Rattle.jsonptr.proofs.Calling.{IsPointer-text, text-tokens_of, tokens_of-text, text_one, IsUtf8-tokens_of}
use Rattle.jsonptr_tree.proofs.NodeLemmas.{Names-here, Names_one_path, Names_one_list, IsTree-named}
use Rattle.jsonptr_tree.proofs.TreeLemmas.{IsTree-put}
use Rattle.jsonptr_tree.proofs.ListedLemmas.{IsListed-put}
use Rattle.jsonptr_tree.proofs.FollowingLemmas.{Finds_one, Names-StopsBefore, follows}
use Rattle.jsonptr_tree.proofs.AssigningLemmas.{Assigns_one, Assigns-tree, Assigns-finite}
use Rattle.jsonptr_tree.proofs.RemovingLemmas.{Deletes-some, Deletes-tree, Deletes-finite}
use Rattle.jsonptr_session.specs.Machine.{State, Command, parse, push_back, push_front, pop_back, pop_front, replace, append, clear, resolve, write, assign, delete, Answer, done, bad_pointer, token, bad_position, value, no_value, assigned, bad_place, deleted, Transition}
use Rattle.jsonptr.specs.Documents.{IsDocument}
use Rattle.jsonptr_session.specs.States.{IsState, IsCommand}

-- the laws of the calls that a transition depends on
pub record Laws : Type 0 where
  pub parse_some : (s : Text) → IsPointer s ⊎ ((e : ParseError) × IsParseErrorOf s e)
  pub parse_both : (s : Text) (e : ParseError) → IsPointer s → IsParseErrorOf s e → ⊥
  pub parse_one : (s : Text) (e f : ParseError) → IsParseErrorOf s e → IsParseErrorOf s f → e ≡ f
  pub resolve_some : (n : NodeMap) (tokens : List Text) → IsTree n → All IsUtf8 tokens → ((m : NodeMap) × Finds n tokens m) ⊎ ((e : ResolveError) × Refuses n tokens e)
  pub resolve_both : (n : NodeMap) (tokens : List Text) (m : NodeMap) (e : ResolveError) → Finds n tokens m → Refuses n tokens e → ⊥
  pub resolve_one : (n : NodeMap) (tokens : List Text) (e f : ResolveError) → Refuses n tokens e → Refuses n tokens f → e ≡ f
  pub assign_some : (n : NodeMap) (tokens : List Text) (v : NodeMap) → IsTree n → All IsUtf8 tokens → ((m : NodeMap) × (old : Option NodeMap) × Assigns n tokens v m old) ⊎ ((e : AssignError) × RefusesAssign n tokens e)
  pub assign_both : (n : NodeMap) (tokens : List Text) (v m : NodeMap) (old : Option NodeMap) (e : AssignError) → Assigns n tokens v m old → RefusesAssign n tokens e → ⊥
  pub assign_one : (n : NodeMap) (tokens : List Text) (e f : AssignError) → RefusesAssign n tokens e → RefusesAssign n tokens f → e ≡ f

-- ---- the answer and the next state are unique

state_one : (s t : State) → s.tokens ≡ t.tokens → s.nodes ≡ t.nodes → s ≡ t
state_one s t tokens nodes = ap₂ (λ (ts : List Text) (n : NodeMap). let u : State = record { tokens = ts; nodes = n } in u) tokens nodes

same_last : (f g : List Text) (x y : Text) → f ++ x ∷ [] ≡ g ++ y ∷ [] → (f ≡ g) × (x ≡ y)
same_last [] [] x y e = (refl, cc)
same_last [] (z ∷ []) x y e = absurd cc
same_last [] (z ∷ w ∷ g) x y e = absurd cc
same_last (z ∷ []) [] x y e = absurd cc
same_last (z ∷ w ∷ f) [] x y e = absurd cc
same_last (z ∷ f) (w ∷ g) x y e =
    let first : z ≡ w = cc in
    let rest : f ++ x ∷ [] ≡ g ++ y ∷ [] = cc in
    let more = same_last f g x y rest in
    (cc (first, more.0), more.1)

cases_last : {X : Type 0} (xs : List X) → (xs ≡ []) ⊎ ((ys : List X) × (y : X) × (xs ≡ ys ++ y ∷ []))
cases_last [] = inl refl
cases_last (x ∷ xs) = ⊎_elim
    (λ (none : xs ≡ []). inr ([], x, ap (λ l. x ∷ l) none))
    (λ (r : (ys : List _) × (y : _) × (xs ≡ ys ++ y ∷ [])). inr (x ∷ r.0, r.1, ap (λ l. x ∷ l) r.2))
    (cases_last xs)

popped_front_one : (old new mid : List Text) (t u : Option Text) → PopsFront old t new → PopsFront old u mid → (t ≡ u) × (new ≡ mid)
popped_front_one old new mid None None h k = (refl, h.1 ∙ sym k.1)
popped_front_one old new mid None (Some y) h k = absurd cc
popped_front_one old new mid (Some x) None h k = absurd cc
popped_front_one old new mid (Some x) (Some y) h k = (cc, cc)

popped_back_one : (old new mid : List Text) (t u : Option Text) → PopsBack old t new → PopsBack old u mid → (t ≡ u) × (new ≡ mid)
popped_back_one old new mid None None h k = (refl, h.1 ∙ sym k.1)
popped_back_one old [] mid None (Some y) h k = absurd (nonempty mid y (sym h.0 ∙ k))
  where
    nonempty : (xs : List Text) (y : Text) → [] ≡ xs ++ y ∷ [] → ⊥
    nonempty [] y e = cc
    nonempty (x ∷ xs) y e = cc
popped_back_one old (z ∷ new) mid None (Some y) h k = absurd cc
popped_back_one old new mid (Some x) None h k = absurd (nonempty new x (sym k.0 ∙ h))
  where
    nonempty : (xs : List Text) (y : Text) → [] ≡ xs ++ y ∷ [] → ⊥
    nonempty [] y e = cc
    nonempty (x ∷ xs) y e = cc
popped_back_one old new mid (Some x) (Some y) h k =
    let same = same_last new mid x y (sym h ∙ k) in
    (ap (λ (t : Text). Some t) same.1, same.0)

written_one : (n : NodeMap) (tokens : List Text) (v m k : NodeMap) → PutsAt n tokens v m → PutsAt n tokens v k → m ≡ k
written_one n tokens v m k a b =
    a.made ∙ ap (λ (w : Path). put n w v) (Names_one_path n tokens a.path b.path a.named b.named) ∙ sym b.made

deleted_one : (n blank : NodeMap) (tokens : List Text) (w : Path) (m k : NodeMap) → Names n tokens w → Deletes n tokens blank m → Deletes n tokens blank k → m ≡ k
deleted_one n blank [] w m k h a b = a.whole refl ∙ sym (b.whole refl)
deleted_one n blank (x ∷ xs) w m k h a b = ⊎_elim
    (λ (e : w ≡ []). absurd (subst (λ (p : Path). Names n (x ∷ xs) p) e h))
    (λ (r : (u : Path) × (s : Step) × (w ≡ u ++ s ∷ [])).
    let there : Names n (x ∷ xs) (r.0 ++ r.1 ∷ []) = subst (λ (p : Path). Names n (x ∷ xs) p) r.2 h in
    a.child r.0 r.1 there ∙ sym (b.child r.0 r.1 there))
    (cases_last w)

module _ (laws : Laws) (blank : NodeMap) where
  pub moves_one : (old new mid : State) (c : Command) (a b : Answer) → Transition blank old c a new → Transition blank old c b mid → (a ≡ b) × (new ≡ mid)
  moves_one old new mid (parse s) done done h k = (refl, state_one new mid (text_one _ _ (h.0 ∙ sym k.0)) (h.1 ∙ sym k.1))
  moves_one old new mid (parse s) done (bad_pointer e t) h k = absurd (laws.parse_both s e (subst IsPointer h.0 (IsPointer-text new.tokens)) k.0)
  moves_one old new mid (parse s) (bad_pointer e t) done h k = absurd (laws.parse_both s e (subst IsPointer k.0 (IsPointer-text mid.tokens)) h.0)
  moves_one old new mid (parse s) (bad_pointer e t) (bad_pointer f u) h k =
      (ap₂ (λ (p : ParseError) (x : Text). bad_pointer p x) (laws.parse_one s e f h.0 k.0) (h.1 ∙ sym k.1), h.2 ∙ sym k.2)
  moves_one old new mid (push_back s) done done h k = (refl, h ∙ sym k)
  moves_one old new mid (push_front s) done done h k = (refl, h ∙ sym k)
  moves_one old new mid pop_back (token t) (token u) h k =
      let same = popped_back_one old.tokens new.tokens mid.tokens t u h.0 k.0 in
      (ap (λ (o : Option Text). token o) same.0, state_one new mid same.1 (h.1 ∙ sym k.1))
  moves_one old new mid pop_front (token t) (token u) h k =
      let same = popped_front_one old.tokens new.tokens mid.tokens t u h.0 k.0 in
      (ap (λ (o : Option Text). token o) same.0, state_one new mid same.1 (h.1 ∙ sym k.1))
  moves_one old new mid (replace i s) (token t) (token u) h k = (ap (λ (o : Option Text). token o) (h.1 ∙ sym k.1), h.2 ∙ sym k.2)
  moves_one old new mid (replace i s) (token t) (bad_position e) h k = absurd (omega (arith, h.0, k.0))
  moves_one old new mid (replace i s) (bad_position e) (token t) h k = absurd (omega (arith, h.0, k.0))
  moves_one old new mid (replace i s) (bad_position e) (bad_position f) h k =
      let index : e.index ≡ f.index = h.1 ∙ sym k.1 in
      let count : e.count ≡ f.count = h.2 ∙ sym k.2 in
      (ap₂ (λ (j m : ℕ). bad_position (record { index = j; count = m })) index count, h.3 ∙ sym k.3)
  moves_one old new mid (append p) done done h k = (refl, h ∙ sym k)
  moves_one old new mid clear done done h k = (refl, h ∙ sym k)
  moves_one old new mid resolve (value m) (value l) h k = (ap (λ (n : NodeMap). value n) (Finds_one _ _ _ _ h.0 k.0), h.1 ∙ sym k.1)
  moves_one old new mid resolve (value m) (no_value e) h k = absurd (laws.resolve_both _ _ _ _ h.0 k.0)
  moves_one old new mid resolve (no_value e) (value m) h k = absurd (laws.resolve_both _ _ _ _ k.0 h.0)
  moves_one old new mid resolve (no_value e) (no_value f) h k = (ap (λ (r : ResolveError). no_value r) (laws.resolve_one _ _ _ _ h.0 k.0), h.1 ∙ sym k.1)
  moves_one old new mid (write v) (value m) (value l) h k =
      (ap (λ (n : NodeMap). value n) (Finds_one _ _ _ _ h.0 k.0), state_one new mid (h.2 ∙ sym k.2) (written_one _ _ _ _ _ h.1 k.1))
  moves_one old new mid (write v) (value m) (no_value e) h k = absurd (laws.resolve_both _ _ _ _ h.0 k.0)
  moves_one old new mid (write v) (no_value e) (value m) h k = absurd (laws.resolve_both _ _ _ _ k.0 h.0)
  moves_one old new mid (write v) (no_value e) (no_value f) h k = (ap (λ (r : ResolveError). no_value r) (laws.resolve_one _ _ _ _ h.0 k.0), h.1 ∙ sym k.1)
  moves_one old new mid (assign v) (assigned was) (assigned had) h k =
      let same = Assigns_one _ _ _ _ _ _ _ h.0 k.0 in
      (ap (λ (o : Option NodeMap). assigned o) same.1, state_one new mid (h.1 ∙ sym k.1) same.0)
  moves_one old new mid (assign v) (assigned was) (bad_place e) h k = absurd (laws.assign_both _ _ _ _ _ _ h.0 k.0)
  moves_one old new mid (assign v) (bad_place e) (assigned was) h k = absurd (laws.assign_both _ _ _ _ _ _ k.0 h.0)
  moves_one old new mid (assign v) (bad_place e) (bad_place f) h k = (ap (λ (r : AssignError). bad_place r) (laws.assign_one _ _ _ _ h.0 k.0), h.1 ∙ sym k.1)
  moves_one old new mid delete (deleted (Some m)) (deleted (Some l)) h k =
      (ap (λ (n : NodeMap). deleted (Some n)) (Finds_one _ _ _ _ h.0 k.0), state_one new mid (h.2 ∙ sym k.2) (deleted_one _ _ _ _ _ _ h.0.named h.1 k.1))
  moves_one old new mid delete (deleted (Some m)) (deleted None) h k = absurd (k.0 h.0.path h.0.named)
  moves_one old new mid delete (deleted None) (deleted (Some m)) h k = absurd (h.0 k.0.path k.0.named)
  moves_one old new mid delete (deleted None) (deleted None) h k = (refl, h.1 ∙ sym k.1)
  moves_one old new mid c a b h k = absurd assumption

  -- ---- there is an answer and a next state

  popped_back_some : (old : State) → (a : Answer) × (new : State) × Transition blank old pop_back a new
  popped_back_some old = ⊎_elim
      (λ (none : old.tokens ≡ []). (token None, record old { tokens = [] }, ((none, refl), refl)))
      (λ (r : (ys : List Text) × (y : Text) × (old.tokens ≡ ys ++ y ∷ [])). (token (Some r.1), record old { tokens = r.0 }, (r.2, refl)))
      (cases_last old.tokens)

  popped_front_some : (ts : List Text) (n : NodeMap) → (a : Answer) × (new : State) × Transition blank (record { tokens = ts; nodes = n }) pop_front a new
  popped_front_some [] n = (token None, record { tokens = []; nodes = n }, ((refl, refl), refl))
  popped_front_some (t ∷ ts) n = (token (Some t), record { tokens = ts; nodes = n }, (refl, refl))

  deleted_some : (old : State) → IsState old → (a : Answer) × (new : State) × Transition blank old delete a new
  deleted_some old is = ⊎_elim
      (λ (r : (w : Path) × Names old.nodes old.tokens w).
      let made = Deletes-some old.nodes blank old.tokens is.nodes.0 in
      (deleted (Some (sub old.nodes r.0)), record old { nodes = made.0 }, (record { path = r.0; named = r.1; below = refl }, made.1, refl)))
      (λ (r : (p o : ℕ) × (l : Label) × (x : Text) × StopsBefore old.nodes old.tokens p o l x).
      (deleted None, old, ((λ w h. Names-StopsBefore old.nodes old.tokens w r.0 r.1 r.2 r.3 h r.4), refl)))
      (follows old.nodes old.tokens is.nodes.0)

  pub moves_some : (old : State) (c : Command) → IsState old → IsCommand c → (a : Answer) × (new : State) × Transition blank old c a new
  moves_some old (parse s) is told = ⊎_elim
      (λ (p : IsPointer s). (done, record old { tokens = tokens_of s }, (text-tokens_of p, refl)))
      (λ (r : (e : ParseError) × IsParseErrorOf s e). (bad_pointer r.0 s, old, (r.1, refl, refl)))
      (laws.parse_some s)
  moves_some old (push_back s) is told = (done, _, refl)
  moves_some old (push_front s) is told = (done, _, refl)
  moves_some old pop_back is told = popped_back_some old
  moves_some old pop_front is told = popped_front_some old.tokens old.nodes
  moves_some old (replace i s) is told = ⊎_elim
      (λ (below : i < length old.tokens). (token (slice_get old.tokens i), record old { tokens = slice_set old.tokens i s }, (below, refl, refl)))
      (λ (above : length old.tokens ≤ i). (bad_position (record { index = i; count = length old.tokens }), old, (above, refl, refl, refl)))
      (cases_lt i (length old.tokens))
  moves_some old (append p) is told = (done, _, refl)
  moves_some old clear is told = (done, _, refl)
  moves_some old resolve is told = ⊎_elim
      (λ (r : (m : NodeMap) × Finds old.nodes old.tokens m). (value r.0, old, (r.1, refl)))
      (λ (r : (e : ResolveError) × Refuses old.nodes old.tokens e). (no_value r.0, old, (r.1, refl)))
      (laws.resolve_some old.nodes old.tokens is.nodes.0 is.tokens)
  moves_some old (write v) is told = ⊎_elim
      (λ (r : (m : NodeMap) × Finds old.nodes old.tokens m).
      (value r.0, record old { nodes = put old.nodes r.1.path v }, (r.1, record { path = r.1.path; named = r.1.named; made = refl }, refl)))
      (λ (r : (e : ResolveError) × Refuses old.nodes old.tokens e). (no_value r.0, old, (r.1, refl)))
      (laws.resolve_some old.nodes old.tokens is.nodes.0 is.tokens)
  moves_some old (assign v) is told = ⊎_elim
      (λ (r : (m : NodeMap) × (was : Option NodeMap) × Assigns old.nodes old.tokens v m was). (assigned r.1, record old { nodes = r.0 }, (r.2, refl)))
      (λ (r : (e : AssignError) × RefusesAssign old.nodes old.tokens e). (bad_place r.0, old, (r.1, refl)))
      (laws.assign_some old.nodes old.tokens v is.nodes.0 is.tokens)
  moves_some old delete is told = deleted_some old is

-- ---- the next state is one of a session

popped_tokens : (old new : List Text) (t : Option Text) → PopsBack old t new → All IsUtf8 old → All IsUtf8 new
popped_tokens old new None h utf8 = subst (λ (ts : List Text). All IsUtf8 ts) (sym h.1) (All-nil IsUtf8)
popped_tokens old new (Some t) h utf8 = (All-pop IsUtf8 old new (Some t) h utf8).0

popped_front_tokens : (old new : List Text) (t : Option Text) → PopsFront old t new → All IsUtf8 old → All IsUtf8 new
popped_front_tokens old new None h utf8 = subst (λ (ts : List Text). All IsUtf8 ts) (sym h.1) (All-nil IsUtf8)
popped_front_tokens old new (Some t) h utf8 = All-tail IsUtf8 t new (subst (λ (ts : List Text). All IsUtf8 ts) h utf8)

parsed_tokens : (s : Text) (ts : List Text) → text ts ≡ s → IsUtf8 s → All IsUtf8 ts
parsed_tokens s ts e utf8 =
    let valid : IsPointer s = subst IsPointer e (IsPointer-text ts) in
    let read : tokens_of s ≡ ts = sym (ap tokens_of e) ∙ tokens_of-text ts in
    subst (λ (us : List Text). All IsUtf8 us) read (IsUtf8-tokens_of s valid utf8)

with_tokens : (old new : State) → IsState old → new.nodes ≡ old.nodes → All IsUtf8 new.tokens → IsState new
with_tokens old new is same utf8 = record { tokens = utf8; nodes = subst IsDocument (sym same) is.nodes }

with_nodes : (old new : State) → IsState old → new.tokens ≡ old.tokens → IsDocument new.nodes → IsState new
with_nodes old new is same document = record { tokens = subst (λ (ts : List Text). All IsUtf8 ts) (sym same) is.tokens; nodes = document }

written : (n : NodeMap) (tokens : List Text) (v m : NodeMap) → IsDocument n → IsDocument v → PutsAt n tokens v m → IsDocument m
written n tokens v m old new p = subst IsDocument (sym p.made) (IsTree-put n p.path v old.0 (Names-here n tokens p.path p.named) new.0, IsListed-put n p.path v old.1 new.1)

set_tokens : (old new : State) (ts : List Text) → IsState old → new ≡ record old { tokens = ts } → All IsUtf8 ts → IsState new
set_tokens old new ts is e utf8 = subst IsState (sym e) (record { tokens = utf8; nodes = is.nodes })

pub moves_state : (blank : NodeMap) (old new : State) (c : Command) (a : Answer) → IsDocument blank → IsState old → IsCommand c → Transition blank old c a new → IsState new
moves_state blank old new (parse s) done plain is told h = with_tokens old new is h.1 (parsed_tokens s new.tokens h.0 told)
moves_state blank old new (parse s) (bad_pointer e t) plain is told h = subst IsState (sym h.2) is
moves_state blank old new (push_back s) done plain is told h = set_tokens old new _ is h (All-push IsUtf8 old.tokens s is.tokens told)
moves_state blank old new (push_front s) done plain is told h = set_tokens old new _ is h (All-cons IsUtf8 s old.tokens told is.tokens)
moves_state blank old new pop_back (token t) plain is told h = with_tokens old new is h.1 (popped_tokens old.tokens new.tokens t h.0 is.tokens)
moves_state blank old new pop_front (token t) plain is told h = with_tokens old new is h.1 (popped_front_tokens old.tokens new.tokens t h.0 is.tokens)
moves_state blank old new (replace i s) (token t) plain is told h = set_tokens old new _ is h.2 (All-set IsUtf8 old.tokens i s told is.tokens)
moves_state blank old new (replace i s) (bad_position e) plain is told h = subst IsState (sym h.3) is
moves_state blank old new (append p) done plain is told h = set_tokens old new _ is h (All-append IsUtf8 old.tokens p is.tokens told)
moves_state blank old new clear done plain is told h = set_tokens old new _ is h (All-nil IsUtf8)
moves_state blank old new resolve (value m) plain is told h = subst IsState (sym h.1) is
moves_state blank old new resolve (no_value e) plain is told h = subst IsState (sym h.1) is
moves_state blank old new (write v) (value m) plain is told h = with_nodes old new is h.2 (written old.nodes old.tokens v new.nodes is.nodes told h.1)
moves_state blank old new (write v) (no_value e) plain is told h = subst IsState (sym h.1) is
moves_state blank old new (assign v) (assigned was) plain is told h =
    with_nodes old new is h.1 (Assigns-tree _ _ _ _ _ is.nodes.0 told.0 h.0, Assigns-finite _ _ _ _ _ is.nodes.1 told.1 h.0)
moves_state blank old new (assign v) (bad_place e) plain is told h = subst IsState (sym h.1) is
moves_state blank old new delete (deleted (Some m)) plain is told h =
    with_nodes old new is h.2 (Deletes-tree _ _ _ _ is.nodes.0 plain.0 h.1, Deletes-finite _ _ _ _ is.nodes.0 is.nodes.1 plain.1 h.1)
moves_state blank old new delete (deleted None) plain is told h = subst IsState (sym h.1) is
moves_state blank old new c a plain is told h = absurd h

-- ---- errors

pub pointer_refused : (blank : NodeMap) (old new : State) (c : Command) (e : ParseError) (s : Text) → Transition blank old c (bad_pointer e s) new → new ≡ old
pointer_refused blank old new (parse s) e t h = h.2
pointer_refused blank old new c e t h = absurd h

pub position_refused : (blank : NodeMap) (old new : State) (c : Command) (e : ReplaceError) → Transition blank old c (bad_position e) new → new ≡ old
position_refused blank old new (replace i s) e h = h.3
position_refused blank old new c e h = absurd h

pub value_refused : (blank : NodeMap) (old new : State) (c : Command) (e : ResolveError) → Transition blank old c (no_value e) new → new ≡ old
value_refused blank old new resolve e h = h.1
value_refused blank old new (write v) e h = h.1
value_refused blank old new c e h = absurd h

pub place_refused : (blank : NodeMap) (old new : State) (c : Command) (e : AssignError) → Transition blank old c (bad_place e) new → new ≡ old
place_refused blank old new (assign v) e h = h.1
place_refused blank old new c e h = absurd h

pub nothing_deleted : (blank : NodeMap) (old new : State) (c : Command) → Transition blank old c (deleted None) new → new ≡ old
nothing_deleted blank old new delete h = h.1
nothing_deleted blank old new c h = absurd h

-- ---- parsing, and finding each node

pub parsed_iff : (blank : NodeMap) (old : State) (s : Text) → ((new : State) × Transition blank old (parse s) done new) ↔ IsPointer s
parsed_iff blank old s = (
  (λ (r : (new : State) × Transition blank old (parse s) done new). subst IsPointer r.1.0 (IsPointer-text r.0.tokens)),
  (λ (p : IsPointer s). (record old { tokens = tokens_of s }, (text-tokens_of p, refl))),
)

pub unparsed_iff : ((s : Text) → IsPointer s ⊎ ((e : ParseError) × IsParseErrorOf s e))
    → ((s : Text) (e : ParseError) → IsPointer s → IsParseErrorOf s e → ⊥)
    → (blank : NodeMap) (old : State) (s : Text)
    → ((e : ParseError) × (new : State) × Transition blank old (parse s) (bad_pointer e s) new) ↔ (IsPointer s → ⊥)
unparsed_iff parse_some parse_both blank old s = (
  (λ (r : (e : ParseError) × (new : State) × Transition blank old (parse s) (bad_pointer e s) new). λ (p : IsPointer s). parse_both s r.0 p r.2.0),
  (λ (no_pointer : IsPointer s → ⊥). ⊎_elim
      (λ (p : IsPointer s). absurd (no_pointer p))
      (λ (r : (e : ParseError) × IsParseErrorOf s e). (r.0, old, (r.1, refl, refl)))
      (parse_some s)),
)

pub node_named : (blank : NodeMap) (old : State) → IsTree old.nodes → (w : Path) → IsSome (old.nodes w)
    → (ts : List Text)
    × Names old.nodes ts w
    × Transition blank (record old { tokens = ts }) resolve (value (sub old.nodes w)) (record old { tokens = ts })
    × ((us : List Text) → Names old.nodes us w → us ≡ ts)
node_named blank old tree w there =
    let named = IsTree-named old.nodes tree w there in
    (named.0, named.1, (record { path = w; named = named.1; below = refl }, refl), (λ us h. Names_one_list old.nodes us named.0 w h named.1))
