-- A list of commands has one run, which is one of a session.
use Rattle.std.proofs.Common.{◌≡◌, List, [], ◌∷◌, ◌++◌, length, map, Option, Some, None, refl, sym, ap, ◌∙◌, subst}
use Rattle.std.specs.Prelude.{All, IsSome}
use Rattle.std.proofs.lemmas.List.Elements.{All-head, All-tail}
use Rattle.jsonptr.specs.Node.{NodeMap}
use Rattle.jsonptr_session.specs.Machine.{State, Command, Answer, Transition, NeedsNoMemory, Runs}
use Rattle.jsonptr.specs.Documents.{IsDocument}
use Rattle.jsonptr_session.specs.States.{IsState, IsCommand}

-- the answer and the next state are unique; they exist; and the next state is one of a session
abbrev pub MovesOne : Type 0
MovesOne = (blank : NodeMap) (old new next : State) (c : Command) (a b : Answer) → Transition blank old c a new → Transition blank old c b next → (a ≡ b) × (new ≡ next)

abbrev pub MovesSome : Type 0
MovesSome = (blank : NodeMap) (old : State) (c : Command) → IsState old → IsCommand c → (a : Answer) × (new : State) × Transition blank old c a new

abbrev pub MovesState : Type 0
MovesState = (blank : NodeMap) (old new : State) (c : Command) (a : Answer) → IsDocument blank → IsState old → IsCommand c → Transition blank old c a new → IsState new

pub runs_one : (moves_one : MovesOne) (blank : NodeMap) (old new next : State) (cs : List Command) (xs ys : List Answer)
    → Runs blank old cs (map (λ a. Some a) xs) new
    → Runs blank old cs (map (λ a. Some a) ys) next
    → (xs ≡ ys) × (new ≡ next)
runs_one moves_one blank old new next [] [] [] h k = (refl, h ∙ sym k)
runs_one moves_one blank old new next [] (x ∷ xs) ys h k = absurd h
runs_one moves_one blank old new next [] [] (y ∷ ys) h k = absurd k
runs_one moves_one blank old new next (c ∷ cs) [] ys h k = absurd h
runs_one moves_one blank old new next (c ∷ cs) (x ∷ xs) [] h k = absurd k
runs_one moves_one blank old new next (c ∷ cs) (x ∷ xs) (y ∷ ys) h k =
    let same = moves_one blank old h.0 k.0 c x y h.1 k.1 in
    let more = runs_one moves_one blank h.0 new next cs xs ys h.2 (subst (λ (s : State). Runs blank s cs (map (λ a. Some a) ys) next) (sym same.1) k.2) in
    (ap (λ (a : Answer). a ∷ xs) same.0 ∙ ap (λ (l : List Answer). y ∷ l) more.0, more.1)

not_some : IsSome {T = Answer} None → ⊥
not_some h = cc

-- the runs are equal, if each answer is `Some`
pub runs_same : (moves_one : MovesOne) (blank : NodeMap) (old new next : State) (cs : List Command) (xs ys : List (Option Answer))
    → All IsSome xs
    → All IsSome ys
    → Runs blank old cs xs new
    → Runs blank old cs ys next
    → (xs ≡ ys) × (new ≡ next)
runs_same moves_one blank old new next [] [] [] p q h k = (refl, h ∙ sym k)
runs_same moves_one blank old new next [] (x ∷ xs) ys p q h k = absurd h
runs_same moves_one blank old new next [] [] (y ∷ ys) p q h k = absurd k
runs_same moves_one blank old new next (c ∷ cs) [] ys p q h k = absurd h
runs_same moves_one blank old new next (c ∷ cs) (x ∷ xs) [] p q h k = absurd k
runs_same moves_one blank old new next (c ∷ cs) (None ∷ xs) (y ∷ ys) p q h k = absurd (not_some (All-head IsSome None xs p))
runs_same moves_one blank old new next (c ∷ cs) (Some x ∷ xs) (None ∷ ys) p q h k = absurd (not_some (All-head IsSome None ys q))
runs_same moves_one blank old new next (c ∷ cs) (Some x ∷ xs) (Some y ∷ ys) p q h k =
    let same = moves_one blank old h.0 k.0 c x y h.1 k.1 in
    let more = runs_same moves_one blank h.0 new next cs xs ys (All-tail IsSome (Some x) xs p) (All-tail IsSome (Some y) ys q) h.2 (subst (λ (s : State). Runs blank s cs ys next) (sym same.1) k.2) in
    (ap (λ (a : Answer). Some a ∷ xs) same.0 ∙ ap (λ (l : List (Option Answer)). Some y ∷ l) more.0, more.1)

pub runs_some : (moves_some : MovesSome) (moves_state : MovesState) (blank : NodeMap) (old : State) (cs : List Command)
    → IsDocument blank
    → IsState old
    → All IsCommand cs
    → (xs : List Answer) × (new : State) × Runs blank old cs (map (λ a. Some a) xs) new
runs_some moves_some moves_state blank old [] plain is told = ([], old, refl)
runs_some moves_some moves_state blank old (c ∷ cs) plain is told =
    let first : IsCommand c = All-head IsCommand c cs told in
    let move = moves_some blank old c is first in
    let more = runs_some moves_some moves_state blank move.1 cs plain (moves_state blank old move.1 c move.0 plain is first move.2) (All-tail IsCommand c cs told) in
    (move.0 ∷ more.0, more.1, (move.1, move.2, more.2))

pub runs_state : (moves_state : MovesState) (blank : NodeMap) (old new : State) (cs : List Command) (xs : List (Option Answer))
    → IsDocument blank
    → IsState old
    → All IsCommand cs
    → Runs blank old cs xs new
    → IsState new
runs_state moves_state blank old new [] [] plain is told h = subst IsState (sym h) is
runs_state moves_state blank old new [] (x ∷ xs) plain is told h = absurd h
runs_state moves_state blank old new (c ∷ cs) [] plain is told h = absurd h
runs_state moves_state blank old new (c ∷ cs) (None ∷ xs) plain is told h =
    runs_state moves_state blank h.0 new cs xs plain (subst IsState (sym h.1.1) is) (All-tail IsCommand c cs told) h.2
runs_state moves_state blank old new (c ∷ cs) (Some a ∷ xs) plain is told h =
    runs_state moves_state blank h.0 new cs xs plain (moves_state blank old h.0 c a plain is (All-head IsCommand c cs told) h.1) (All-tail IsCommand c cs told) h.2

pub runs_each : (blank : NodeMap) (old new : State) (cs : List Command) (xs : List (Option Answer))
    → Runs blank old cs xs new
    → length xs ≡ length cs
runs_each blank old new [] [] h = refl
runs_each blank old new [] (x ∷ xs) h = absurd h
runs_each blank old new (c ∷ cs) [] h = absurd h
runs_each blank old new (c ∷ cs) (x ∷ xs) h = cc (runs_each blank h.0 new cs xs h.2)

pub runs_after : (blank : NodeMap) (old mid new : State) (cs ds : List Command) (xs ys : List (Option Answer))
    → Runs blank old cs xs mid
    → Runs blank mid ds ys new
    → Runs blank old (cs ++ ds) (xs ++ ys) new
runs_after blank old mid new [] ds [] ys h k = subst (λ (s : State). Runs blank s ds ys new) h k
runs_after blank old mid new [] ds (x ∷ xs) ys h k = absurd h
runs_after blank old mid new (c ∷ cs) ds [] ys h k = absurd h
runs_after blank old mid new (c ∷ cs) ds (x ∷ xs) ys h k = (h.0, h.1, runs_after blank h.0 mid new cs ds xs ys h.2 k)

pub runs_needed : (blank : NodeMap) (old new : State) (cs ds : List Command) (c : Command) (xs ys : List (Option Answer))
    → length xs ≡ length cs
    → Runs blank old (cs ++ c ∷ ds) (xs ++ None ∷ ys) new
    → (mid : State) × Runs blank old cs xs mid × (NeedsNoMemory mid c → ⊥) × Runs blank mid ds ys new
runs_needed blank old new [] ds c [] ys e h = (old, refl, h.1.0, subst (λ (s : State). Runs blank s ds ys new) h.1.1 h.2)
runs_needed blank old new [] ds c (x ∷ xs) ys e h = absurd cc
runs_needed blank old new (d ∷ cs) ds c [] ys e h = absurd cc
runs_needed blank old new (d ∷ cs) ds c (x ∷ xs) ys e h =
    let rest : length xs ≡ length cs = cc in
    let more = runs_needed blank h.0 new cs ds c xs ys rest h.2 in
    (more.0, (h.0, h.1, more.1), more.2, more.3)

pub runs_without : (blank : NodeMap) (old new : State) (cs ds : List Command) (c : Command) (xs ys : List (Option Answer))
    → length xs ≡ length cs
    → Runs blank old (cs ++ c ∷ ds) (xs ++ None ∷ ys) new
    → Runs blank old (cs ++ ds) (xs ++ ys) new
runs_without blank old new cs ds c xs ys e h =
    let parts = runs_needed blank old new cs ds c xs ys e h in
    runs_after blank old parts.0 new cs ds xs ys parts.1 parts.3
