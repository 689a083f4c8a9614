-- One more step of a run. A property of all calls is one of the next call.
use Rattle.std.proofs.Common.{◌≡◌, List, [], ◌∷◌, ◌++◌, Option, refl, sym, subst}
use Rattle.std.specs.Prelude.{All}
use Rattle.std.proofs.lemmas.List.Elements.{All-head, All-tail}
use Rattle.jsonptr.specs.Node.{NodeMap}
use Rattle.jsonptr_session.specs.Machine.{State, Command, Answer, IsStep, Runs}

module _ (blank : NodeMap) where
  pub run_on : (old mid new : State) (cs : List Command) (answers : List (Option Answer)) (c : Command) (a : Option Answer)
      → Runs blank old cs answers mid
      → IsStep blank mid c a new
      → Runs blank old (cs ++ c ∷ []) (answers ++ a ∷ []) new
  run_on old mid new [] [] c a run step = (new, subst (λ (s : State). IsStep blank s c a new) run step, refl)
  run_on old mid new (d ∷ cs) (b ∷ answers) c a run step = (run.0, run.1, run_on run.0 mid new cs answers c a run.2 step)
  run_on old mid new [] (b ∷ answers) c a run step = absurd run
  run_on old mid new (d ∷ cs) [] c a run step = absurd run

pub each_at : {X : Type 0} (P : X → Type 0) (xs rest all : List X) (x : X)
    → xs ++ x ∷ rest ≡ all → All P all → P x
each_at P [] rest all x is h = All-head P x rest (subst (All P) (sym is) h)
each_at P (y ∷ xs) rest all x is h = each_at P xs rest (xs ++ x ∷ rest) x refl (All-tail P y (xs ++ x ∷ rest) (subst (All P) (sym is) h))
