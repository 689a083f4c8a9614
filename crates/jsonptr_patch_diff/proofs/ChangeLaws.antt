-- Where the changes of one document into another are.
use Rattle.std.proofs.Common.{◌≡◌, List, [], ◌∷◌, ◌++◌, IsSome, refl}
use Rattle.serde_json.specs.Data.{Data}
use Rattle.jsonptr.specs.Text.{Text}
use Rattle.jsonptr.specs.Node.{NodeMap, sub}
use Rattle.jsonptr.specs.Json.{nodes}
use Rattle.jsonptr_patch.specs.declared.operation.Operation.{Operation}
use Rattle.jsonptr_patch.specs.declared.operation.Operation.TheVariants.{Add, Remove, Replace, Move, Copy, Test}
use Rattle.jsonptr_patch_diff.specs.Diff.{keys, DifferAlong, AreOfOneKind, GoesThroughBoth, IsChange, operation_path}

-- what holds of the pointer of each change
changes_differ : (n m : NodeMap) (o : Operation) → IsChange n m o → DifferAlong n m (operation_path o)
changes_differ n m (Add path value) h = h.0
changes_differ n m (Remove path) h = h.0
changes_differ n m (Replace path value) h = h.0
changes_differ n m (Move from path) h = absurd h
changes_differ n m (Copy from path) h = absurd h
changes_differ n m (Test path value) h = absurd h

changes_go : (n m : NodeMap) (o : Operation) → IsChange n m o → GoesThroughBoth n m (operation_path o)
changes_go n m (Add path value) h = h.2
changes_go n m (Remove path) h = h.2
changes_go n m (Replace path value) h = h.2
changes_go n m (Move from path) h = absurd h
changes_go n m (Copy from path) h = absurd h
changes_go n m (Test path value) h = absurd h

pub no_change : (d : Data) (o : Operation) → IsChange (nodes d) (nodes d) o → ⊥
no_change d o h = changes_differ (nodes d) (nodes d) o h [] (operation_path o) refl refl refl

pub unchanged : (n m : NodeMap) (o : Operation) (front rest : List Text) → IsSome (n (keys front)) → sub n (keys front) ≡ sub m (keys front) → IsChange n m o → operation_path o ≡ front ++ rest → ⊥
unchanged n m o front rest some same h is = changes_differ n m o h front rest is some same

pub as_a_whole : (n m : NodeMap) (o : Operation) (front rest : List Text) (x : Text) → IsSome (n (keys front)) → (AreOfOneKind (n (keys front)) (m (keys front)) → ⊥) → IsChange n m o → operation_path o ≡ front ++ x ∷ rest → ⊥
as_a_whole n m o front rest x some other h is = other (changes_go n m o h front x rest is some)
