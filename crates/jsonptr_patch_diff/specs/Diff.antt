-- Which operations the difference of two documents consists of.
use Rattle.std.specs.Prelude.{◌≡◌, ℕ, ◌<◌, ◌≤◌, ◌⊎◌, List, [], ◌∷◌, ◌++◌, Option, Some, None, IsSome, ⊤}
use Rattle.serde_json.specs.Data.{Data, depth}
use Rattle.serde_json.specs.View.{view}
use Rattle.jsonptr.specs.Text.{Text, dec}
use Rattle.jsonptr.specs.Json.{nodes}
use Rattle.jsonptr.specs.Node.{Step, key, place, Path, Label, an_object, an_array, NodeMap, sub, Names}
use Rattle.jsonptr_patch.specs.Operating.{Applies}
use Rattle.jsonptr_patch.specs.declared.operation.Operation.{Operation}
use Rattle.jsonptr_patch.specs.declared.operation.Operation.TheVariants.{Add, Remove, Replace, Move, Copy, Test}

-- `keys ts`: the path on which each of the tokens `ts` is the key of a member
abbrev pub keys : List Text → Path
keys [] = []
keys (x ∷ xs) = key x ∷ keys xs

-- `DifferAlong n m ts`: each value of `n` that a prefix of the tokens `ts` leads to through objects differs from that of `m`
abbrev pub DifferAlong : NodeMap → NodeMap → List Text → Type 0
DifferAlong n m ts =
    (front rest : List Text) → ts ≡ front ++ rest → IsSome (n (keys front))
    → sub n (keys front) ≡ sub m (keys front) → ⊥

-- `AreOfOneKind k l`: both labels are those of objects, or both are those of arrays
abbrev pub AreOfOneKind : Option Label → Option Label → Type 0
AreOfOneKind k l =
    ((k ≡ Some an_object) × (l ≡ Some an_object))
    ⊎ ((i j : ℕ) × (k ≡ Some (an_array i)) × (l ≡ Some (an_array j)))

-- `GoesThroughBoth n m ts`: each value of `n` that a proper prefix of the tokens `ts` leads to through objects is an object in
-- both maps, or an array in both
abbrev pub GoesThroughBoth : NodeMap → NodeMap → List Text → Type 0
GoesThroughBoth n m ts =
    (front : List Text) (x : Text) (rest : List Text) → ts ≡ front ++ x ∷ rest → IsSome (n (keys front))
    → AreOfOneKind (n (keys front)) (m (keys front))

-- `IsChange n m o`: the operation `o` adds, removes or replaces a value. As far as objects lead from the root, all that its
-- pointer leads through differs in the maps `n` and `m`, and is an object or an array in both. What it adds is no member of an
-- object of `n`, and what it removes none of one of `m`. What it replaces is not an object in both, and not an array in both
abbrev pub IsChange : NodeMap → NodeMap → Operation → Type 0
IsChange n m (Add path value) = DifferAlong n m path × (n (keys path) ≡ None) × GoesThroughBoth n m path
IsChange n m (Remove path) = DifferAlong n m path × (m (keys path) ≡ None) × GoesThroughBoth n m path
IsChange n m (Replace path value) =
    DifferAlong n m path × (AreOfOneKind (n (keys path)) (m (keys path)) → ⊥) × GoesThroughBoth n m path
IsChange n m o = ⊥

-- `IsDoneBefore n m front s`: if the step `s` is to an element of the array at `front`, those before it are those of `m` already
abbrev pub IsDoneBefore : NodeMap → NodeMap → Path → Step → Type 0
IsDoneBefore n m front (key k) = ⊤
IsDoneBefore n m front (place i) = (j : ℕ) → j < i → sub n (front ++ place j ∷ []) ≡ sub m (front ++ place j ∷ [])

-- `LeadsInBoth n m w`: each step of the path `w` is from an object in both maps, or from an array in both, whose elements before
-- are those of `m` already
abbrev pub LeadsInBoth : NodeMap → NodeMap → Path → Type 0
LeadsInBoth n m w =
    (front : Path) (s : Step) (rest : Path) → w ≡ front ++ s ∷ rest
    → AreOfOneKind (n front) (m front) × IsDoneBefore n m front s

-- `HasNoMember n w s`: if the step `s`, which is the last of the path `w`, is to a member, `n` has none there
abbrev pub HasNoMember : NodeMap → Path → Step → Type 0
HasNoMember n w (key k) = n w ≡ None
HasNoMember n w (place i) = ⊤

-- `IsTokenOf x s`: the token `x` is that of the step `s`
abbrev pub IsTokenOf : Text → Step → Type 0
IsTokenOf x (key k) = x ≡ k
IsTokenOf x (place i) = x ≡ dec i

-- `Replaces n m ts v`: what the tokens `ts` name in `n` becomes `v`, which is what `m` has there. It is another value in `n`, and
-- not an object in both, nor an array in both
pub record Replaces (n m : NodeMap) (ts : List Text) (v : Data) : Type 0 where
  pub at : Path
  pub named : Names n ts at
  pub leads : LeadsInBoth n m at
  pub other : AreOfOneKind (n at) (m at) → ⊥
  pub differs : sub n at ≡ sub m at → ⊥
  pub final : nodes v ≡ sub m at

-- `Removes n m ts`: what the tokens `ts` name in `n` goes. A member is one that `m` does not have
pub record Removes (n m : NodeMap) (ts : List Text) : Type 0 where
  pub front : Path
  pub step : Step
  pub named : Names n ts (front ++ step ∷ [])
  pub leads : LeadsInBoth n m (front ++ step ∷ [])
  pub gone : HasNoMember m (front ++ step ∷ []) step

-- `Brings n m ts v`: at the tokens `ts` comes `v`, which is what `m` has there. A member is one that `n` does not have
pub record Brings (n m : NodeMap) (ts : List Text) (v : Data) : Type 0 where
  pub front : List Text
  pub token : Text
  pub split : ts ≡ front ++ token ∷ []
  pub at : Path
  pub step : Step
  pub named : Names n front at
  pub refers : IsTokenOf token step
  pub leads : LeadsInBoth n m (at ++ step ∷ [])
  pub vacant : HasNoMember n (at ++ step ∷ []) step
  pub final : nodes v ≡ sub m (at ++ step ∷ [])

-- `IsStepTo m n o`: the operation `o`, applied to `n`, is a step to the document `m`
abbrev pub IsStepTo : NodeMap → NodeMap → Operation → Type 0
IsStepTo m n (Add path value) = Brings n m path (view value)
IsStepTo m n (Remove path) = Removes n m path
IsStepTo m n (Replace path value) = Replaces n m path (view value)
IsStepTo m n o = ⊥

-- `StepsTo m n os k`: the operations `os` turn `n` into `k`, and each is a step to `m` from the document it is applied to
abbrev pub StepsTo : NodeMap → NodeMap → List Operation → NodeMap → Type 0
StepsTo m n [] k = k ≡ n
StepsTo m n (o ∷ os) k = (next : NodeMap) × IsStepTo m n o × Applies n o next × StepsTo m next os k

-- `HasValueWithin k o`: the value of the operation `o`, if it has one, nests at most `k` levels deep
abbrev pub HasValueWithin : ℕ → Operation → Type 0
HasValueWithin k (Add path value) = depth (view value) ≤ k
HasValueWithin k (Replace path value) = depth (view value) ≤ k
HasValueWithin k (Test path value) = depth (view value) ≤ k
HasValueWithin k o = ⊤

-- `operation_path o`: the tokens of the pointer of the operation `o`
abbrev pub operation_path : Operation → List Text
operation_path (Add path value) = path
operation_path (Remove path) = path
operation_path (Replace path value) = path
operation_path (Move from path) = path
operation_path (Copy from path) = path
operation_path (Test path value) = path
