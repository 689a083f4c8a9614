-- What one operation makes of a document, and when it fails (RFC 6902, section 4).
use Rattle.std.specs.Prelude.{◌≡◌, ℕ, ◌⊎◌, List, ◌∷◌, ◌++◌}
use Rattle.serde_json.specs.Data.{null}
use Rattle.serde_json.specs.View.{view}
use Rattle.serde_json.specs.declared.value.Value.{Value}
use Rattle.jsonptr.specs.Text.{Text}
use Rattle.jsonptr.specs.Node.{NodeMap}
use Rattle.jsonptr.specs.Following.{Finds}
use Rattle.jsonptr.specs.Json.{nodes}
use Rattle.jsonptr.specs.Removing.{Deletes}
use Rattle.jsonptr.specs.Resolve.{Refuses, PutsAt}
use Rattle.jsonptr.specs.declared.resolve.Error.{Error as ResolveError}
use Rattle.jsonptr.specs.declared.assign.Error.{Error as AssignError}
use Rattle.jsonptr_patch.specs.Adding.{Adds, LacksTarget, LacksPlace}
use Rattle.jsonptr_patch.specs.Failing.{no_target, bad_place, move_into_self, test_float, test_failed}
use Rattle.jsonptr_patch.specs.Testing.{IsEqualBy, IsEqual, HasFloat}
use Rattle.jsonptr_patch.specs.declared.comparison.Comparison.{Comparison}
use Rattle.jsonptr_patch.specs.declared.comparison.Comparison.TheVariants.{Strict, Numeric}
use Rattle.jsonptr_patch.specs.declared.failed_operation.FailedOperation.{FailedOperation}
use Rattle.jsonptr_patch.specs.declared.failed_operation.PatchPointer.{PatchPointer}
use Rattle.jsonptr_patch.specs.declared.failed_operation.PatchPointer.TheVariants as pointer
use Rattle.jsonptr_patch.specs.declared.operation.Operation.{Operation}
use Rattle.jsonptr_patch.specs.declared.operation.Operation.TheVariants.{Add, Remove, Replace, Move, Copy, Test}

-- `Takes n tokens v m`: `tokens` evaluate to the map `v` in `n`, and `m` is `n` without it. Removing the root leaves
-- `null`
pub record Takes (n : NodeMap) (tokens : List Text) (v m : NodeMap) : Type 0 where
  pub found : Finds n tokens v
  pub left : Deletes n tokens (nodes null) m

-- `IsProperPrefix front tokens`: `front` is a proper prefix of `tokens`
abbrev pub IsProperPrefix : List Text → List Text → Type 0
IsProperPrefix front tokens = (x : Text) × (rest : List Text) × (tokens ≡ front ++ x ∷ rest)

-- `Moves n from path m`: moving the node at `from` to `path` turns `n` into `m`. It is removed, and then added to
-- what is left (RFC 6902, section 4.4)
pub record Moves (n : NodeMap) (from path : List Text) (m : NodeMap) : Type 0 where
  pub node : NodeMap
  pub left : NodeMap
  pub apart : IsProperPrefix from path → ⊥
  pub taken : Takes n from node left
  pub added : Adds left path node m

-- `Copies n from path m`: adding a copy of the node at `from` at `path` turns `n` into `m` (RFC 6902, section 4.5)
pub record Copies (n : NodeMap) (from path : List Text) (m : NodeMap) : Type 0 where
  pub node : NodeMap
  pub found : Finds n from node
  pub added : Adds n path node m

-- `Compares n tokens v target`: `target` is the node at `tokens` in `n`, and neither it nor `v` contains a float
pub record Compares (n : NodeMap) (tokens : List Text) (v target : NodeMap) : Type 0 where
  pub found : Finds n tokens target
  pub target_plain : HasFloat target → ⊥
  pub value_plain : HasFloat v → ⊥

-- `PassesBy c n tokens v`: the test that the node at `tokens` equals `v`, compared as `c`, passes (RFC 6902, section 4.6).
-- Strictly, neither contains a float
abbrev pub PassesBy : Comparison → NodeMap → List Text → NodeMap → Type 0
PassesBy Strict n tokens v = (target : NodeMap) × Compares n tokens v target × IsEqual target v
PassesBy Numeric n tokens v = (target : NodeMap) × Finds n tokens target × IsEqualBy Numeric target v

-- `Passes n tokens v`: the strict test passes
abbrev pub Passes : NodeMap → List Text → NodeMap → Type 0
Passes n tokens v = PassesBy Strict n tokens v

-- `AppliesBy c n o m`: operation `o` turns `n` into `m`, where a test compares as `c`
abbrev pub AppliesBy : Comparison → NodeMap → Operation → NodeMap → Type 0
AppliesBy c n (Add path value) m = Adds n path (nodes (view value)) m
AppliesBy c n (Remove path) m = (v : NodeMap) × Takes n path v m
AppliesBy c n (Replace path value) m = PutsAt n path (nodes (view value)) m
AppliesBy c n (Move from path) m = Moves n from path m
AppliesBy c n (Copy from path) m = Copies n from path m
AppliesBy c n (Test path value) m = PassesBy c n path (nodes (view value)) × (m ≡ n)

-- `Applies n o m`: operation `o` turns `n` into `m`, where a test is strict
abbrev pub Applies : NodeMap → Operation → NodeMap → Type 0
Applies n o m = AppliesBy Strict n o m

-- `RefusesTarget n k at tokens e`: evaluating `tokens` fails, and `e` reports why, for the pointer `at` of operation
-- number `k`
abbrev pub RefusesTarget : NodeMap → ℕ → PatchPointer → List Text → FailedOperation → Type 0
RefusesTarget n k at tokens e = (cause : ResolveError) × (e ≡ no_target k at cause) × Refuses n tokens cause

-- `RefusesAdd n k tokens e`: nothing can be added at `tokens`, and `e` reports why, for operation number `k`
abbrev pub RefusesAdd : NodeMap → ℕ → List Text → FailedOperation → Type 0
RefusesAdd n k tokens e =
    ((cause : ResolveError) × (e ≡ no_target k pointer.Path cause) × LacksTarget n tokens cause)
    ⊎ ((cause : AssignError) × (e ≡ bad_place k cause) × LacksPlace n tokens cause)

-- `RefusesMoveIntoSelf k from path e`: a node cannot be moved below itself, and `e` reports that, for operation number `k`
abbrev pub RefusesMoveIntoSelf : ℕ → List Text → List Text → FailedOperation → Type 0
RefusesMoveIntoSelf k from path e = (e ≡ move_into_self k) × IsProperPrefix from path

-- `RefusesMove n k from path e`: moving from `from` to `path` fails with `e`. The node would be moved below itself,
-- or does not exist, or cannot be added to what is left without it
abbrev pub RefusesMove : NodeMap → ℕ → List Text → List Text → FailedOperation → Type 0
RefusesMove n k from path e =
    RefusesMoveIntoSelf k from path e
    ⊎ ((IsProperPrefix from path → ⊥)
    × (RefusesTarget n k pointer.From from e
    ⊎ ((node left : NodeMap) × Takes n from node left × RefusesAdd left k path e)))

-- `RefusesCopy n k from path e`: copying from `from` to `path` fails with `e`. The node does not exist, or cannot be
-- added
abbrev pub RefusesCopy : NodeMap → ℕ → List Text → List Text → FailedOperation → Type 0
RefusesCopy n k from path e =
    RefusesTarget n k pointer.From from e ⊎ ((node : NodeMap) × Finds n from node × RefusesAdd n k path e)

-- `RefusesComparing c n k tokens v e`: the node at `tokens` does not equal `v`, compared as `c`, and `e` reports that. A
-- strict test first reports a float in one of the two
abbrev pub RefusesComparing : Comparison → NodeMap → ℕ → List Text → NodeMap → FailedOperation → Type 0
RefusesComparing Strict n k tokens v e =
    ((e ≡ test_float k) × (target : NodeMap) × Finds n tokens target × (HasFloat target ⊎ HasFloat v))
    ⊎ ((e ≡ test_failed k) × (target : NodeMap) × Compares n tokens v target × (IsEqual target v → ⊥))
RefusesComparing Numeric n k tokens v e =
    (e ≡ test_failed k) × (target : NodeMap) × Finds n tokens target × (IsEqualBy Numeric target v → ⊥)

-- `RefusesTestBy c n k tokens v e`: the test fails with `e`. There is no node at `tokens`, or it does not equal `v`
abbrev pub RefusesTestBy : Comparison → NodeMap → ℕ → List Text → NodeMap → FailedOperation → Type 0
RefusesTestBy c n k tokens v e = RefusesTarget n k pointer.Path tokens e ⊎ RefusesComparing c n k tokens v e

-- `RefusesTest n k tokens v e`: the strict test fails with `e`
abbrev pub RefusesTest : NodeMap → ℕ → List Text → NodeMap → FailedOperation → Type 0
RefusesTest n k tokens v e = RefusesTestBy Strict n k tokens v e

-- `RefusesOperationBy c n k o e`: operation `o`, with number `k`, fails on `n` with `e`, where a test compares as `c`
abbrev pub RefusesOperationBy : Comparison → NodeMap → ℕ → Operation → FailedOperation → Type 0
RefusesOperationBy c n k (Add path value) e = RefusesAdd n k path e
RefusesOperationBy c n k (Remove path) e = RefusesTarget n k pointer.Path path e
RefusesOperationBy c n k (Replace path value) e = RefusesTarget n k pointer.Path path e
RefusesOperationBy c n k (Move from path) e = RefusesMove n k from path e
RefusesOperationBy c n k (Copy from path) e = RefusesCopy n k from path e
RefusesOperationBy c n k (Test path value) e = RefusesTestBy c n k path (nodes (view value)) e

-- `RefusesOperation n k o e`: operation `o`, with number `k`, fails on `n` with `e`, where a test is strict
abbrev pub RefusesOperation : NodeMap → ℕ → Operation → FailedOperation → Type 0
RefusesOperation n k o e = RefusesOperationBy Strict n k o e

-- `RestoresAt n tokens o`: operation `o` adds at `tokens` the value that is there in `n`
abbrev pub RestoresAt : NodeMap → List Text → Operation → Type 0
RestoresAt n tokens o = (value : Value) × (o ≡ Add tokens value) × Finds n tokens (nodes (view value))
