-- Which documents no merge patch makes, and which error says so.
use Rattle.std.specs.Prelude.{◌≡◌, ◌≢◌, ◌<◌, ◌≤◌, ◌⊎◌, List, [], ◌∷◌, ◌++◌, Some}
use Rattle.serde_json.specs.Data.{Data, depth}
use Rattle.serde_json.specs.Read.{max_depth}
use Rattle.jsonptr.specs.Text.{Text}
use Rattle.jsonptr.specs.Json.{nodes}
use Rattle.jsonptr.specs.Node.{an_object, NodeMap}
use Rattle.jsonptr_patch_diff.specs.Diff.{keys}
use Rattle.jsonptr_merge.specs.MergePatch.{null_label}
use Rattle.jsonptr_merge.specs.Values.{IsBefore}
use Rattle.jsonptr_merge.specs.declared.error.MergePatchError.{MergePatchError}
use Rattle.jsonptr_merge.specs.declared.error.MergePatchError.TheVariants.{NullMember, TooDeep}

-- `LeadsToNewNull old new ts`: the keys `ts` lead through objects to a `null` in `new` that is not there in `old`
pub record LeadsToNewNull (old new : NodeMap) (ts : List Text) : Type 0 where
  pub null : new (keys ts) ≡ Some null_label
  pub not_before : old (keys ts) ≢ Some null_label
  pub above : (front : List Text) (x : Text) (rest : List Text) → ts ≡ front ++ x ∷ rest
      → new (keys front) ≡ Some an_object

-- `IsNewNull old new ts`: below the root, the keys `ts` lead to such a `null`
abbrev pub IsNewNull : NodeMap → NodeMap → List Text → Type 0
IsNewNull old new ts = (ts ≢ []) × LeadsToNewNull old new ts

-- `IsFirstNewNull old new ts`: the keys `ts` lead to the first such `null`
abbrev pub IsFirstNewNull : NodeMap → NodeMap → List Text → Type 0
IsFirstNewNull old new ts =
    IsNewNull old new ts × ((us : List Text) → IsNewNull old new us → IsBefore us ts → ⊥)

-- `AreWithinDepth old new`: both documents nest no deeper than those that `serde_json` reads
abbrev pub AreWithinDepth : Data → Data → Type 0
AreWithinDepth old new = (depth old ≤ max_depth) × (depth new ≤ max_depth)

-- `IsMergePatchError old new e`: `e` says why there is no merge patch from `old` to `new`. How deep they
-- nest comes first
abbrev pub IsMergePatchError : Data → Data → MergePatchError → Type 0
IsMergePatchError old new (NullMember path) = AreWithinDepth old new × IsFirstNewNull (nodes old) (nodes new) path
IsMergePatchError old new TooDeep = (max_depth < depth old) ⊎ (max_depth < depth new)
