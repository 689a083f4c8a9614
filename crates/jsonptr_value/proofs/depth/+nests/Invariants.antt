use Rattle.std.proofs.Common.{◌≡◌, ℕ, ◌<◌, ◌≤◌, List, ◌++◌, get_or}
use Rattle.serde_json.specs.Data.{depth, members_depth}
use Rattle.serde_json.specs.View.{view, members_view}
use Rattle.serde_json.specs.declared.value.Value.{Value}
use Rattle.serde_json.proofs.Views.{Entry}
use Rattle.jsonptr_value.proofs.depth.+nests.Given as goal

abbrev pub invariant-elements_within-loop-element : goal.invariant-elements_within-loop-element
invariant-elements_within-loop-element l = (i : ℕ) (x : Value) → i < l.element-index → depth (view (get_or l.element-items i x)) ≤ l.levels

abbrev pub invariant-members_within-loop-key : goal.invariant-members_within-loop-key
invariant-members_within-loop-key l =
    (done : List Entry) × (l.members.entries ≡ done ++ l._key-iterator) × (members_depth (members_view done) ≤ l.levels)
