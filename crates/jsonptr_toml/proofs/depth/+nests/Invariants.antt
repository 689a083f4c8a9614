use Rattle.std.proofs.Common.{◌≡◌, ℕ, ◌<◌, ◌≤◌, List, ◌++◌, get_or}
use Rattle.toml.specs.Data.{depth, members_depth}
use Rattle.toml.specs.View.{view, members_view}
use Rattle.toml.specs.declared.value.Value.{Value}
use Rattle.jsonptr_toml.proofs.DepthLemmas.{Entry}
use Rattle.jsonptr_toml.proofs.depth.+nests.Given as goal

abbrev pub invariant-elements_nest_within-loop-element : goal.invariant-elements_nest_within-loop-element
invariant-elements_nest_within-loop-element l = (i : ℕ) (x : Value) → i < l.element-index → depth (view (get_or l.element-items i x)) ≤ l.levels

abbrev pub invariant-table_nests_within-loop-key : goal.invariant-table_nests_within-loop-key
invariant-table_nests_within-loop-key l =
    (done : List Entry) × (l.table.entries ≡ done ++ l._key-iterator) × (members_depth (members_view done) ≤ l.levels)
