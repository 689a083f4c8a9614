use Rattle.std.proofs.Common.{◌≡◌, ℕ, ◌<◌, List, ◌++◌, get_or}
use Rattle.serde_json.specs.declared.value.Value.{Value}
use Rattle.serde_json.proofs.Views.{Entry}
use Rattle.jsonptr_patch.specs.PrivateTesting.{SameValueBy}
use Rattle.jsonptr_patch.proofs.TestingLemmas.{AllSame}
use Rattle.jsonptr_patch.proofs.equality.+equal.Given as goal

abbrev pub invariant-same_elements-loop-index : goal.invariant-same_elements-loop-index
invariant-same_elements-loop-index l = (i : ℕ) (x : Value) → i < l.index → SameValueBy l.comparison (get_or l.left.items i x) (get_or l.right.items i x)

abbrev pub invariant-same_members-loop-key : goal.invariant-same_members-loop-key
invariant-same_members-loop-key l =
    (done : List Entry) × (l.left.entries ≡ done ++ l.key-iterator) × AllSame l.comparison l.right done
