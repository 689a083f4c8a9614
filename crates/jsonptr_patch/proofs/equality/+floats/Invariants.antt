use Rattle.std.proofs.Common.{◌≡◌, ℕ, ◌<◌, List, ◌++◌, get_or}
use Rattle.serde_json.specs.declared.value.Value.{Value}
use Rattle.serde_json.proofs.Views.{Entry}
use Rattle.jsonptr_patch.specs.PrivateTesting.{FloatIn}
use Rattle.jsonptr_patch.proofs.TestingLemmas.{NoFloats}
use Rattle.jsonptr_patch.proofs.equality.+floats.Given as goal

abbrev pub invariant-elements_have_float-loop-element : goal.invariant-elements_have_float-loop-element
invariant-elements_have_float-loop-element l = (i : ℕ) (x : Value) → i < l.element-index → FloatIn (get_or l.element-items i x) → ⊥

abbrev pub invariant-members_have_float-loop-key : goal.invariant-members_have_float-loop-key
invariant-members_have_float-loop-key l =
    (done : List Entry) × (l.members.entries ≡ done ++ l._key-iterator) × NoFloats done
