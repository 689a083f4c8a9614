use Rattle.std.proofs.Common.{◌≡◌, ℕ, ◌<◌, List, ◌++◌, get_or}
use Rattle.toml.specs.View.{view}
use Rattle.toml.specs.declared.value.Value.{Value}
use Rattle.toml.proofs.Views.{Entry}
use Rattle.jsonptr_toml_edit.proofs.SameLemmas.{AllSame}
use Rattle.jsonptr_toml_edit.proofs.same_toml.+same.Given as goal

abbrev pub invariant-same_elements-loop-index : goal.invariant-same_elements-loop-index
invariant-same_elements-loop-index l = (i : ℕ) (x : Value) → i < l.index → view (get_or l.left.items i x) ≡ view (get_or l.right.items i x)

abbrev pub invariant-same_members-loop-key : goal.invariant-same_members-loop-key
invariant-same_members-loop-key l = record {
  done : List Entry;
  also : List Entry;
  left : l.left.entries ≡ done ++ l.key-iterator;
  right : l.right.entries ≡ also ++ l.others;
  same : AllSame done also;
}
