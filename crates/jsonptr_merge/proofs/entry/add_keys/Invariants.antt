use Rattle.std.proofs.Common.{◌≡◌, ◌⊎◌, List, ◌++◌, IsSome}
use Rattle.std.specs.BTreeMap.{get_by_text}
use Rattle.serde_json.proofs.Views.{Entry}
use Rattle.jsonptr.specs.Text.{Text}
use Rattle.jsonptr_merge.proofs.ObjectLemmas.{found_under}
use Rattle.jsonptr_merge.proofs.entry.add_keys.Given as goal

abbrev pub invariant-loop-key : goal.invariant-loop-key
invariant-loop-key l = record {
  done : List Entry;
  rest : l.members.entries ≡ done ++ l.key-iterator;
  each : (k : Text) → IsSome (found_under k done) ⊎ IsSome (get_by_text l.fn.keys k) → IsSome (get_by_text l.keys k);
}
