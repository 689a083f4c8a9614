use Rattle.std.proofs.Common.{◌≡◌, List, ◌++◌}
use Rattle.serde_json.proofs.Views.{Entry}
use Rattle.jsonptr_patch.proofs.TestingLemmas.{AllKeysIn}
use Rattle.jsonptr_patch.proofs.equality.has_keys_of.Given as goal

abbrev pub invariant-loop-key : goal.invariant-loop-key
invariant-loop-key l =
    (done : List Entry) × (l.others.entries ≡ done ++ l.key-iterator) × AllKeysIn l.members done
