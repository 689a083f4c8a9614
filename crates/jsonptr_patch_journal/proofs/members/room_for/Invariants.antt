use Rattle.std.proofs.Common.{◌≡◌, List, ◌++◌, String, Global}
use Rattle.serde_json.specs.declared.value.Value.{Value}
use Rattle.jsonptr_patch_journal.specs.Children.{members_in, members_of}
use Rattle.jsonptr_patch_journal.proofs.MembersLemmas.{SameKeys}
use Rattle.jsonptr_patch_journal.proofs.members.room_for.Given as goal

abbrev pub invariant-loop-key : goal.invariant-loop-key
invariant-loop-key l =
    (done : List (String Global × Value)) × (l.members.entries ≡ done ++ l.key-iterator) × SameKeys (members_of l.room) (members_in done)
