use Rattle.std.proofs.Common.{◌≡◌, length}
use Rattle.jsonptr_patch_journal.specs.Children.{members_of, put_all, HasAll}
use Rattle.jsonptr_patch_journal.proofs.members.fill.Given as goal

abbrev pub invariant-loop-key : goal.invariant-loop-key
invariant-loop-key l =
    HasAll (members_of l.members) (members_of l.room)
    × (put_all (members_of l.members) (members_of l.room) ≡ put_all (members_of l.fn.members) (members_of l.fn.room))

abbrev pub decreases-loop-key : goal.decreases-loop-key
decreases-loop-key l = length l.members.entries
