use Rattle.jsonptr_tree.proofs.FollowingLemmas.{StopsAt-iff, StopsAt_one, StopsBefore_one, Finds_one, follows, Finds-StopsBefore, StopsBefore-object, StopsBefore-array}
use Rattle.jsonptr_tree.proofs.following.following_law.Goals as goal

pub returns-clause-stop : goal.returns-clause-stop
returns-clause-stop c = StopsAt-iff

pub returns-clause-one_stop : goal.returns-clause-one_stop
returns-clause-one_stop c = StopsAt_one

pub returns-clause-one_fault : goal.returns-clause-one_fault
returns-clause-one_fault c = StopsBefore_one

pub returns-clause-one_find : goal.returns-clause-one_find
returns-clause-one_find c = Finds_one

pub returns-clause-ends : goal.returns-clause-ends
returns-clause-ends c = follows

pub returns-clause-not_both : goal.returns-clause-not_both
returns-clause-not_both c = Finds-StopsBefore

pub returns-clause-at_object : goal.returns-clause-at_object
returns-clause-at_object c = StopsBefore-object

pub returns-clause-at_array : goal.returns-clause-at_array
returns-clause-at_array c = StopsBefore-array
