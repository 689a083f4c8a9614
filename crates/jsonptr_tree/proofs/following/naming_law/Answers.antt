use Rattle.jsonptr_tree.proofs.NodeLemmas.{Names-iff, Names_one_path, Names_one_list, IsTree-named}
use Rattle.jsonptr_tree.proofs.FollowingLemmas.{one_each}
use Rattle.jsonptr_tree.proofs.following.naming_law.Goals as goal

pub returns-clause-whole : goal.returns-clause-whole
returns-clause-whole c = Names-iff

pub returns-clause-one_path : goal.returns-clause-one_path
returns-clause-one_path c = Names_one_path

pub returns-clause-one_list : goal.returns-clause-one_list
returns-clause-one_list c = Names_one_list

pub returns-clause-some_list : goal.returns-clause-some_list
returns-clause-some_list c = IsTree-named

pub returns-clause-one_each : goal.returns-clause-one_each
returns-clause-one_each c = one_each
