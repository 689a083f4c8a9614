use Rattle.jsonptr_tree.proofs.AssigningLemmas.{Assigns-some, Assigns-LandsNowhere, Assigns_one, Assigns-there, Assigns-Finds, Assigns-frame, Assigns-above, Assigns-longer, Assigns-tree, Assigns-finite}
use Rattle.jsonptr_tree.proofs.writing.assigning_law.Goals as goal

pub returns-clause-made : goal.returns-clause-made
returns-clause-made c = Assigns-some

pub returns-clause-not_both : goal.returns-clause-not_both
returns-clause-not_both c = Assigns-LandsNowhere

pub returns-clause-one_map : goal.returns-clause-one_map
returns-clause-one_map c = Assigns_one

pub returns-clause-there : goal.returns-clause-there
returns-clause-there c = Assigns-there

pub returns-clause-others : goal.returns-clause-others
returns-clause-others c = Assigns-frame

pub returns-clause-tree : goal.returns-clause-tree
returns-clause-tree c = Assigns-tree

pub returns-clause-finite : goal.returns-clause-finite
returns-clause-finite c = Assigns-finite

pub returns-clause-way : goal.returns-clause-way
returns-clause-way c = Assigns-above

pub returns-clause-longer : goal.returns-clause-longer
returns-clause-longer c = Assigns-longer

pub returns-clause-finds : goal.returns-clause-finds
returns-clause-finds c = Assigns-Finds
