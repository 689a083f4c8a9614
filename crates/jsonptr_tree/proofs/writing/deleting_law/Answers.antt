use Rattle.jsonptr_tree.proofs.RemovingLemmas.{Deletes-some, Deletes_one, member_gone, member_others, member_forgotten, element_less, element_before, element_after, element_others, element_lower, element_kept, member_frame, element_frame, Deletes-tree, Deletes-finite}
use Rattle.jsonptr_tree.proofs.writing.deleting_law.Goals as goal

pub returns-clause-made : goal.returns-clause-made
returns-clause-made c = Deletes-some

pub returns-clause-one_map : goal.returns-clause-one_map
returns-clause-one_map c = Deletes_one

pub returns-clause-member : goal.returns-clause-member
returns-clause-member c = member_gone

pub returns-clause-members : goal.returns-clause-members
returns-clause-members c = member_others

pub returns-clause-shorter : goal.returns-clause-shorter
returns-clause-shorter c = element_less

pub returns-clause-earlier : goal.returns-clause-earlier
returns-clause-earlier c = element_before

pub returns-clause-later : goal.returns-clause-later
returns-clause-later c = element_after

pub returns-clause-elsewhere : goal.returns-clause-elsewhere
returns-clause-elsewhere c = element_others

pub returns-clause-tree : goal.returns-clause-tree
returns-clause-tree c = Deletes-tree

pub returns-clause-finite : goal.returns-clause-finite
returns-clause-finite c = Deletes-finite

pub returns-clause-found_lower : goal.returns-clause-found_lower
returns-clause-found_lower c = element_lower

pub returns-clause-found_before : goal.returns-clause-found_before
returns-clause-found_before c = element_kept

pub returns-clause-found_beside : goal.returns-clause-found_beside
returns-clause-found_beside c = member_frame

pub returns-clause-found_elsewhere : goal.returns-clause-found_elsewhere
returns-clause-found_elsewhere c = element_frame

pub returns-clause-forgotten : goal.returns-clause-forgotten
returns-clause-forgotten c = member_forgotten
