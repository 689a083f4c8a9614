use Rattle.jsonptr_text_edit.proofs.made.make.Goals as goal

pub returns-in-Assign-clause-bytes : goal.returns-in-Assign-clause-bytes
returns-in-Assign-clause-bytes c = rw c.in-Assign.is c.assigned.ensures.bytes

pub returns-in-Rename-clause-bytes : goal.returns-in-Rename-clause-bytes
returns-in-Rename-clause-bytes c = rw c.in-Rename.is c.renamed.ensures.bytes
