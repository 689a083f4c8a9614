use Rattle.jsonptr_toml_edit.proofs.made.make.Goals as goal

pub returns-in-Assign-clause-bytes : goal.returns-in-Assign-clause-bytes
returns-in-Assign-clause-bytes c = rw c.in-Assign.is c.assigned.ensures.bytes

pub returns-in-Assign-clause-refused : goal.returns-in-Assign-clause-refused
returns-in-Assign-clause-refused c = rw c.in-Assign.is c.assigned.ensures.refused

pub returns-in-AssignValue-clause-refused : goal.returns-in-AssignValue-clause-refused
returns-in-AssignValue-clause-refused c = rw c.in-AssignValue.is c.value_assigned.ensures.refused

pub returns-in-Rename-clause-edited : goal.returns-in-Rename-clause-edited
returns-in-Rename-clause-edited c = rw c.in-Rename.is c.renamed.ensures.edited

pub returns-in-Rename-clause-bytes : goal.returns-in-Rename-clause-bytes
returns-in-Rename-clause-bytes c = rw c.in-Rename.is c.renamed.ensures.bytes

pub returns-in-Rename-clause-printed : goal.returns-in-Rename-clause-printed
returns-in-Rename-clause-printed c = rw c.in-Rename.is c.renamed.ensures.printed

pub returns-in-Rename-clause-refused : goal.returns-in-Rename-clause-refused
returns-in-Rename-clause-refused c = rw c.in-Rename.is c.renamed.ensures.refused
