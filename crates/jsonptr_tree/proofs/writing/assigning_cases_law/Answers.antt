use Rattle.jsonptr_tree.proofs.AssigningLemmas.{Assigns-named, Assigns-leaf, Assigns-object, Assigns-end}
use Rattle.jsonptr_tree.proofs.writing.assigning_cases_law.Goals as goal

pub returns-clause-named : goal.returns-clause-named
returns-clause-named c = Assigns-named

pub returns-clause-scalar : goal.returns-clause-scalar
returns-clause-scalar c = Assigns-leaf

pub returns-clause-member : goal.returns-clause-member
returns-clause-member c = Assigns-object

pub returns-clause-element : goal.returns-clause-element
returns-clause-element c = Assigns-end
