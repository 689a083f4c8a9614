use Rattle.std.proofs.Common.{refl}
use Rattle.jsonptr_tree.proofs.ExpansionLemmas.{expanded_array, expanded_object, IsTree-expanded, IsListed-expanded, Finds-expanded}
use Rattle.jsonptr_tree.proofs.writing.expansion_law.Goals as goal

pub returns-clause-nothing : goal.returns-clause-nothing
returns-clause-nothing c = λ v. refl

pub returns-clause-array : goal.returns-clause-array
returns-clause-array c = expanded_array

pub returns-clause-object : goal.returns-clause-object
returns-clause-object c = expanded_object

pub returns-clause-tree : goal.returns-clause-tree
returns-clause-tree c = IsTree-expanded

pub returns-clause-finite : goal.returns-clause-finite
returns-clause-finite c = IsListed-expanded

pub returns-clause-finds : goal.returns-clause-finds
returns-clause-finds c = Finds-expanded
