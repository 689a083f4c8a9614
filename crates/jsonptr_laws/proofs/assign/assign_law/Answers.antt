use Rattle.jsonptr_laws.proofs.AssignLemmas.{assigned_or_refused, refused_not_assigned, refusal_one}
use Rattle.jsonptr_tree.proofs.AssigningLemmas.{Assigns_one}
use Rattle.jsonptr_laws.proofs.assign.assign_law.Goals as goal

pub returns : goal.returns
returns c = record {
  some = assigned_or_refused c.index_law.ensures.some;
  not_both = refused_not_assigned;
  one_made = Assigns_one;
  one = refusal_one c.index_law.ensures.one;
}
