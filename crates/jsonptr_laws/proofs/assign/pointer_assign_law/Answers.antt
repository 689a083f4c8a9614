use Rattle.jsonptr_laws.proofs.assign.pointer_assign_law.Goals as goal

pub returns : goal.returns
returns c = λ n v tree. c.assign_law.ensures.some n _ v tree c.tokens_law.ensures
