use Rattle.jsonptr_laws.proofs.resolve.pointer_law.Goals as goal

pub returns : goal.returns
returns c = λ n tree. c.resolve_law.ensures.some n _ tree c.tokens_law.ensures
