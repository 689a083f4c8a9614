use Rattle.jsonptr_patch.proofs.WaitingLemmas.{freed_stands}
use Rattle.jsonptr_patch.proofs.later.settle.Goals as goal

pub returns-then-take_place-clause-there : goal.returns-then-take_place-clause-there
returns-then-take_place-clause-there c = λ n p.
    let r = c.take_place.ensures.frees c.if-take_place.true n p in
    (r.0, r.1, freed_stands c.args.document.now r.0 n c.args.operation.now c.take_place.new.later.items r.1 r.2)
