use Rattle.jsonptr_patch.proofs.later.take_plain.Goals as goal

pub returns-in-Ok : goal.returns-in-Ok
returns-in-Ok c = record { blank = c.in-Ok.ensures.replaced; undone = (c.requires, c.in-Ok.ensures.replaced) }
