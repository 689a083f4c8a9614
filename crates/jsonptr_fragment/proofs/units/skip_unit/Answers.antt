use Rattle.jsonptr_fragment.proofs.UnitLemmas.{has_unit}
use Rattle.jsonptr_fragment.proofs.units.skip_unit.Goals as goal

pub returns-in-None : goal.returns-in-None
returns-in-None c = absurd (has_unit c.args.bytes.now c.requires.1 c.requires.0 c.requires.2 c.in-None.ensures)
