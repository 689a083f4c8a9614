use Rattle.std.proofs.Common.{refl}
use Rattle.jsonptr_laws.proofs.PartLemmas.{first_one, last_one, parent_one}
use Rattle.jsonptr_laws.proofs.parts.front_and_back_law.Goals as goal

pub returns : goal.returns
returns c = record { front = first_one; back = last_one; parent = parent_one; none = (refl, refl, refl) }
