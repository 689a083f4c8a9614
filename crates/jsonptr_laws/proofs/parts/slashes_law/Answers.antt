use Rattle.jsonptr_laws.proofs.SlashLemmas.{slash_iff, ascending}
use Rattle.jsonptr_laws.proofs.parts.slashes_law.Goals as goal

pub returns : goal.returns
returns c = record { slash = slash_iff; ascending = ascending }
