use Rattle.jsonptr_laws.proofs.PartLemmas.{without_prefix_one, without_suffix_one}
use Rattle.jsonptr_laws.proofs.parts.strip_law.Goals as goal

pub returns : goal.returns
returns c = record { prefix = without_prefix_one; suffix = without_suffix_one }
