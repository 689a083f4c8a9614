use Rattle.jsonptr_value.proofs.JsonLemmas.{ascends_read}
use Rattle.jsonptr_value.proofs.parsed.json_parsed_law.Goals as goal

pub returns : goal.returns
returns c = ascends_read
