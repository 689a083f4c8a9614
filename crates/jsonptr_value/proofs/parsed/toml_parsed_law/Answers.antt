use Rattle.jsonptr_value.proofs.TomlLemmas.{ascends_read, ascends_read_document}
use Rattle.jsonptr_value.proofs.parsed.toml_parsed_law.Goals as goal

pub returns-clause-value : goal.returns-clause-value
returns-clause-value c = ascends_read

pub returns-clause-document : goal.returns-clause-document
returns-clause-document c = ascends_read_document
