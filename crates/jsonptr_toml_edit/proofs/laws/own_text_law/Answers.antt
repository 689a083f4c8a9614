use Rattle.jsonptr_toml_edit.proofs.MadeLemmas.{made_is_container, own_text_whole}
use Rattle.jsonptr_toml_edit.proofs.laws.own_text_law.Goals as goal

pub returns-clause-made : goal.returns-clause-made
returns-clause-made c = made_is_container

pub returns-clause-own_text : goal.returns-clause-own_text
returns-clause-own_text c = own_text_whole
