use Rattle.std.proofs.Common.{string_bytes}
use Rattle.toml.specs.declared.value.Value.{Table}
use Rattle.jsonptr_tree.proofs.TomlLemmas.{content_of, object_is}
use Rattle.jsonptr_document.proofs.LevelChildren.{one_member}
use Rattle.jsonptr_document.proofs.toml_value.ValueDocumentMut.object_of.Goals as goal

pub returns-in-Ok-clause-map : goal.returns-in-Ok-clause-map
returns-in-Ok-clause-map c = one_member content_of Table object_is c.new-table.result c.insert.new.self (string_bytes c.args.name) c.args.value c.new-table.ensures.empty c.in-Ok.ensures.updates
