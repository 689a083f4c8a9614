use Rattle.std.proofs.Common.{string_bytes}
use Rattle.serde_json.specs.declared.value.Value.{Object}
use Rattle.jsonptr_tree.proofs.JsonLemmas.{content_of, object_is}
use Rattle.jsonptr_document.proofs.LevelChildren.{one_member}
use Rattle.jsonptr_document.proofs.json.ValueDocumentMut.object_of.Goals as goal

pub returns-in-Ok-clause-map : goal.returns-in-Ok-clause-map
returns-in-Ok-clause-map c = one_member content_of Object object_is c.new-object.result c.insert.new.self (string_bytes c.args.name) c.args.value c.new-object.ensures.empty c.in-Ok.ensures.updates
