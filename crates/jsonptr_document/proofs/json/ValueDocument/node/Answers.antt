use Rattle.std.proofs.Common.{ap, ◌∙◌}
use Rattle.serde_json.specs.declared.value.Value.{Array, Object}
use Rattle.jsonptr_tree.proofs.JsonLemmas.{content_of, array_is, object_is, null_is, bool_is, number_is, string_is}
use Rattle.jsonptr_document.proofs.LevelNodes.{leaf, array-Array, object-Object}
use Rattle.jsonptr_document.proofs.json.ValueDocument.node.Goals as goal

pub returns-in-Null : goal.returns-in-Null
returns-in-Null c = leaf content_of c.args.self.now _ (ap content_of c.in-Null.is ∙ null_is)

pub returns-in-Bool : goal.returns-in-Bool
returns-in-Bool c = leaf content_of c.args.self.now _ (ap content_of c.in-Bool.is ∙ bool_is c.in-Bool.field-0)

pub returns-in-Number : goal.returns-in-Number
returns-in-Number c = leaf content_of c.args.self.now _ (ap content_of c.in-Number.is ∙ number_is c.in-Number.field-0)

pub returns-in-String : goal.returns-in-String
returns-in-String c = leaf content_of c.args.self.now _ (ap content_of c.in-String.is ∙ string_is c.in-String.field-0)

pub returns-in-Array : goal.returns-in-Array
returns-in-Array c = array-Array content_of Array array_is c.args.self.now c.in-Array.elements c.in-Array.is

pub returns-in-Object : goal.returns-in-Object
returns-in-Object c = object-Object content_of Object object_is c.args.self.now c.in-Object.members c.in-Object.is
