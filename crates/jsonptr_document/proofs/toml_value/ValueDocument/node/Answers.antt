use Rattle.std.proofs.Common.{ap, ◌∙◌}
use Rattle.toml.specs.declared.value.Value.{Array, Table}
use Rattle.jsonptr_tree.proofs.TomlLemmas.{content_of, array_is, object_is, string_is, integer_is, float_is, boolean_is, datetime_is}
use Rattle.jsonptr_document.proofs.LevelNodes.{leaf, array-Array, object-Object}
use Rattle.jsonptr_document.proofs.toml_value.ValueDocument.node.Goals as goal

pub returns-in-String : goal.returns-in-String
returns-in-String c = leaf content_of c.args.self.now _ (ap content_of c.in-String.is ∙ string_is c.in-String.field-0)

pub returns-in-Integer : goal.returns-in-Integer
returns-in-Integer c = leaf content_of c.args.self.now _ (ap content_of c.in-Integer.is ∙ integer_is c.in-Integer.field-0)

pub returns-in-Float : goal.returns-in-Float
returns-in-Float c = leaf content_of c.args.self.now _ (ap content_of c.in-Float.is ∙ float_is c.in-Float.field-0)

pub returns-in-Boolean : goal.returns-in-Boolean
returns-in-Boolean c = leaf content_of c.args.self.now _ (ap content_of c.in-Boolean.is ∙ boolean_is c.in-Boolean.field-0)

pub returns-in-Datetime : goal.returns-in-Datetime
returns-in-Datetime c = leaf content_of c.args.self.now _ (ap content_of c.in-Datetime.is ∙ datetime_is c.in-Datetime.field-0)

pub returns-in-Array : goal.returns-in-Array
returns-in-Array c = array-Array content_of Array array_is c.args.self.now c.in-Array.elements c.in-Array.is

pub returns-in-Table : goal.returns-in-Table
returns-in-Table c = object-Object content_of Table object_is c.args.self.now c.in-Table.members c.in-Table.is
