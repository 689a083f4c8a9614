use Rattle.std.proofs.Common.{rules, string_bytes}
use Rattle.toml.specs.View.{view}
use Rattle.toml.specs.declared.value.Value.{Table, the_lemmas}
use Rattle.jsonptr_tree.specs.TomlValue.{HasSortedKeys}
use Rattle.jsonptr_tree.proofs.ContentOrderLemmas.{ascends_insert}
use Rattle.jsonptr_tree.proofs.TomlLemmas.{content_of, object_is}
use Rattle.jsonptr_document.proofs.LevelChildren.{object-insert}
use Rattle.jsonptr_document.proofs.toml_value.ValueDocumentMut.insert.Goals as goal

pub returns-in-Ok-clause-inserted : goal.returns-in-Ok-clause-inserted
returns-in-Ok-clause-inserted c =
    let inserted = object-insert content_of Table object_is c.in-Table.members c.insert.new.self (string_bytes c.args.name) c.args.value (rw c.in-Table.members-is at c.in-Ok.ensures.updates) in
    search (rules, the_lemmas, inserted)

pub returns-in-Ok-clause-sorted : goal.returns-in-Ok-clause-sorted
returns-in-Ok-clause-sorted c = λ h.
    let entries = rw c.in-Table.members-is at c.in-Ok.ensures.entries in
    let kept : HasSortedKeys (view (Table c.in-Table.members)) → HasSortedKeys (view (Table c.insert.new.self)) = λ a. ascends_insert content_of Table object_is c.in-Table.members c.insert.new.self a c.args.name c.args.value h entries in
    search (rules, the_lemmas, kept)
