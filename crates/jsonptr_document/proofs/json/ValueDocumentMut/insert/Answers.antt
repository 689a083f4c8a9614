use Rattle.std.proofs.Common.{rules, string_bytes}
use Rattle.serde_json.specs.View.{view}
use Rattle.serde_json.specs.declared.value.Value.{Object, the_lemmas}
use Rattle.jsonptr_tree.specs.Json.{HasSortedKeys}
use Rattle.jsonptr_tree.proofs.ContentOrderLemmas.{ascends_insert}
use Rattle.jsonptr_tree.proofs.JsonLemmas.{content_of, object_is}
use Rattle.jsonptr_document.proofs.LevelChildren.{object-insert}
use Rattle.jsonptr_document.proofs.json.ValueDocumentMut.insert.Goals as goal

pub returns-in-Ok-clause-inserted : goal.returns-in-Ok-clause-inserted
returns-in-Ok-clause-inserted c =
    let inserted = object-insert content_of Object object_is c.in-Object.members c.insert.new.self (string_bytes c.args.name) c.args.value (rw c.in-Object.members-is at c.in-Ok.ensures.updates) in
    search (rules, the_lemmas, inserted)

pub returns-in-Ok-clause-sorted : goal.returns-in-Ok-clause-sorted
returns-in-Ok-clause-sorted c = λ h.
    let entries = rw c.in-Object.members-is at c.in-Ok.ensures.entries in
    let kept : HasSortedKeys (view (Object c.in-Object.members)) → HasSortedKeys (view (Object c.insert.new.self)) = λ a. ascends_insert content_of Object object_is c.in-Object.members c.insert.new.self a c.args.name c.args.value h entries in
    search (rules, the_lemmas, kept)
