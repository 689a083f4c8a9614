use Rattle.std.proofs.Common.{rules}
use Rattle.toml.specs.View.{view}
use Rattle.toml.specs.declared.value.Value.{Array, the_lemmas}
use Rattle.jsonptr_tree.specs.TomlValue.{HasSortedKeys}
use Rattle.jsonptr_tree.proofs.ContentOrderLemmas.{ascends_push}
use Rattle.jsonptr_tree.proofs.TomlLemmas.{content_of, array_is}
use Rattle.jsonptr_document.proofs.LevelChildren.{array-push}
use Rattle.jsonptr_document.proofs.toml_value.ValueDocumentMut.push.Goals as goal

pub returns-in-Ok-clause-pushed : goal.returns-in-Ok-clause-pushed
returns-in-Ok-clause-pushed c =
    let pushed = array-push content_of Array array_is c.in-Array.elements c.push.new.self c.args.element (rw c.in-Array.elements-is at c.in-Ok.ensures.items) in
    search (rules, the_lemmas, pushed)

pub returns-in-Ok-clause-sorted : goal.returns-in-Ok-clause-sorted
returns-in-Ok-clause-sorted c = λ h.
    let items = rw c.in-Array.elements-is at c.in-Ok.ensures.items in
    let kept : HasSortedKeys (view (Array c.in-Array.elements)) → HasSortedKeys (view (Array c.push.new.self)) = λ a. ascends_push content_of Array array_is c.in-Array.elements c.push.new.self a c.args.element h items in
    search (rules, the_lemmas, kept)
