use Rattle.std.proofs.Common.{◌≡◌, List, length, map, ap, ◌∙◌, subst, sym, arith}
use Rattle.std.proofs.lemmas.List.{take_all}
use Rattle.serde_json.proofs.Views.{view-Array}
use Rattle.serde_json.specs.Data.{Data, array}
use Rattle.serde_json.specs.View.{view, items_of}
use Rattle.serde_json.specs.declared.value.Value.{Array}
use Rattle.jsonptr.specs.Json.{HasSortedKeys}
use Rattle.jsonptr_patch.specs.declared.operation.Operation.{Operation}
use Rattle.jsonptr_patch_document.specs.Writing.{written_object, document_of}
use Rattle.jsonptr_patch_document.proofs.SortingLemmas.{document_sorted}
use Rattle.jsonptr_patch_document.proofs.write.write_patch.Goals as goal

pub returns-clause-sorted : goal.returns-clause-sorted
returns-clause-sorted c =
    let is : view (Array c.loop-operation.objects) ≡ document_of c.args.patch.now.items =
    view-Array c.loop-operation.objects
    ∙ ap (λ (ds : List Data). array (items_of ds))
    (c.loop-operation.invariant ∙ ap (map written_object) (take_all c.loop-operation.operation-index c.args.patch.now.items
    (omega (arith, c.loop-operation-test.false, ap (λ (l : List Operation). length l) c.deref-operation-items.ensures.value))))
    in
    λ s. subst HasSortedKeys (sym is) (document_sorted c.args.patch.now.items s)
