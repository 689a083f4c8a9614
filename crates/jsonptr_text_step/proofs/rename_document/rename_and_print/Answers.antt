use Rattle.std.proofs.Common.{[], List, All, subst, sym}
use Rattle.std.proofs.lemmas.List.Elements.{All-nil, All-cons}
use Rattle.serde_json.specs.View.{view}
use Rattle.jsonptr.specs.Json.{nodes}
use Rattle.jsonptr.specs.Pointer.{tokens}
use Rattle.jsonptr_patch.specs.Failing.{failed}
use Rattle.jsonptr_patch.specs.Order.{OperationHasSortedKeys}
use Rattle.jsonptr_patch.specs.Patching.{PatchesBy, FailsBy, RefusesPatch}
use Rattle.jsonptr_patch.specs.declared.comparison.Comparison.TheVariants.{Strict}
use Rattle.jsonptr_patch.specs.declared.operation.Operation.{Operation}
use Rattle.jsonptr_patch.specs.declared.operation.Operation.TheVariants.{Move}
use Rattle.jsonptr_text_step.proofs.RenameErrorLemmas.{can_move, moved_then, move_fails_then}
use Rattle.jsonptr_text_step.proofs.rename_document.rename_and_print.Goals as goal

pub unreachable-requires : goal.unreachable-requires
unreachable-requires c =
    let n = nodes (view c.in_ok-document.document) in
    let refused : RefusesPatch n c.in_ok-patch.patch.items c.in-Err-Refused.field-0-0 = rw c.in-Err-Refused.field-0-is at c.in-Err-Refused.ensures.refused in
    let fails = subst (λ (os : List Operation). FailsBy Strict n os (failed c.in-Err-Refused.field-0-0 refused.0)) c.in_ok-patch.ensures refused.1 in
    can_move Strict n (tokens c.args.pointer) c.in_ok-path.path c.args.key.now (failed c.in-Err-Refused.field-0-0 refused.0) c.in_ok-path.ensures.target fails

pub returns-in-Ok-clause-renamed : goal.returns-in-Ok-clause-renamed
returns-in-Ok-clause-renamed c =
    let d = view c.in_ok-document.document in
    let d2 = view c.apply.new.doc in
    let moved = subst (λ (os : List Operation). PatchesBy Strict (nodes d) os (nodes d2)) c.in_ok-patch.ensures c.in-Ok.ensures.applied in
    moved_then Strict c.args.text.now (tokens c.args.pointer) c.in_ok-path.path c.args.key.now d d2 c.print_document.result c.in_ok-document.ensures.value c.in_ok-path.ensures.target moved c.print_document.ensures.printed

pub returns-in-Ok-clause-refused : goal.returns-in-Ok-clause-refused
returns-in-Ok-clause-refused c =
    let d = view c.in_ok-document.document in
    let d2 = view c.apply.new.doc in
    let move = Move (tokens c.args.pointer) c.in_ok-path.path in
    let moved = subst (λ (os : List Operation). PatchesBy Strict (nodes d) os (nodes d2)) c.in_ok-patch.ensures c.in-Ok.ensures.applied in
    let sorted = subst (λ (os : List Operation). All OperationHasSortedKeys os) (sym c.in_ok-patch.ensures) (All-cons OperationHasSortedKeys move [] tt (All-nil OperationHasSortedKeys)) in
    move_fails_then Strict c.args.text.now (tokens c.args.pointer) c.in_ok-path.path c.args.key.now d d2 c.print_document.result c.in_ok-document.ensures.value c.in_ok-path.ensures.target moved
    (c.in-Ok.ensures.sorted sorted c.in_ok-document.ensures.sorted)
    c.print_document.ensures.refused
