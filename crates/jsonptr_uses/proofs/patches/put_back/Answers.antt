use Rattle.std.proofs.Common.{List, [], ◌∷◌, refl, sym, subst}
use Rattle.std.specs.Prelude.{All}
use Rattle.std.proofs.lemmas.List.Elements.{All-nil, All-cons}
use Rattle.std.proofs.lemmas.Result.{IfOk-weaker}
use Rattle.serde_json.specs.View.{view}
use Rattle.jsonptr.specs.Json.{nodes}
use Rattle.jsonptr_patch.specs.Order.{OperationHasSortedKeys}
use Rattle.jsonptr_patch.specs.Patching.{Patches, RefusesPatch}
use Rattle.jsonptr_patch.specs.declared.operation.Operation.{Operation}
use Rattle.jsonptr_uses.proofs.PatchesLemmas.{is_document, refused_none}
use Rattle.jsonptr_uses.proofs.patches.put_back.Goals as goal

pub returns-clause-restored : goal.returns-clause-restored
returns-clause-restored c =
    IfOk-weaker c.apply.result _ _
    (λ _ done m applies. c.patch_law.ensures.one_map (nodes (view c.args.document.now)) (nodes (view c.apply.new.doc)) m (c.args.undo ∷ []) (is_document (view c.args.document.now))
    (subst (λ (os : List Operation). Patches (nodes (view c.args.document.now)) os (nodes (view c.apply.new.doc))) c.in_ok-patch.ensures done)
    (m, applies, refl))
    c.apply.ensures.applied

pub returns-clause-never_refused : goal.returns-clause-never_refused
returns-clause-never_refused c =
    refused_none c.apply.result _ c.apply.ensures.refused
    (λ e refused. c.patch_law.ensures.not_both (nodes (view c.args.document.now)) c.requires.0 (c.args.undo ∷ []) e (is_document (view c.args.document.now))
    (c.requires.0, c.requires.1, refl)
    (subst (λ (os : List Operation). RefusesPatch (nodes (view c.args.document.now)) os e) c.in_ok-patch.ensures refused))

pub returns-clause-sorted : goal.returns-clause-sorted
returns-clause-sorted c =
    IfOk-weaker c.apply.result _ _
    (λ _ kept ordered. kept (subst (λ (os : List Operation). All OperationHasSortedKeys os) (sym c.in_ok-patch.ensures) (All-cons OperationHasSortedKeys c.args.undo [] ordered (All-nil OperationHasSortedKeys))))
    c.apply.ensures.sorted
