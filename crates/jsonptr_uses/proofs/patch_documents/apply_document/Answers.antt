use Rattle.serde_json.specs.View.{view}
use Rattle.jsonptr.specs.Json.{nodes}
use Rattle.jsonptr_uses.proofs.PatchDocumentsLemmas.{patches_as, one_document}
use Rattle.jsonptr_uses.proofs.patch_documents.apply_document.Goals as goal

pub returns-in-Ok-apply-clause-applied : goal.returns-in-Ok-apply-clause-applied
returns-in-Ok-apply-clause-applied c = λ os given.
    patches_as c.patch_document_law.ensures.one_patch c.patch_document_law.ensures.same_effect (view c.args.patch.now) (nodes (view c.args.document.now)) (nodes (view c.apply.new.doc)) c.in-Ok.operations.items os c.in-Ok.ensures.patch c.in-Ok-apply.ensures.applied given

pub returns-in-Ok-apply-clause-value : goal.returns-in-Ok-apply-clause-value
returns-in-Ok-apply-clause-value c = λ os d old patch new given makes.
    one_document c.patch_document_law.ensures.one_patch c.patch_document_law.ensures.same_effect c.patch_law.ensures.one_map (view c.args.patch.now) (view c.args.document.now) (view c.apply.new.doc) d c.in-Ok.operations.items os c.in-Ok.ensures.patch c.in-Ok-apply.ensures.applied
    (c.in-Ok-apply.ensures.sorted (c.patch_document_law.ensures.sorted (view c.args.patch.now) c.in-Ok.operations.items patch c.in-Ok.ensures.patch) old)
    new given makes
