use Rattle.std.proofs.lemmas.Result.{IfOk-weaker}
use Rattle.serde_json.specs.View.{view}
use Rattle.jsonptr.specs.Json.{nodes}
use Rattle.jsonptr_uses.proofs.PatchesLemmas.{is_document, ok_both, refused_none}
use Rattle.jsonptr_uses.proofs.patches.undo.Goals as goal

pub returns-clause-undone : goal.returns-clause-undone
returns-clause-undone c =
    IfOk-weaker c.apply.result _ _
    (λ _ done old applies. c.patch_law.ensures.one_map (nodes (view c.args.document.now)) (nodes (view c.apply.new.doc)) old c.args.inverse.items (is_document (view c.args.document.now)) done applies)
    c.apply.ensures.applied

pub returns-clause-never_refused : goal.returns-clause-never_refused
returns-clause-never_refused c =
    refused_none c.apply.result _ c.apply.ensures.refused
    (λ e refused. c.patch_law.ensures.not_both (nodes (view c.args.document.now)) c.requires.0 c.args.inverse.items e (is_document (view c.args.document.now)) c.requires.1 refused)

pub returns-clause-same : goal.returns-clause-same
returns-clause-same c = ok_both c.apply.result _ _ _
    (λ _ done kept old back s t all. c.json_map_law.ensures.one_value (view c.apply.new.doc) old (kept all t) s
    (c.patch_law.ensures.one_map (nodes (view c.args.document.now)) (nodes (view c.apply.new.doc)) (nodes old) c.args.inverse.items (is_document (view c.args.document.now)) done back))
    c.apply.ensures.applied c.apply.ensures.sorted
