use Rattle.std.proofs.Common.{subst}
use Rattle.std.proofs.lemmas.Result.{IfOk-weaker}
use Rattle.serde_json.specs.View.{view}
use Rattle.jsonptr.specs.Json.{nodes}
use Rattle.jsonptr.specs.Node.{NodeMap}
use Rattle.jsonptr_patch.specs.Patching.{Patches, RefusesPatch}
use Rattle.jsonptr_uses.proofs.PatchesLemmas.{refused_none}
use Rattle.jsonptr_uses.proofs.differences.bring_up_to_date.Goals as goal

pub returns-clause-updated : goal.returns-clause-updated
returns-clause-updated c =
    IfOk-weaker c.apply.result _ _
    (λ _ done. c.difference_law.ensures.applied (view c.args.old.now) (view c.args.new.now) (view c.apply.new.doc) c.in_ok-patch.patch.items c.in_ok-patch.ensures.applied
    (subst (λ (n : NodeMap). Patches n c.in_ok-patch.patch.items (nodes (view c.apply.new.doc))) c.requires done))
    c.apply.ensures.applied

pub returns-clause-never_refused : goal.returns-clause-never_refused
returns-clause-never_refused c =
    refused_none c.apply.result _ c.apply.ensures.refused
    (λ e refused. c.difference_law.ensures.never_refused (view c.args.old.now) (view c.args.new.now) c.in_ok-patch.patch.items e c.in_ok-patch.ensures.applied
    (subst (λ (n : NodeMap). RefusesPatch n c.in_ok-patch.patch.items e) c.requires refused))
