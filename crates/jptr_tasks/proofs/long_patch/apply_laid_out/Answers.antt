use Rattle.std.proofs.Common.{subst}
use Rattle.std.proofs.lemmas.Result.{IfErr-weaker}
use Rattle.jsonptr.specs.Text.{Text}
use Rattle.jsonptr_text_step.specs.PatchInText.{PatchesInText}
use Rattle.jsonptr_text_relayout.specs.Relaying.{text_of_relaid}
use Rattle.jptr_tasks.specs.PrivateResults.{IsLayoutError}
use Rattle.jptr_tasks.proofs.LongPatchLemmas.{after_fails, applies_in_none}
use Rattle.jptr_tasks.proofs.ResultLemmas.{remade}
use Rattle.jptr_tasks.proofs.long_patch.apply_laid_out.Goals as goal

pub returns-in-Ok-clause-applied : goal.returns-in-Ok-clause-applied
returns-in-Ok-clause-applied c =
    remade (PatchesInText c.args.text.now c.args.operations.items) c.args.layout (text_of_relaid c.in-Ok.new) _ c.lay_out.result
    c.in-Ok.ensures.applied c.as_str.ensures c.lay_out.ensures.laid_out

pub returns-in-Ok-clause-refused : goal.returns-in-Ok-clause-refused
returns-in-Ok-clause-refused c =
    IfErr-weaker c.lay_out.result _ _
    (λ e r. after_fails c.args.text.now c.args.operations.items c.args.layout (text_of_relaid c.in-Ok.new) e c.in-Ok.ensures.applied (subst (λ (t : Text). IsLayoutError t e) c.as_str.ensures r))
    c.lay_out.ensures.refused

pub returns-in-Err-clause-refused : goal.returns-in-Err-clause-refused
returns-in-Err-clause-refused c = applies_in_none c.args.text.now c.args.operations.items c.args.layout c.in-Err.error c.in-Err.ensures.refused
