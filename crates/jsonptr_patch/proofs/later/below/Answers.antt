use Rattle.std.proofs.Common.{◌++◌, ◌∷◌, [], ap, ◌∙◌}
use Rattle.jsonptr.specs.Node.{key}
use Rattle.jsonptr.specs.Text.{Text}
use Rattle.jsonptr_patch_journal.specs.Location.{steps_of, path_of}
use Rattle.jsonptr_patch_journal.specs.declared.location.LocationStep.TheVariants as step
use Rattle.jsonptr_patch_journal.proofs.LocationLemmas.{steps_of-push}
use Rattle.jsonptr_patch.proofs.later.below.Goals as goal

pub returns-in-Ok-push : goal.returns-in-Ok-push
returns-in-Ok-push c =
    ap steps_of c.in-Ok-push.ensures.items
    ∙ steps_of-push c.args.object.steps.items (step.Key c.in-Ok.name)
    ∙ ap (λ (t : Text). path_of c.args.object ++ key t ∷ []) c.in-Ok.ensures
