use Rattle.std.proofs.Common.{IfErr, sym, subst}
use Rattle.std.proofs.lemmas.Result.{IfErr-weaker}
use Rattle.jsonptr.specs.Text.{Text}
use Rattle.jsonptr_comments.specs.Comments.{IsWithoutComments}
use Rattle.jsonptr_c_calls.specs.OpenTexts.{FailsToRead}
use Rattle.jsonptr_c_calls.specs.declared.text_format.TextFormat.{TextFormat}
use Rattle.jsonptr_c_calls.proofs.OpenTextLemmas.{no_document}
use Rattle.jsonptr_c_calls.proofs.open_text.check.Goals as goal

pub returns-in-Ok-clause-refused : goal.returns-in-Ok-clause-refused
returns-in-Ok-clause-refused c =
    let mark = c.parts_of-parts.result.mark.now in
    let body = c.parts_of-parts.result.body.now in
    let bare = c.as_str.result.now in
    let w = subst (λ (t : Text). IsWithoutComments body t) (sym c.as_str.ensures.value) c.in-Ok.ensures.without in
    let parts = c.parts_of-parts.ensures in
    subst (λ (f : TextFormat). IfErr c.check_json-in-Ok.result (FailsToRead f c.args.text.now)) (sym c.in-Commented.is)
    (IfErr-weaker c.check_json-in-Ok.result _ _ (λ e h. no_document mark body c.args.text.now bare parts.mark parts.parts w e h) c.check_json-in-Ok.ensures.refused)
