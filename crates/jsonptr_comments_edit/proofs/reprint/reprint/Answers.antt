use Rattle.std.proofs.Common.{string_bytes, sym, subst}
use Rattle.std.proofs.lemmas.Result.{IfOk-weaker, IfErr-weaker}
use Rattle.jsonptr.specs.Text.{Text}
use Rattle.jsonptr_comments.specs.Comments.{IsWithoutComments}
use Rattle.jsonptr_comments_edit.proofs.CommentedLemmas.{commented_error, printed_becomes}
use Rattle.jsonptr_comments_edit.proofs.reprint.reprint.Goals as goal

pub returns-clause-edited : goal.returns-clause-edited
returns-clause-edited c =
    let text = c.args.text.now.text.now in
    let bare = c.as_str.result.now in
    let w = subst (λ (t : Text). IsWithoutComments text t) (sym c.as_str.ensures.value) ((c.bare_law.ensures text _).0 c.args.text.now.is_bare) in
    IfOk-weaker c.edit_and_print.result _ _ (λ s h. printed_becomes c.json_text_law.ensures.read c.plain_law.ensures text bare c.args.edit.now (string_bytes s) w h) c.edit_and_print.ensures.edited

pub returns-clause-refused : goal.returns-clause-refused
returns-clause-refused c =
    let text = c.args.text.now.text.now in
    let bare = c.as_str.result.now in
    let w = subst (λ (t : Text). IsWithoutComments text t) (sym c.as_str.ensures.value) ((c.bare_law.ensures text _).0 c.args.text.now.is_bare) in
    IfErr-weaker c.edit_and_print.result _ _ (λ e h. commented_error text bare c.args.edit.now e w h) c.edit_and_print.ensures.refused
