use Rattle.std.proofs.Common.{inr}
use Rattle.std.proofs.lemmas.Result.{IfErr-weaker, IfOk-weaker}
use Rattle.jsonptr_text_edit.specs.declared.edit.Edit.TheVariants as edits
use Rattle.jsonptr_c_calls.proofs.OpenTextLemmas.{none_weaker, some_weaker}
use Rattle.jsonptr_c_calls.proofs.text_edits.delete.Goals as goal

pub returns-clause-edited : goal.returns-clause-edited
returns-clause-edited c =
    let edit = edits.Delete c.in_ok-parse.field-0 in
    IfOk-weaker c.edit.result _ _ (λ o h. some_weaker o _ _ (λ change made. (edit, c.in_ok-parse.ensures.pointer, made)) h) c.edit.ensures.edited

pub returns-clause-nothing : goal.returns-clause-nothing
returns-clause-nothing c =
    let edit = edits.Delete c.in_ok-parse.field-0 in
    IfOk-weaker c.edit.result _ _ (λ o h. none_weaker o _ _ (λ lacks. (edit, c.in_ok-parse.ensures.pointer, lacks.0, lacks.1)) h) c.edit.ensures.nothing

pub returns-clause-refused : goal.returns-clause-refused
returns-clause-refused c =
    let edit = edits.Delete c.in_ok-parse.field-0 in
    IfErr-weaker c.edit.result _ _ (λ e h. inr (edit, c.in_ok-parse.ensures.utf8, c.in_ok-parse.ensures.pointer, h)) c.edit.ensures.refused
