-- The operations of a patch, or the words of another command, fail.
use Rattle.std.proofs.Common.{map, string_bytes, codes, sym, ◌∙◌}
use Rattle.std.proofs.lemmas.Result.{IfErr-weaker, err_from_is_err_and}
use Rattle.jsonptr_run_command.proofs.CommandLemmas.{command_refused, first_and_rest, patch_refused}
use Rattle.jsonptr_run_command.proofs.run.read_request.Goals as goal

pub returns-in_err-patch-in-patch-clause-refused : goal.returns-in_err-patch-in-patch-clause-refused
returns-in_err-patch-in-patch-clause-refused c =
    let p = err_from_is_err_and c.from_residual.result c.from_residual.ensures.1 in
    let are = first_and_rest string_bytes c.args.words.now c.in-Some.rest.now c.in-Some.command.now (codes "patch") c.in-Some.ensures.cases.0
    (sym c.in-patch.is ∙ c.as_str.ensures.value) in
    rw (p.1, p.2) (patch_refused (map string_bytes c.args.words.now) (map string_bytes c.in-Some.rest.now) _ are c.in_err-patch-in-patch.ensures.refused)

pub returns-in_default-as_str-clause-refused : goal.returns-in_default-as_str-clause-refused
returns-in_default-as_str-clause-refused c =
    let are = first_and_rest string_bytes c.args.words.now c.in-Some.rest.now c.in-Some.command.now c.as_str.result.now c.in-Some.ensures.cases.0
    c.as_str.ensures.value in
    IfErr-weaker c.read_command.result _ _
    (λ e h. command_refused c.as_str.result.now (map string_bytes c.in-Some.rest.now) (map string_bytes c.args.words.now) e are c.in_default-as_str.not-patch h)
    c.read_command.ensures.refused
