use Rattle.std.proofs.Common.{IfOk, IfSome, string_bytes, subst}
use Rattle.jsonptr.specs.Text.{Text}
use Rattle.jsonptr.specs.Pointer.{tokens}
use Rattle.jsonptr_text_step.proofs.replace.replace.Goals as goal
use Rattle.jsonptr_text_step.specs.Steps.{ReplacesByText}

pub returns-clause-bytes : goal.returns-clause-bytes
returns-clause-bytes c =
    subst (λ (t : Text). IfOk c.replace_cut.result (λ n. IfSome n (λ s. ReplacesByText t (string_bytes s.text) (tokens c.args.site.now.pointer) (string_bytes c.args.printed.now.flat)))) c.in-Some.ensures c.replace_cut.ensures.bytes
