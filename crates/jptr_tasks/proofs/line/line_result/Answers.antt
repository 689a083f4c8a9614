use Rattle.std.proofs.Common.{string_bytes, rules, arith}
use Rattle.std.proofs.lemmas.Grind.{common_steps}
use Rattle.std.specs.Str.{IsUtf8}
use Rattle.jsonptr_io.specs.Lines.{IsOneLine}
use Rattle.jptr_tasks.specs.Results.{Yields}
use Rattle.jptr_tasks.proofs.ResultLemmas.{can_break}
use Rattle.jptr_tasks.proofs.line.line_result.Goals as goal

pub returns-then-contains-clause-refused : goal.returns-then-contains-clause-refused
returns-then-contains-clause-refused c =
    let new = string_bytes c.in_ok-new.new in
    let yields : Yields c.args.task.now c.args.layout c.args.line.now new = first_of (search rules, grind (arith, common_steps)) in
    let several : IsOneLine new → ⊥ = first_of (search rules, grind (arith, common_steps)) in
    let utf8 : IsUtf8 c.args.line.now = first_of (search rules, grind (arith, common_steps)) in
    (utf8, can_break c.args.task.now c.args.layout c.args.line.now new yields several, (new, yields, several))
