use Rattle.std.proofs.Common.{◌≡◌, ◌++◌, arith}
use Rattle.std.proofs.lemmas.Grind.{common_steps}
use Rattle.jsonptr_text_check.proofs.one_child.is_member_name.Goals as goal

pub returns-in_ok-is_name : goal.returns-in_ok-is_name
returns-in_ok-is_name c = λ is.
    let whole : c.args.text.now ≡ c.in-Some.name.now ++ c.in-Some.rest.now = grind (arith, common_steps) in
    (c.in-Some.name.now, c.in-Some.rest.now, whole, c.in_ok-is_name.ensures is, c.is_colon.ensures c.if-is_colon.true)
