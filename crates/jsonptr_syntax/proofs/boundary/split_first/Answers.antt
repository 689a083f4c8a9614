use Rattle.std.proofs.Common.{◌≡◌, ◌<◌, length, get_or, ⊎_elim, ap, arith}
use Rattle.std.proofs.lemmas.Bool.Decides.{nat_tests}
use Rattle.jsonptr_syntax.proofs.CutFirst.{boundary_after, cut_at_at}
use Rattle.jsonptr_syntax.proofs.boundary.split_first.Goals as goal
use Rattle.jsonptr_syntax.proofs.boundary.split_first.Goals.{Else-is_empty}

some : (c : Else-is_empty) → 0 < length c.args.text.now
some c = grind (arith, nat_tests, c.if-is_empty.ensures)

slash : (c : Else-is_empty) → get_or c.args.text.now 0 0 ≡ 47
slash c = ⊎_elim (λ first. first) (λ empty. absurd (omega (arith, some c, ap length empty))) c.requires

pub split_at-requires : goal.split_at-requires
split_at-requires c = boundary_after c.args.text.now c.utf8.text (slash c) (some c)

pub returns-in-Some : goal.returns-in-Some
returns-in-Some c =
    let before : Else-is_empty = (goal.at.returns-in-Some c).Else-is_empty in
    cut_at_at c.args.text.now c.as_bytes.result.now c.split_at.result.1.now c.split_at-in-Some.result.0.now c.split_at-in-Some.result.1.now c.in-Some.at
    c.as_bytes.ensures.value c.split_at.ensures.back c.split_at-in-Some.ensures.front c.split_at-in-Some.ensures.back (slash before) (some before)
    c.in-Some.ensures
