use Rattle.std.proofs.Common.{rules, arith, ◌≤◌, ◌-◌, length}
use Rattle.std.proofs.lemmas.Bool.Decides.{nat_tests}
use Rattle.jsonptr_base.proofs.TokenLemmas.{valid_end, valid-IsToken, valid_last}
use Rattle.jsonptr_base.proofs.token.scan.invalid_byte_from.Goals as goal

pub returns-then-is_empty : goal.returns-then-is_empty
returns-then-is_empty c =
    let none : length c.args.bytes.now ≤ 0 = grind (arith, nat_tests, c.if-is_empty.ensures) in
    valid-IsToken _ (valid_end _ _ c.requires (omega (arith, none)))

pub returns-in_default-bytes : goal.returns-in_default-bytes
returns-in_default-bytes c =
    valid-IsToken _
    (valid_last _ _ (length c.args.bytes.now - 1) c.loop-i.invariant (omega arith) (omega arith) (search rules) (search rules))
