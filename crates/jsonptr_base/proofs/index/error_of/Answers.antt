use Rattle.std.proofs.Common.{◌<◌, length, sym, arith}
use Rattle.std.proofs.lemmas.Bool.Decides.{nat_tests}
use Rattle.jsonptr_base.proofs.IndexLemmas.{reads_overflow}
use Rattle.jsonptr_base.proofs.index.error_of.Goals as goal

pub returns-in-None-2 : goal.returns-in-None-2
returns-in-None-2 c =
    let some : 0 < length c.args.s.now = grind (arith, nat_tests, c.is_empty.ensures, c.if-is_empty.false) in
    reads_overflow c.args.s.now c.requires.no_leading_zeros c.utf8.s (sym c.in-None.ensures) some c.requires.no_number
