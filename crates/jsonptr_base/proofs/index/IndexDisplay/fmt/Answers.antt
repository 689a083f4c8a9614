use Rattle.std.proofs.Common.{◌<◌, ◌^◌, arith}
use Rattle.jsonptr_grammar.proofs.DecLemmas.{dec-decimal}
use Rattle.jsonptr_base.proofs.index.IndexDisplay.fmt.Goals as goal

pub returns-in-Num-clause-writes : goal.returns-in-Num-clause-writes
returns-in-Num-clause-writes g c =
    let fits : c.in-Num.index < 2 ^ 64 = omega arith in
    rw (c.in-Num.is, dec-decimal c.in-Num.index fits) c.write.ensures.writes
