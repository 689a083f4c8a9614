use Rattle.std.proofs.Common.{refl}
use Rattle.jsonptr_syntax.proofs.TildeFault.{some_slash, tilde_fault_is}
use Rattle.jsonptr_syntax.proofs.scan.fault_at.Goals as goal

pub unwrap-offset-requires : goal.unwrap-offset-requires
unwrap-offset-requires c = some_slash _ _ c.requires.slash c.requires.tilde c.memrchr.result c.memrchr.ensures

pub returns : goal.returns
returns c =
    let found = rw c.unwrap-offset.ensures at c.memrchr.ensures in
    (tilde_fault_is _ _ c.requires.slash c.requires.tilde c.unwrap-offset.result found, refl)
