use Rattle.std.proofs.Common.{to_z-of_z}
use Rattle.jsonptr_patch.proofs.NumberLemmas.{below_zero}
use Rattle.jsonptr_patch.proofs.number.is_signed.Goals as goal

pub returns-then-whole-lt0 : goal.returns-then-whole-lt0
returns-then-whole-lt0 c =
    let fits = c.ranges.whole in
    below_zero c.args.whole c.unsigned_abs.result c.args.float c.is_unsigned.result (simp to_z-of_z at c.if-whole-lt0.true) (simp to_z-of_z at c.unsigned_abs.ensures.value) c.is_unsigned.ensures
