use Rattle.std.proofs.Common.{◌≡◌, Err, Ok, arith}
use Rattle.jsonptr.specs.Types.Index.TheVariants.{Num}
use Rattle.jsonptr_uses.proofs.NextLemmas.{reads_place}
use Rattle.jsonptr_uses.proofs.cursor_editor.index_after.Goals as goal

pub returns-else-next-len : goal.returns-else-next-len
returns-else-next-len c = λ i is within.
    let reads = rw c.in-Ok-Num.field-0-is at c.in-Ok-Num.ensures.decoded in
    let same : Ok (Num c.in-Ok-Num.index) ≡ Ok (Num i) = reads_place c.args.token.now (Ok (Num c.in-Ok-Num.index)) i reads is (omega arith) in
    let index : c.in-Ok-Num.index ≡ i = cc in
    omega arith

pub returns-in-Err : goal.returns-in-Err
returns-in-Err c = λ i is within.
    let same : Err c.in-Err.field-0 ≡ Ok (Num i) = reads_place c.args.token.now (Err c.in-Err.field-0) i c.in-Err.ensures.decoded is (omega arith) in
    absurd (cc)
