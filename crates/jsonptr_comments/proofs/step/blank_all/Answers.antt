use Rattle.std.proofs.Common.{length, get_or, set, ap, ◌∙◌, ◌<◌, arith}
use Rattle.std.proofs.lemmas.List.{get_or_default}
use Rattle.std.proofs.lemmas.List.Edits.{map_over_more}
use Rattle.jsonptr_comments.specs.Comments.{blank}
use Rattle.jsonptr_comments.proofs.step.blank_all.Goals as goal

pub loop-byte-preserved : goal.loop-byte-preserved
loop-byte-preserved c =
    let xs = c.args.bytes.now in
    let ys = c.loop-byte.bytes in
    let i = c.loop-byte.byte-index in
    let within : i < length ys = omega arith in
    let there : i < length xs = omega arith in
    ap (λ b. set ys i b) c.blanked.ensures ∙ map_over_more blank xs ys i (get_or ys i 0) there c.loop-byte.invariant (get_or_default ys i 0 (get_or ys i 0) within)
