use Rattle.std.proofs.Common.{◌≤◌, length, ap, arith}
use Rattle.jsonptr.specs.Pointer.{tokens}
use Rattle.jsonptr.specs.Text.{text}
use Rattle.jsonptr_patch.proofs.LaterLemmas.{no_longer}
use Rattle.jsonptr_patch.proofs.later.lacks_prefix.Goals as goal

pub returns-then-text-start : goal.returns-then-text-start
returns-then-text-start c = λ t rest e.
    let short : length (text (tokens c.args.pointer)) ≤ length (text (tokens c.args.prefix)) = omega (arith, c.if-text-start.true, ap length c.as_str-text.ensures.tokens, ap length c.as_str-start.ensures.tokens) in
    c.differ.ensures t (no_longer (tokens c.args.pointer) (tokens c.args.prefix) rest short e)
