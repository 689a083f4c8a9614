use Rattle.std.proofs.Common.{length, arith, ap, length-drop}
use Rattle.jsonptr_grammar.specs.Text.{tokens_of}
use Rattle.jsonptr_syntax.proofs.pointer_text_buf.split_around.Goals as goal

pub returns-in_err-token : goal.returns-in_err-token
returns-in_err-token c =
    rw c.from_residual-in_err-token.ensures
    (omega (arith, ap length c.in_ok-front.ensures.2, ap length c.in_err-token.ensures, length-drop c.args.index (tokens_of c.args.pointer.inner.now)))
