use Rattle.std.proofs.Common.{subst, sym, arith}
use Rattle.std.specs.Prelude.{IsUtf8}
use Rattle.jsonptr_grammar.proofs.EscapeLemmas.{IsUtf8-unesc}
use Rattle.jsonptr_base.proofs.TokenLemmas.{unescaped_whole}
use Rattle.jsonptr_base.proofs.token.scan.unescaped.Goals as goal

pub from_utf8_unchecked-requires : goal.from_utf8_unchecked-requires
from_utf8_unchecked-requires c =
    let whole = unescaped_whole c.loop-i.bytes.items c.args.encoded.now c.loop-i.i (omega (arith, c.loop-i-test.false)) c.loop-i.invariant.so_far in
    subst IsUtf8 (sym whole) (IsUtf8-unesc c.args.encoded.now c.requires c.utf8.encoded)
