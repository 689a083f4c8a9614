use Rattle.std.proofs.Common.{sym, subst, ap, arith, length}
use Rattle.std.specs.Prelude.{IsUtf8}
use Rattle.jsonptr_grammar.proofs.EscapeLemmas.{IsUtf8-esc_iff, length-esc-le}
use Rattle.jsonptr_base.proofs.TokenLemmas.{escaped_start, escaped_whole}
use Rattle.jsonptr_base.proofs.token.scan.escaped.Goals as goal

pub loop-b-init : goal.loop-b-init
loop-b-init c =
    rw (c.in_ok-extend_from_slice.ensures.items, c.in_ok-bytes.ensures.items)
    (escaped_start c.args.text.now _ _ c.split_at.result.1.now _ _ c.args.at c.as_bytes.ensures.value c.requires.inside c.requires.plain c.split_at.ensures.front c.split_at.ensures.back
    (omega (arith, c.in_ok-extend_from_slice.ensures.len, c.in_ok-extend_from_slice.ensures.capacity, c.in_ok-bytes.ensures.len, c.in_ok-bytes.ensures.exact, c.in_ok-checked_len.ensures, c.split_at.ensures.front_len, c.split_at.ensures.back_len, ap length c.as_bytes.ensures.value, length-esc-le c.split_at.result.1.now)))

pub from_utf8_unchecked-requires : goal.from_utf8_unchecked-requires
from_utf8_unchecked-requires c =
    let whole = escaped_whole _ _ _ _ _ _ c.loop-b.invariant (omega arith) in
    subst IsUtf8 (sym whole) ((IsUtf8-esc_iff c.args.text.now).1 c.utf8.text)
