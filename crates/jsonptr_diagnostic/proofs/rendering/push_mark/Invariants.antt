use Rattle.std.proofs.Common.{◌≡◌, ◌++◌, length, replicate, string_bytes, encode_utf8_all}
use Rattle.std.specs.Char.Iter.{escape_rest}
use Rattle.std.specs.Char.Escape.{escape_unicode}
use Rattle.jsonptr_diagnostic.proofs.rendering.push_mark.Given as goal

abbrev pub invariant-loop : goal.invariant-loop
invariant-loop l =
    string_bytes l.out ++ encode_utf8_all (replicate (length (escape_rest l.iterator')) l.mark)
    ≡ string_bytes l.initial.out ++ encode_utf8_all (replicate (length (escape_unicode l.fn.c)) l.mark)
