use Rattle.std.proofs.Common.{◌≡◌, ◌++◌, string_bytes, encode_utf8_all}
use Rattle.std.specs.Char.Iter.{escape_rest}
use Rattle.std.specs.Char.Escape.{escape_unicode}
use Rattle.jsonptr_diagnostic.proofs.rendering.push_shown.Given as goal

abbrev pub invariant-loop-shown : goal.invariant-loop-shown
invariant-loop-shown l =
    string_bytes l.out ++ encode_utf8_all (escape_rest l.shown-iterator)
    ≡ string_bytes l.initial.out ++ encode_utf8_all (escape_unicode l.fn.c)
