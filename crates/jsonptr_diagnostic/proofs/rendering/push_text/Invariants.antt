use Rattle.std.proofs.Common.{◌≡◌, ◌++◌, string_bytes, IsUtf8, chars, encode_utf8_all}
use Rattle.std.specs.Str.Iter.{chars_rest}
use Rattle.jsonptr_diagnostic.specs.Rendering.{shown}
use Rattle.jsonptr_diagnostic.proofs.rendering.push_text.Given as goal

abbrev pub invariant-loop-c : goal.invariant-loop-c
invariant-loop-c l = record {
  utf8 : IsUtf8 (chars_rest l.c-iterator);
  left : string_bytes l.out ++ encode_utf8_all (shown (chars (chars_rest l.c-iterator)))
      ≡ string_bytes l.initial.out ++ encode_utf8_all (shown (chars l.text));
}
