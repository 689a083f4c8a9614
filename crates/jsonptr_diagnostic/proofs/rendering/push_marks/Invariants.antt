use Rattle.std.proofs.Common.{◌≡◌, ◌+◌, ◌++◌, length, replicate, string_bytes, IsUtf8, chars, encode_utf8_all}
use Rattle.std.specs.Str.Iter.{char_indices_rest, char_indices_offset}
use Rattle.jsonptr_diagnostic.specs.Rendering.{columns}
use Rattle.jsonptr_diagnostic.specs.PrivateRendering.{is_in_part}
use Rattle.jsonptr_diagnostic.proofs.rendering.push_marks.Given as goal

abbrev pub invariant-loop-begin : goal.invariant-loop-begin
invariant-loop-begin l = record {
  utf8 : IsUtf8 (char_indices_rest l.begin-iterator);
  inside : char_indices_offset l.begin-iterator + length (char_indices_rest l.begin-iterator) ≡ length l.text;
  left : string_bytes l.out ++ encode_utf8_all (replicate (columns (is_in_part l.part) (char_indices_offset l.begin-iterator) (chars (char_indices_rest l.begin-iterator))) l.mark)
      ≡ string_bytes l.initial.out ++ encode_utf8_all (replicate (columns (is_in_part l.part) 0 (chars l.text)) l.mark);
}
