use Rattle.std.proofs.Common.{◌≡◌, ◌∷◌, ◌++◌, drop, string_bytes, chars, encode_utf8_all}
use Rattle.std.specs.List.{flat_map}
use Rattle.jsonptr_diagnostic.specs.Rendering.{label_line}
use Rattle.jsonptr_diagnostic.proofs.rendering.push_labels.Given as goal

abbrev pub invariant-loop-label : goal.invariant-loop-label
invariant-loop-label l =
    string_bytes l.out ++ encode_utf8_all (flat_map (λ m. 10 ∷ label_line (chars l.text) m) (drop l.label-index l.labels))
    ≡ string_bytes l.initial.out ++ encode_utf8_all (flat_map (λ m. 10 ∷ label_line (chars l.text) m) l.labels)
