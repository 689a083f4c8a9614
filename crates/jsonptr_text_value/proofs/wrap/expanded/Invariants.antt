use Rattle.std.proofs.Common.{◌≡◌, List, ◌++◌, length, string_bytes}
use Rattle.json.specs.Lex.{tokens as lexed}
use Rattle.jsonptr.specs.Text.{Text}
use Rattle.jsonptr.specs.Pointer.{tokens}
use Rattle.jsonptr_text_value.specs.Wrapping.{wrapped}
use Rattle.jsonptr_text_value.proofs.wrap.expanded.Given as goal

abbrev pub invariant-tokens : goal.invariant-tokens
invariant-tokens l =
    (done : List Text)
    × (tokens l.initial.pointer ≡ tokens l.left ++ done)
    × (lexed (string_bytes l.current) ≡ wrapped done (lexed l.text))

abbrev pub decreases-tokens : goal.decreases-tokens
decreases-tokens l = length (tokens l.left)
