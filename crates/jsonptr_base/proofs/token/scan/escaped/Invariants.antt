use Rattle.std.proofs.Common.{vec_len, vec_capacity}
use Rattle.jsonptr_grammar.specs.Text.{esc}
use Rattle.jsonptr_base.proofs.TokenLemmas.{Escaped}
use Rattle.jsonptr_base.proofs.token.scan.escaped.Given as goal

abbrev pub invariant-loop-b : goal.invariant-loop-b
invariant-loop-b l = Escaped (esc l.text) l.bytes.items (vec_len l.bytes) (vec_capacity l.bytes) l.rest l.b-index
