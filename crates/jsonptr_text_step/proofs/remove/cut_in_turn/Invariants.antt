use Rattle.std.proofs.Common.{◌≡◌, List, ℕ, string_bytes}
use Rattle.jsonptr.specs.Pointer.{tokens}
use Rattle.jsonptr_text_step.specs.Bytes.{CutsInTurn}
use Rattle.jsonptr_text_step.proofs.remove.cut_in_turn.Given as goal

abbrev pub invariant-cuts : goal.invariant-cuts
invariant-cuts l =
    l.members.key.now ≡ l.members.token.now
    → (mids : List (List ℕ)) × CutsInTurn (tokens l.members.site.now.pointer) l.members.token.now (string_bytes l.fn.text) mids (string_bytes l.current)
