use Rattle.std.proofs.Common.{◌≡◌, List, ◌++◌, length}
use Rattle.json.specs.Token.{Token}
use Rattle.jsonptr_text_value.proofs.wrap.copy.Given as goal

abbrev pub invariant-loop-token : goal.invariant-loop-token
invariant-loop-token l =
    (done : List Token)
    × (l.fn.reader ≡ done ++ l.reader)
    × (l.out.tokens ≡ l.fn.out.tokens ++ done)
    × (l.out.before ≡ l.fn.out.before)

abbrev pub decreases-loop-token : goal.decreases-loop-token
decreases-loop-token l = length l.reader
