use Rattle.std.proofs.Common.{◌≡◌, ◌++◌, List, length}
use Rattle.json.specs.Token.{Token}
use Rattle.jsonptr_text_digits.specs.Digits.{AreKept}
use Rattle.jsonptr_text_digits.proofs.search.first_lost.Given as goal

abbrev pub invariant-loop-token : goal.invariant-loop-token
invariant-loop-token l = (before : List Token) × (l.initial.reader ≡ before ++ l.reader) × AreKept before

abbrev pub decreases-loop-token : goal.decreases-loop-token
decreases-loop-token l = length l.reader
