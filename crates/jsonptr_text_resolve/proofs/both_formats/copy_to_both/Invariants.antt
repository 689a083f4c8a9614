use Rattle.std.proofs.Common.{◌≡◌, List, ◌++◌, length}
use Rattle.json.specs.Token.{Token}
use Rattle.jsonptr_text_resolve.specs.PrivateFormat.{HasBad}
use Rattle.jsonptr_text_resolve.proofs.both_formats.copy_to_both.Given as goal

abbrev pub invariant-loop-token : goal.invariant-loop-token
invariant-loop-token l = record {
  done : List Token;
  read : l.fn.reader ≡ done ++ l.reader;
  compact : l.compact.tokens ≡ l.fn.compact.tokens ++ done;
  pretty : l.pretty ≡ l.fn.pretty ++ done;
  kept : l.compact.before ≡ l.fn.compact.before;
  bad : HasBad l.reader → HasBad l.fn.reader;
}

abbrev pub decreases-loop-token : goal.decreases-loop-token
decreases-loop-token l = length l.reader
