use Rattle.std.proofs.Common.{◌≡◌, List, ◌++◌, length}
use Rattle.json.specs.Token.{Token}
use Rattle.jsonptr_text_resolve.specs.PrivateFormat.{HasBad}
use Rattle.jsonptr_text_resolve.proofs.format.copy.Given as goal

abbrev pub invariant-loop-token : goal.invariant-loop-token
invariant-loop-token g l = record {
  done : List Token;
  read : l.fn.reader ≡ done ++ l.reader;
  written : g.W.TokenSink.written l.out ≡ g.W.TokenSink.written l.fn.out ++ done;
  kept : g.W.TokenSink.before l.out ≡ g.W.TokenSink.before l.fn.out;
  bad : HasBad l.reader → HasBad l.fn.reader;
}

abbrev pub decreases-loop-token : goal.decreases-loop-token
decreases-loop-token g l = length l.reader
