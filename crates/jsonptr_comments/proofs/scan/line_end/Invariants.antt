use Rattle.std.proofs.Common.{◌≡◌, ◌≤◌, ◌-◌, drop, length}
use Rattle.jsonptr_comments.specs.PrivateScanning.{after_line}
use Rattle.jsonptr_comments.proofs.scan.line_end.Given as goal

abbrev pub invariant-loop-i : goal.invariant-loop-i
invariant-loop-i l = record {
  after : after_line (drop l.i l.text) ≡ after_line (drop l.fn.from l.text);
  forward : l.fn.from ≤ l.i;
  within : l.i ≤ length l.text;
}

abbrev pub decreases-loop-i : goal.decreases-loop-i
decreases-loop-i l = length l.text - l.i
