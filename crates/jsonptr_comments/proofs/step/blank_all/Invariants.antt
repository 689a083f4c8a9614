use Rattle.std.proofs.Common.{◌≡◌, ◌++◌, map, take, drop}
use Rattle.jsonptr_comments.specs.Comments.{blank}
use Rattle.jsonptr_comments.proofs.step.blank_all.Given as goal

abbrev pub invariant-loop-byte : goal.invariant-loop-byte
invariant-loop-byte l = l.bytes ≡ map blank (take l.byte-index l.fn.bytes) ++ drop l.byte-index l.fn.bytes
