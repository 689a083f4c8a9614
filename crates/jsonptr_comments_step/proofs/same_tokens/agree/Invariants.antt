use Rattle.std.proofs.Common.{◌≡◌, length}
use Rattle.jsonptr_comments_step.proofs.same_tokens.agree.Given as goal

abbrev pub invariant-loop-token : goal.invariant-loop-token
invariant-loop-token l = l.one ≡ l.two → l.initial.one ≡ l.initial.two

abbrev pub decreases-loop-token : goal.decreases-loop-token
decreases-loop-token l = length l.one
