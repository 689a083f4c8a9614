use Rattle.std.proofs.Common.{◌≡◌, List}
use Rattle.json.specs.Token.{Token}
use Rattle.serde_json.specs.View.{view}
use Rattle.serde_json.specs.Written.{WritesValue}
use Rattle.jsonptr_value.specs.PrivateFrames.{WritesStack, stack_length}
use Rattle.jsonptr_value.proofs.frame.write_deep.Given as goal

-- what writes the stack well from here has written the value well from the start
abbrev pub invariant-loop-frame : goal.invariant-loop-frame
invariant-loop-frame l =
    (l.out.before ≡ l.fn.out.before)
    × ((end : List Token) → WritesStack l.stack.items l.out.tokens end → WritesValue (view l.fn.value) l.fn.out.tokens end)

abbrev pub decreases-loop-frame : goal.decreases-loop-frame
decreases-loop-frame l = stack_length l.stack.items
