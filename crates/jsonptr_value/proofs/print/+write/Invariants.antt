use Rattle.std.proofs.Common.{◌≡◌, ◌+◌, ◌*◌, List, drop}
use Rattle.json.specs.Token.{Token}
use Rattle.jsonptr_value.specs.PrivateFrames.{WritesElements, WritesMembersLeft}
use Rattle.jsonptr_value.proofs.print.+write.Given as goal

-- what ends the array well from here has ended it well from the start
abbrev pub invariant-write_elements-loop-element : goal.invariant-write_elements-loop-element
invariant-write_elements-loop-element l =
    (l.out.before ≡ l.initial.out.before)
    × ((end : List Token) → WritesElements (drop l.element-index l.elements) l.out.tokens end → WritesElements l.elements l.initial.out.tokens end)

-- and the object
abbrev pub invariant-write_members-loop-key : goal.invariant-write_members-loop-key
invariant-write_members-loop-key l =
    (l.out.before ≡ l.initial.out.before)
    × ((end : List Token) → WritesMembersLeft l.key-iterator l.out.tokens end → WritesMembersLeft l.fn.members l.initial.out.tokens end)

abbrev pub decreases-write : goal.decreases-write
decreases-write l = 3 * l.levels

abbrev pub decreases-write_child : goal.decreases-write_child
decreases-write_child l = 3 * l.levels + 1

abbrev pub decreases-write_elements : goal.decreases-write_elements
decreases-write_elements l = 3 * l.levels + 2

abbrev pub decreases-write_members : goal.decreases-write_members
decreases-write_members l = 3 * l.levels + 2
