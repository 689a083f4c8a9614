use Rattle.jsonptr_patch.specs.PrivateTesting.{FloatIn}
use Rattle.jsonptr_patch.specs.PrivateSearching.{AllLeadTo, AllLack, stack_length}
use Rattle.jsonptr_patch.proofs.float_search.search.Given as goal

abbrev pub invariant-loop-left : goal.invariant-loop-left
invariant-loop-left l = AllLeadTo l.fn.value l.stack.items × (AllLack l.stack.items → FloatIn l.fn.value → ⊥)

abbrev pub decreases-loop-left : goal.decreases-loop-left
decreases-loop-left l = stack_length l.stack.items
