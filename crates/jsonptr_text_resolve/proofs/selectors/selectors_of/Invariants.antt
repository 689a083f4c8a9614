use Rattle.jsonptr_text_search.specs.Search.{choices}
use Rattle.jsonptr_text_resolve.specs.Selecting.{AreChoicesOf}
use Rattle.jsonptr_text_resolve.proofs.selectors.selectors_of.Given as goal

abbrev pub invariant-loop-token : goal.invariant-loop-token
invariant-loop-token l = AreChoicesOf l.yielded (choices l.selectors.items)
