use Rattle.jsonptr_c_calls.proofs.PointerLemmas.{shortens}
use Rattle.jsonptr_c_calls.proofs.pointers.pop.Goals as goal

pub returns-in-Some-clause-popped : goal.returns-in-Some-clause-popped
returns-in-Some-clause-popped c =
    shortens _ _ _ _ _ c.in_ok-parse.ensures.pointer c.in-Some.ensures.1 c.as_str.ensures.tokens
