use Rattle.jsonptr_tabled.proofs.TableLemmas.{popped_back}
use Rattle.jsonptr_tabled.proofs.tabled.TabledPointer.pop_back.Goals as goal

pub invariant_of-self-2 : goal.invariant_of-self-2
invariant_of-self-2 c =
    popped_back c.self.inside.offsets.items _ c.self.inside.plain _ c.in_ok-last.last c.self.inside.offsets.len c.self.inside.offsets.ok.0 c.self.invariant c.in_ok-last.ensures.popped c.pop.ensures.rest
