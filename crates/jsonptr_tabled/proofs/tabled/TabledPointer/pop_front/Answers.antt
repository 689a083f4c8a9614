use Rattle.jsonptr_tabled.proofs.TableLemmas.{can_move_down, popped_front}
use Rattle.jsonptr_tabled.proofs.tabled.TabledPointer.pop_front.Goals as goal

pub pop_front-requires-2 : goal.pop_front-requires-2
pop_front-requires-2 c =
    can_move_down c.self.inside.offsets.items c.self.inside.plain c.pop_front.new.self c.in_ok-first.first c.len_of-before.result c.len_of.result c.self.invariant c.in_ok-first.ensures.popped c.len_of-before.ensures c.len_of.ensures

pub invariant_of-self-2 : goal.invariant_of-self-2
invariant_of-self-2 c =
    popped_front c.pop_front-2.new.offsets.items c.self.inside.offsets.items c.self.inside.plain c.pop_front.new.self c.in_ok-first.first c.len_of-before.result c.len_of.result c.pop_front-2.ensures c.self.invariant c.in_ok-first.ensures.popped
    c.len_of-before.ensures c.len_of.ensures
