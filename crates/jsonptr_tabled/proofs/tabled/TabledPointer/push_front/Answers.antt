use Rattle.std.proofs.Common.{◌∙◌, arith}
use Rattle.jsonptr_tabled.proofs.TableLemmas.{can_move_up, pushed_front}
use Rattle.jsonptr_tabled.proofs.tabled.TabledPointer.push_front.Goals as goal

pub push_front-requires-2-clause-places : goal.push_front-requires-2-clause-places
push_front-requires-2-clause-places c =
    can_move_up c.make_room.new.offsets.items c.self.inside.plain c.push_front.new.self c.args.token c.len_of-before.result c.len_of.result (c.make_room.ensures.items ∙ c.self.invariant) c.in_ok-push_front.ensures.pushed c.len_of-before.ensures c.len_of.ensures
    (omega arith)

pub invariant_of-self-2 : goal.invariant_of-self-2
invariant_of-self-2 c =
    pushed_front c.push_front-2.new.offsets.items c.make_room.new.offsets.items c.self.inside.plain c.push_front.new.self c.args.token c.len_of-before.result c.len_of.result c.push_front-2.ensures (c.make_room.ensures.items ∙ c.self.invariant)
    c.in_ok-push_front.ensures.pushed c.len_of-before.ensures c.len_of.ensures
