use Rattle.jsonptr_c_calls.proofs.KeyLemmas.{next_key, no_next_key}
use Rattle.jsonptr_c_calls.proofs.keys.next_of.Goals as goal

pub returns-in-Some : goal.returns-in-Some
returns-in-Some c = rw c.as_str.ensures.value (next_key c.args.members.now c.args.key.now c.in-Some.next.now c.in-Some._value.now c.range-after.result _ (c.range-after.ensures.in_range tt) c.in-Some.ensures.steps)

pub returns-in-None : goal.returns-in-None
returns-in-None c = no_next_key c.args.members.now c.args.key.now c.range-after.result (c.range-after.ensures.in_range tt) c.in-None.ensures.steps.0
