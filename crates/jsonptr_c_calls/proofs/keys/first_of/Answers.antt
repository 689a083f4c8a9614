use Rattle.jsonptr_c_calls.proofs.KeyLemmas.{first_key}
use Rattle.jsonptr_c_calls.proofs.keys.first_of.Goals as goal

pub returns-in-Some : goal.returns-in-Some
returns-in-Some c = rw c.as_str.ensures.value (first_key c.args.members.now c.in-Some.key.now c.in-Some._value.now c.in-Some.ensures.value c.in-Some.ensures.all_from)
