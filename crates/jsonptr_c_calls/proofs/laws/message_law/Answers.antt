use Rattle.jsonptr_c_calls.proofs.BoundedMessages.{message_short}
use Rattle.jsonptr_c_calls.proofs.MessageLemmas.{message_one}
use Rattle.jsonptr_c_calls.proofs.laws.message_law.Goals as goal

pub returns-clause-text : goal.returns-clause-text
returns-clause-text c = message_one

pub returns-clause-short : goal.returns-clause-short
returns-clause-short c = message_short
