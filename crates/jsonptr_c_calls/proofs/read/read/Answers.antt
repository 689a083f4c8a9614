use Rattle.serde_json.specs.View.{view}
use Rattle.jsonptr_c_calls.proofs.BoundLemmas.{parsed-read}
use Rattle.jsonptr_c_calls.proofs.read.read.Goals as goal

pub returns-in-Ok-clause-parsed : goal.returns-in-Ok-clause-parsed
returns-in-Ok-clause-parsed c = parsed-read c.in_ok-text.text.now (view c.in-Ok.value) c.in-Ok.ensures.ok
