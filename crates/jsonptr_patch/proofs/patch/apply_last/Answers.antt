use Rattle.serde_json.specs.View.{view}
use Rattle.jsonptr.specs.Json.{nodes}
use Rattle.jsonptr_patch.proofs.OperatingLemmas.{way_refused}
use Rattle.jsonptr_patch.proofs.patch.apply_last.Goals as goal

pub returns-in-Move-clause-refused : goal.returns-in-Move-clause-refused
returns-in-Move-clause-refused c = rw c.in-Move.is (way_refused (nodes (view c.args.document.now)) c.args.turn.number _ _ c.in-Move.from c.in-Move.path c.move_last.result c.as_ptr-in-Move.ensures.tokens c.as_ptr-in-Move-2.ensures.tokens c.move_last.ensures.refused)
