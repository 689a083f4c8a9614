use Rattle.std.proofs.Common.{rules}
use Rattle.serde_json.specs.View.{view}
use Rattle.jsonptr.specs.Json.{nodes}
use Rattle.jsonptr.specs.Pointer.{tokens}
use Rattle.jsonptr.specs.Resolve.{Refuses}
use Rattle.jsonptr.proofs.Calling.{Refuses-NamesNothing}
use Rattle.jsonptr_uses.proofs.layers.find.Goals as goal

pub returns-in_ok-refused-in-Err-clause-found : goal.returns-in_ok-refused-in-Err-clause-found
returns-in_ok-refused-in-Err-clause-found c =
    let refused : Refuses (nodes (view c.args.document.now)) (tokens c.args.pointer) c.in_ok-refused-in-Err.field-0 = search rules in
    Refuses-NamesNothing _ _ _ refused
