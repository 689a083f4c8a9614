use Rattle.std.proofs.Common.{List, subst}
use Rattle.serde_json.specs.View.{view}
use Rattle.jsonptr.specs.Json.{nodes}
use Rattle.jsonptr.specs.Resolve.{Refuses}
use Rattle.jsonptr.specs.Text.{Text}
use Rattle.jsonptr.proofs.Calling.{Refuses-NamesNothing}
use Rattle.jsonptr_patch.proofs.LaterLemmas.{kept_names}
use Rattle.jsonptr_patch.proofs.later.location_of.Goals as goal

pub unreachable-requires : goal.unreachable-requires
unreachable-requires c =
    let n = nodes (view c.args.document.now) in
    let there = kept_names c.args.one.location n c.args.one.path c.requires in
    let refused = rw c.in-Err-Refused.field-0-is at c.in-Err-Refused.ensures.refused in
    Refuses-NamesNothing n c.args.one.path c.in-Err-Refused.field-0-0 (subst (λ (ts : List Text). Refuses n ts c.in-Err-Refused.field-0-0) c.as_ptr.ensures.tokens refused) there.0 there.1
