use Rattle.std.proofs.Common.{rules, inr}
use Rattle.std.proofs.lemmas.Result.{IfOk-weaker}
use Rattle.serde_json.specs.View.{view}
use Rattle.jsonptr.specs.Json.{nodes}
use Rattle.jsonptr.specs.Pointer.{tokens}
use Rattle.jsonptr.specs.Resolve.{Refuses}
use Rattle.jsonptr.proofs.Calling.{Refuses-NamesNothing}
use Rattle.jsonptr_uses.proofs.OverlayLemmas.{refused_in_both}
use Rattle.jsonptr_uses.proofs.overlay.OverlayResolve.resolve.Goals as goal

pub returns-in_ok-refused-in-Err-clause-found : goal.returns-in_ok-refused-in-Err-clause-found
returns-in_ok-refused-in-Err-clause-found c =
    let refused : Refuses (nodes (view c.args.self.now.upper)) (tokens c.args.ptr) c.in_ok-refused-in-Err.field-0 = search rules in
    IfOk-weaker c.resolve-in-Err.result _ _ (λ r h. inr (Refuses-NamesNothing _ _ _ refused, h)) c.resolve-in-Err.ensures.found

pub returns-in_ok-refused-in-Err-clause-refused : goal.returns-in_ok-refused-in-Err-clause-refused
returns-in_ok-refused-in-Err-clause-refused c =
    let refused : Refuses (nodes (view c.args.self.now.upper)) (tokens c.args.ptr) c.in_ok-refused-in-Err.field-0 = search rules in
    refused_in_both c.resolve-in-Err.result _ _ (Refuses-NamesNothing _ _ _ refused) c.resolve-in-Err.ensures.refused
