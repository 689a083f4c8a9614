use Rattle.std.proofs.Common.{inr, subst}
use Rattle.jsonptr.specs.Pointer.{tokens}
use Rattle.jsonptr.specs.Text.{Text}
use Rattle.jsonptr_c_calls.specs.Locations.{LacksLocation}
use Rattle.jsonptr_c_calls.proofs.locations.locate.Goals as goal

pub returns-clause-refused : goal.returns-clause-refused
returns-clause-refused c =
    let ts = tokens c.in_ok-pointer.pointer in
    let why = subst (λ (t : Text). LacksLocation t ts c.location_error.result) c.in_ok-text.ensures.text (c.location_error.ensures ts c.in-Err.ensures.refused) in
    inr (ts, (c.in_ok-pointer.ensures.utf8, c.in_ok-pointer.ensures.pointer), inr (c.in_ok-text.ensures.utf8, why))
