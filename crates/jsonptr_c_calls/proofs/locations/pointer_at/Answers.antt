use Rattle.std.proofs.Common.{[], inl, inr, subst}
use Rattle.jsonptr.specs.Text.{Text}
use Rattle.jsonptr_c_calls.specs.Locations.{LacksLocation}
use Rattle.jsonptr_c_calls.proofs.locations.pointer_at.Goals as goal

pub returns-clause-refused : goal.returns-clause-refused
returns-clause-refused c =
    let why = subst (λ (t : Text). LacksLocation t [] c.location_error.result) c.in_ok-text.ensures.text (c.location_error.ensures [] c.in-Err.ensures.refused) in
    inr (c.in_ok-text.ensures.utf8, inl why)
