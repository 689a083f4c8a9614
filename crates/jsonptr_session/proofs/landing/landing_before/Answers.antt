use Rattle.std.proofs.Common.{ap, ◌∙◌, ◌++◌, ◌∷◌, []}
use Rattle.jsonptr.specs.Text.{Text}
use Rattle.jsonptr_session.proofs.UndoLemmas.{landing_unreachable, landing_not_found, landing_no_index, landing_out_of_bounds}
use Rattle.jsonptr_session.proofs.landing.landing_before.Goals as goal

pub returns-in-Unreachable : goal.returns-in-Unreachable
returns-in-Unreachable c = landing_unreachable _ _ _ _ _ c.in-Unreachable.is c.prefix_before.ensures

pub returns-in-NotFound : goal.returns-in-NotFound
returns-in-NotFound c = landing_not_found _ _ _ _ _ c.in-NotFound.is c.prefix_through.ensures

pub returns-in-FailedToParseIndex : goal.returns-in-FailedToParseIndex
returns-in-FailedToParseIndex c = landing_no_index _ _ _ _ _ _ c.in-FailedToParseIndex.is c.prefix_through-in-FailedToParseIndex.ensures

pub returns-in_ok-push_back-in-OutOfBounds : goal.returns-in_ok-push_back-in-OutOfBounds
returns-in_ok-push_back-in-OutOfBounds c = landing_out_of_bounds _ _ _ _ _ _ _ c.in-OutOfBounds.is c.in_ok-landing-in-OutOfBounds.ensures (c.in_ok-push_back-in-OutOfBounds.ensures.pushed ∙ ap (λ (t : Text). c.in_ok-landing-in-OutOfBounds.landing ++ t ∷ []) c.in_ok-from_number-in-OutOfBounds.ensures)
