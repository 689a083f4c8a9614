use Rattle.jsonptr_session.proofs.MachineLemmas.{pointer_refused, position_refused, value_refused, place_refused, nothing_deleted}
use Rattle.jsonptr_session.proofs.laws.refusal_law.Goals as goal

pub returns : goal.returns
returns c = record {
  bad_pointer = pointer_refused;
  bad_position = position_refused;
  no_value = value_refused;
  bad_place = place_refused;
  nothing_deleted = nothing_deleted;
}
