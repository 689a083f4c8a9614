use Rattle.jsonptr_session.proofs.RunLawLemmas.{runs_some, runs_one, runs_each, runs_state, runs_after, runs_needed, runs_without}
use Rattle.jsonptr_session.proofs.laws.run_law.Goals as goal

pub returns : goal.returns
returns c = record {
  some = runs_some c.machine_law.ensures.some c.machine_law.ensures.state;
  one = runs_one c.machine_law.ensures.one;
  each = runs_each;
  state = runs_state c.machine_law.ensures.state;
  after = runs_after;
  needed = runs_needed;
  left_out = runs_without;
}
