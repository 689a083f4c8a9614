use Rattle.jsonptr_session.proofs.MachineLemmas.{Laws, moves_one, moves_some, moves_state}
use Rattle.jsonptr_session.proofs.laws.machine_law.Goals as goal

pub returns : goal.returns
returns c =
    let laws : Laws = record {
      parse_some = c.parse_law.ensures.some;
      parse_both = c.parse_law.ensures.not_both;
      parse_one = c.parse_law.ensures.one;
      resolve_some = c.resolve_law.ensures.some;
      resolve_both = c.resolve_law.ensures.not_both;
      resolve_one = c.resolve_law.ensures.one;
      assign_some = c.assign_law.ensures.some;
      assign_both = c.assign_law.ensures.not_both;
      assign_one = c.assign_law.ensures.one;
    } in
    record { some = moves_some laws; one = moves_one laws; state = moves_state }
