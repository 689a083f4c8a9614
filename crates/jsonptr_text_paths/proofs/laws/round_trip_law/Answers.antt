use Rattle.jsonptr_text_paths.proofs.RowLemmas.{rebuilt, rebuilt_value, never_stops}
use Rattle.jsonptr_text_paths.proofs.laws.round_trip_law.Goals as goal

pub returns-clause-rebuilt : goal.returns-clause-rebuilt
returns-clause-rebuilt c = rebuilt

pub returns-clause-never_refused : goal.returns-clause-never_refused
returns-clause-never_refused c = never_stops

pub returns-clause-same_value : goal.returns-clause-same_value
returns-clause-same_value c = rebuilt_value
