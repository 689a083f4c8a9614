use Rattle.jsonptr_run_command.proofs.RunLaw.{asks_one, resolving_one, listing_one, splitting_one, not_both, one_fault, one_value, line_one}
use Rattle.jsonptr_run_command.proofs.TextsLemmas.{texts_written}
use Rattle.jsonptr_run_command.proofs.laws.program_law.Goals as goal

pub returns-clause-asks : goal.returns-clause-asks
returns-clause-asks c = asks_one c.parse_law.ensures.not_both c.parse_law.ensures.one

pub returns-clause-resolves : goal.returns-clause-resolves
returns-clause-resolves c = resolving_one c.resolve_law.ensures.not_both c.resolve_law.ensures.one

pub returns-clause-lists : goal.returns-clause-lists
returns-clause-lists c = listing_one

pub returns-clause-splits : goal.returns-clause-splits
returns-clause-splits c = splitting_one

pub returns-clause-not_both : goal.returns-clause-not_both
returns-clause-not_both c =
    not_both (resolving_one c.resolve_law.ensures.not_both c.resolve_law.ensures.one) c.assign_law.ensures.not_both c.patch_law.ensures.not_both

pub returns-clause-one_fault : goal.returns-clause-one_fault
returns-clause-one_fault c =
    one_fault (resolving_one c.resolve_law.ensures.not_both c.resolve_law.ensures.one) c.assign_law.ensures.one c.patch_law.ensures.one_error

pub returns-clause-one_value : goal.returns-clause-one_value
returns-clause-one_value c =
    one_value (resolving_one c.resolve_law.ensures.not_both c.resolve_law.ensures.one) c.json_map_law.ensures.one_value c.json_law.ensures.tree c.assign_law.ensures.one_made c.deleting_law.ensures.one_map c.patch_law.ensures.one_map

pub returns-clause-line : goal.returns-clause-line
returns-clause-line c = line_one

pub returns-clause-texts : goal.returns-clause-texts
returns-clause-texts c = texts_written
