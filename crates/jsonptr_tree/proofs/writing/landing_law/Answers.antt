use Rattle.jsonptr_tree.proofs.LandingLemmas.{lands, Lands-LandsNowhere, Lands_one, Lands_named}
use Rattle.jsonptr_tree.proofs.writing.landing_law.Goals as goal

pub returns-clause-lands : goal.returns-clause-lands
returns-clause-lands c = lands

pub returns-clause-not_both : goal.returns-clause-not_both
returns-clause-not_both c = Lands-LandsNowhere

pub returns-clause-one_place : goal.returns-clause-one_place
returns-clause-one_place c = Lands_one

pub returns-clause-named : goal.returns-clause-named
returns-clause-named c = Lands_named
