use Rattle.std.proofs.Common.{ap, ◌∙◌}
use Rattle.jsonptr_patch_journal.specs.Location.{steps_of}
use Rattle.jsonptr_patch_journal.proofs.LocationLemmas.{steps_of-push}
use Rattle.jsonptr_patch_journal.proofs.location.Location.split_last.Goals as goal

pub returns : goal.returns
returns c = ap steps_of c.in_ok-last.ensures.items ∙ steps_of-push c.pop.new.self.items c.in_ok-last.last
