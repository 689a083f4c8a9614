use Rattle.std.proofs.Common.{subst}
use Rattle.std.proofs.lemmas.Result.{on_ok_weaker}
use Rattle.jsonptr_patch.specs.PrivateSearching.{LeadsTo}
use Rattle.jsonptr_patch.proofs.float_search.look_further.Goals as goal

pub returns-in-Elements-clause-leads : goal.returns-in-Elements-clause-leads
returns-in-Elements-clause-leads c = on_ok_weaker c.look_at_element.result (λ h. λ v leads before. h v (subst (LeadsTo v) c.in-Elements.is leads) before) c.look_at_element.ensures.leads

pub returns-in-Members-clause-leads : goal.returns-in-Members-clause-leads
returns-in-Members-clause-leads c = on_ok_weaker c.look_at_member.result (λ h. λ v leads before. h v (subst (LeadsTo v) c.in-Members.is leads) before) c.look_at_member.ensures.leads
