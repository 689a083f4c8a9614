use Rattle.std.proofs.Common.{[], ◌∷◌, ap, sym, ◌∙◌}
use Rattle.jsonptr.specs.Node.{key, NodeMap, sub}
use Rattle.jsonptr_merge.proofs.ObjectLemmas.{member_map}
use Rattle.jsonptr_merge.proofs.PatchLemmas.{side_other, lacks}
use Rattle.jsonptr_merge.proofs.object.members_of.Goals as goal

pub returns-in-Some-clause-members : goal.returns-in-Some-clause-members
returns-in-Some-clause-members c = λ k. ap (λ (n : NodeMap). sub n (key k ∷ [])) c.in-Some.ensures.is ∙ member_map c.in-Some.members.now k

pub returns-in-None-clause-members : goal.returns-in-None-clause-members
returns-in-None-clause-members c = λ k. side_other c.args.side c.in-None.ensures.is k ∙ sym (lacks c.args.none.now k (c.requires k))
