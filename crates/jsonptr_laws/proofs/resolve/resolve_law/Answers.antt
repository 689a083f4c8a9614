use Rattle.jsonptr_laws.proofs.ResolveLemmas.{refusal_one, refused_not_found, found_or_refused}
use Rattle.jsonptr_tree.proofs.FollowingLemmas.{Finds_one}
use Rattle.jsonptr_laws.proofs.resolve.resolve_law.Goals as goal

pub returns : goal.returns
returns c = record {
  some = found_or_refused c.child_law.ensures.some;
  not_both = refused_not_found;
  one_found = Finds_one;
  one = refusal_one c.child_law.ensures.one;
}
