use Rattle.jsonptr_patch.proofs.InsertingLemmas.{with_place-root, with_place-same, with_place-below, with_place-above, IsTree-with_place, IsListed-with_place, without-with, with-without}
use Rattle.jsonptr_patch.proofs.laws.insert.insertion_law.Goals as goal

pub returns : goal.returns
returns c = record {
  longer = with_place-root;
  there = with_place-same;
  earlier = with_place-below;
  later = with_place-above;
  tree = IsTree-with_place;
  finite = IsListed-with_place;
  taken_out = without-with;
  put_back = with-without;
}
