use Rattle.std.proofs.Common.{[], refl, inl}
use Rattle.jsonptr_comments.proofs.FirstLemmas.{unique, pieces_or_open, not_both, one_offset}
use Rattle.jsonptr_comments.proofs.laws.pieces_law.Goals as goal

pub returns : goal.returns
returns c = record {
  unique = λ text ps qs h k. (unique text ps qs [] [] h k (inl refl) (inl refl)).0;
  total = pieces_or_open;
  not_both = not_both;
  one_offset = one_offset;
}
