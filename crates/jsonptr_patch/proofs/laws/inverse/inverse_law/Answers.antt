use Rattle.jsonptr_patch.proofs.InverseLemmas.{taken_back, all_taken_back}
use Rattle.jsonptr_patch.proofs.OneInverseLemmas.{same_all_back, all_of_before}
use Rattle.jsonptr_patch.proofs.laws.inverse.inverse_law.Goals as goal

pub returns : goal.returns
returns c = record {
  operation = λ c n m o back d. taken_back c n m o back d.0;
  patch = λ c n m os back d. all_taken_back c n m os back d.0;
  same = λ c n os back ps d. same_all_back c n os back ps d.0;
  values = all_of_before;
}
