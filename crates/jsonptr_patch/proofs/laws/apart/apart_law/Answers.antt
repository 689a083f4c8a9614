use Rattle.jsonptr_patch.proofs.ApartLemmas.{all_turned, apart_swap, apart_diamond, apart_refused, apart_after, patches_swap}
use Rattle.jsonptr_patch.proofs.MemberLemmas.{diverges_turned}
use Rattle.jsonptr_patch.specs.Apart.{pointers, all_pointers}
use Rattle.jsonptr_patch.proofs.laws.apart.apart_law.Goals as goal

pub returns : goal.returns
returns c = record {
  operations = λ n m o p d. (apart_swap n m o p d, apart_swap n m p o (all_turned n (pointers o) (pointers p) d));
  both = apart_diamond;
  refused = apart_refused;
  patches = λ n m os ps d. (patches_swap n m os ps d, patches_swap n m ps os (all_turned n (all_pointers os) (all_pointers ps) d));
  kept = apart_after;
  turned = diverges_turned;
}
