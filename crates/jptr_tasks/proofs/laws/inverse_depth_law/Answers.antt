use Rattle.std.proofs.Common.{arith}
use Rattle.jsonptr.specs.Json.{nodes}
use Rattle.jsonptr_patch.specs.declared.comparison.Comparison.TheVariants.{Numeric}
use Rattle.jptr_tasks.proofs.InverseLemmas.{not_too_deep}
use Rattle.jptr_tasks.proofs.laws.inverse_depth_law.Goals as goal

pub returns : goal.returns
returns c = record {
  deep = λ text patch sorted h. (h.0, h.1, h.3, h.4, c.inverse_depth_law.ensures.deep Numeric (nodes h.0) h.1 h.2 125 h.5 (h.6 sorted) (omega (arith, h.7)));
  not_both = not_too_deep c.inverse_depth_law.ensures.same c.patch_document_law.ensures.one_patch c.patch_document_law.ensures.same_inverse;
}
