use Rattle.std.proofs.Common.{◌≡◌, sym, ap, ◌∙◌, subst}
use Rattle.serde_json.specs.Data.{Data}
use Rattle.jsonptr.specs.Json.{nodes}
use Rattle.jsonptr_patch.specs.Patching.{PatchesBy}
use Rattle.jsonptr_patch.specs.declared.comparison.Comparison.TheVariants.{Numeric}
use Rattle.jsonptr_text_value.specs.Operations.{operations_in}
use Rattle.jptr_tasks.proofs.DifferenceLemmas.{one_read, is_document}
use Rattle.jptr_tasks.proofs.laws.merge_edit_law.Goals as goal

pub returns : goal.returns
returns c text new d e m p reads_old reads_new turns z =
    let os = operations_in p.operations.items in
    let first : z.0 ≡ d = one_read text z.0 d z.2 reads_old in
    let last : z.1 ≡ e = one_read new z.1 e z.3 reads_new in
    let made : PatchesBy Numeric (nodes d) os (nodes z.1) = subst (λ (q : Data). PatchesBy Numeric (nodes q) os (nodes z.1)) first z.4 in
    let map : nodes z.1 ≡ m = c.comparing_patch_law.ensures.one_map Numeric (nodes d) (nodes z.1) m os (is_document d) made (c.test_comparison_law.ensures.patches (nodes d) m os turns) in
    sym (ap nodes last) ∙ map
