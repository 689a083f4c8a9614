use Rattle.std.proofs.Common.{◌≡◌, List, subst}
use Rattle.serde_json.specs.Data.{Data}
use Rattle.jsonptr.specs.Json.{nodes}
use Rattle.jsonptr.specs.Node.{NodeMap}
use Rattle.jsonptr_patch.specs.Patching.{PatchesBy}
use Rattle.jsonptr_patch.specs.declared.comparison.Comparison.TheVariants.{Numeric}
use Rattle.jsonptr_patch.specs.declared.operation.Operation.{Operation}
use Rattle.jsonptr_patch_document.specs.Document.{IsPatch}
use Rattle.jptr_tasks.proofs.DifferenceLemmas.{one_read, is_document, inverse_undoes, printed}
use Rattle.jptr_tasks.proofs.laws.printed_inverse_law.Goals as goal

pub returns-clause-undone : goal.returns-clause-undone
returns-clause-undone c a b out d patch back style first layout u reads made not_raw inverse reads_back second =
    let z = made.3 in
    let done : PatchesBy Numeric (nodes d) made.0 (nodes z.1) = subst (λ (q : Data). PatchesBy Numeric (nodes q) made.0 (nodes z.1)) (one_read a z.0 d z.2 reads) z.4 in
    let one : (ps : List Operation) (l : NodeMap) → IsPatch patch ps → PatchesBy Numeric (nodes d) ps l → l ≡ nodes z.1 = λ ps l is h. c.comparing_patch_law.ensures.one_map Numeric (nodes d) l (nodes z.1) ps (is_document d) h (c.patch_document_law.ensures.same_effect_comparing Numeric (nodes d) (nodes z.1) made.0 ps (c.patch_document_law.ensures.one_patch patch made.0 ps made.2 is) done) in
    c.printed_difference_law.ensures.applied b a out z.1 d back style layout u (printed first made.1 b z.1 z.3 not_raw made.4) reads (inverse_undoes a d z.1 patch style u one reads inverse) reads_back second

pub returns-clause-never_refused : goal.returns-clause-never_refused
returns-clause-never_refused c a b d patch back style first layout u e reads made not_raw inverse reads_back fails =
    let z = made.3 in
    let done : PatchesBy Numeric (nodes d) made.0 (nodes z.1) = subst (λ (q : Data). PatchesBy Numeric (nodes q) made.0 (nodes z.1)) (one_read a z.0 d z.2 reads) z.4 in
    let one : (ps : List Operation) (l : NodeMap) → IsPatch patch ps → PatchesBy Numeric (nodes d) ps l → l ≡ nodes z.1 = λ ps l is h. c.comparing_patch_law.ensures.one_map Numeric (nodes d) l (nodes z.1) ps (is_document d) h (c.patch_document_law.ensures.same_effect_comparing Numeric (nodes d) (nodes z.1) made.0 ps (c.patch_document_law.ensures.one_patch patch made.0 ps made.2 is) done) in
    c.printed_difference_law.ensures.never_refused b a z.1 d back style layout u e (printed first made.1 b z.1 z.3 not_raw made.4) reads (inverse_undoes a d z.1 patch style u one reads inverse) reads_back fails
