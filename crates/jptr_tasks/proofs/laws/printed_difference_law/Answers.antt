use Rattle.std.proofs.Common.{◌≡◌, List, Some, None, sym, ◌∙◌, subst, string_bytes}
use Rattle.serde_json.specs.Data.{Data, depth}
use Rattle.serde_json.specs.Read.{read, max_depth}
use Rattle.serde_json.proofs.Nesting.{depth-read}
use Rattle.jsonptr.proofs.Calling.{ascends_read}
use Rattle.jsonptr.specs.Json.{nodes}
use Rattle.jsonptr.specs.Node.{NodeMap}
use Rattle.jsonptr_value.specs.Nesting.{NestsWithin}
use Rattle.jsonptr_value.proofs.LevelLemmas.{NestsWithin-depth}
use Rattle.jsonptr_value.proofs.NestingLemmas.{NestsWithin-more}
use Rattle.jsonptr_patch.specs.Patching.{Patches, PatchesBy, FailsBy}
use Rattle.jsonptr_patch.specs.declared.comparison.Comparison.TheVariants.{Numeric}
use Rattle.jsonptr_patch.specs.declared.operation.Operation.{Operation}
use Rattle.jsonptr_patch_document.specs.Document.{IsPatch}
use Rattle.jsonptr_patch_document.specs.Writing.{document_of}
use Rattle.jptr_tasks.proofs.DifferenceLemmas.{one_read, is_document, restyled, no_fault}
use Rattle.jptr_tasks.proofs.laws.printed_difference_law.Goals as goal

no_read : (text : _) (d : Data) → read text ≡ Some d → read text ≡ None → ⊥
no_read text d h k =
    let whole : Some d ≡ None = sym h ∙ k in
    let wrong : ⊥ = cc in
    wrong

pub returns-clause-applied : goal.returns-clause-applied
returns-clause-applied c a b out n m p style layout d reads_a reads_b diff reads_p y =
    let os = diff.0 in
    let z = y.3 in
    let is : p ≡ document_of os = one_read (string_bytes d.text) p (document_of os) reads_p diff.3 in
    let patch : IsPatch p os = subst (λ (q : Data). IsPatch q os) (sym is) (c.writing_law.ensures.read os) in
    let first : z.0 ≡ n = one_read a z.0 n z.2 reads_a in
    let made : PatchesBy Numeric (nodes n) y.0 (nodes z.1) = subst (λ (q : Data). PatchesBy Numeric (nodes q) y.0 (nodes z.1)) first z.4 in
    let again : PatchesBy Numeric (nodes n) os (nodes z.1) = c.patch_document_law.ensures.same_effect_comparing Numeric (nodes n) (nodes z.1) y.0 os (c.patch_document_law.ensures.one_patch p y.0 os y.2 patch) made in
    let map : nodes m ≡ nodes z.1 = c.comparing_patch_law.ensures.one_map Numeric (nodes n) (nodes m) (nodes z.1) os (is_document n) (c.test_comparison_law.ensures.patches (nodes n) (nodes m) os diff.1) again in
    let done : Patches (nodes n) os (nodes z.1) = subst (λ (k : NodeMap). Patches (nodes n) os k) map diff.1 in
    let one : z.1 ≡ m = c.difference_law.ensures.same n m z.1 os diff.1 done (ascends_read b m reads_b) (ascends_read y.1 z.1 z.3) in
    restyled layout y.1 out m (subst (λ (q : Data). read y.1 ≡ Some q) one z.3) y.4

pub returns-clause-never_refused : goal.returns-clause-never_refused
returns-clause-never_refused c a b n m p style layout d e reads_a reads_b diff reads_p h =
    let os = diff.0 in
    let is : p ≡ document_of os = one_read (string_bytes d.text) p (document_of os) reads_p diff.3 in
    let patch : IsPatch p os = subst (λ (q : Data). IsPatch q os) (sym is) (c.writing_law.ensures.read os) in
    let turns : (us : List Operation) → IsPatch p us → Patches (nodes n) us (nodes m) = λ us same. c.patch_document_law.ensures.same_effect (nodes n) (nodes m) os us (c.patch_document_law.ensures.one_patch p os us patch same) diff.1 in
    let within : NestsWithin max_depth (nodes m) = NestsWithin-more (depth m) max_depth (nodes m) (depth-read b m reads_b) (NestsWithin-depth m) in
    no_fault a p layout e
    (λ f none. c.patch_document_law.ensures.not_both p os f patch none)
    (λ none. no_read a n reads_a none)
    (λ us d1 f same reads refused. c.comparing_patch_law.ensures.failure_not_both Numeric (nodes n) (nodes m) us f (is_document n) (c.test_comparison_law.ensures.patches (nodes n) (nodes m) us (turns us same)) (subst (λ (q : Data). FailsBy Numeric (nodes q) us f) (one_read a d1 n reads reads_a) refused))
    (λ us same fault.
    let first : fault.0 ≡ n = one_read a fault.0 n fault.2 reads_a in
    let made : PatchesBy Numeric (nodes n) us fault.1 = subst (λ (q : Data). PatchesBy Numeric (nodes q) us fault.1) first fault.3 in
    let one : fault.1 ≡ nodes m = c.comparing_patch_law.ensures.one_map Numeric (nodes n) fault.1 (nodes m) us (is_document n) made (c.test_comparison_law.ensures.patches (nodes n) (nodes m) us (turns us same)) in
    fault.4 (c.patch_document_law.ensures.sorted p us (ascends_read (string_bytes d.text) p reads_p) same) (subst (NestsWithin max_depth) (sym one) within))
    h
