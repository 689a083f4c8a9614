use Rattle.std.proofs.Common.{◌≡◌, ◌+◌, List, [], ◌∷◌, ◌++◌, take, Option, IfSome, string_bytes, refl, sym, ap, ◌∙◌, subst}
use Rattle.std.proofs.lemmas.List.{take_more}
use Rattle.jsonptr.specs.Text.{Text}
use Rattle.jsonptr_patch.specs.declared.operation.Operation.{Operation}
use Rattle.jsonptr_text_step.specs.PrivateOperating.{OperatesInText}
use Rattle.jsonptr_text_step.specs.declared.plan.Made.{Made}
use Rattle.jsonptr_text_step.specs.PatchInText.{PatchesInText}
use Rattle.jsonptr_text_value.specs.Operations.{operations_in}
use Rattle.jsonptr_text_step.specs.RawPatching.{GivenBytes, RawPatchBytes}
use Rattle.jsonptr_text_value.specs.declared.raw_operation.RawOperation.{RawOperation}
use Rattle.jsonptr_text_step.proofs.OperatingLemmas.{patches_more}
use Rattle.jsonptr_text_step.proofs.RawLemmas.{raw_bytes_push}
use Rattle.jsonptr_text_value.proofs.ListLemmas.{operations_push}
use Rattle.jsonptr_text_step.proofs.apply.apply_rest.Goals as goal

pub operations-init : goal.operations-init
operations-init c = (λ d reads. (d, d, reads, reads, refl), refl)

pub operations-preserved : goal.operations-preserved
operations-preserved c =
    let ops = c.args.operations.now in
    let i = c.operations.operation-index in
    let o = c.operation-item.result in
    let old = string_bytes c.args.text in
    let mid = string_bytes c.operations.current in
    let new = string_bytes c.in-Some.next.text in
    let was = c.as_str.result.now in
    let applied = subst (λ (t : Text). OperatesInText t o.operation new) c.as_str.ensures.value (subst (λ (n : Option Made). IfSome n (λ s. OperatesInText was o.operation (string_bytes s.text))) c.in-Some.is c.in_ok-next.ensures.applied) in
    let bytes = subst (λ (t : Text). GivenBytes t o.operation o.raw new) c.as_str.ensures.value (subst (λ (n : Option Made). IfSome n (λ s. GivenBytes was o.operation o.raw (string_bytes s.text))) c.in-Some.is c.in_ok-next.ensures.bytes) in
    let more : take i ops ++ o ∷ [] ≡ take (i + 1) ops = ap (λ (x : RawOperation). take i ops ++ x ∷ []) c.operation-item.is ∙ sym (take_more ops i o c.operations-test.true) in
    let alone : operations_in (take i ops) ++ o.operation ∷ [] ≡ operations_in (take (i + 1) ops) = sym (operations_push (take i ops) o) ∙ ap operations_in more in (
      λ d reads. subst (λ (os : List Operation). PatchesInText old os new) alone (patches_more old mid new (operations_in (take i ops)) o.operation (c.operations.invariant.0 d reads) applied),
      subst (λ (rs : List RawOperation). RawPatchBytes old rs new) more (raw_bytes_push old mid new (take i ops) o c.operations.invariant.1 bytes),
    )
