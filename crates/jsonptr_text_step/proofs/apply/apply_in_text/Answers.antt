use Rattle.std.proofs.Common.{◌∷◌, List, Option, IfOk, IfSome, string_bytes, sym, subst}
use Rattle.jsonptr_text_step.specs.PrivateOperating.{OperatesInText}
use Rattle.jsonptr_text_step.specs.declared.plan.Made.{Made}
use Rattle.jsonptr_text_step.specs.PatchInText.{PatchesInText}
use Rattle.jsonptr_text_value.specs.Operations.{operations_in}
use Rattle.jsonptr_text_step.specs.RawPatching.{GivenBytes, RawPatchBytes}
use Rattle.jsonptr_text_value.specs.declared.raw_operation.RawOperation.{RawOperation}
use Rattle.jsonptr_text_step.proofs.EditLemmas.{if_new}
use Rattle.jsonptr_text_step.proofs.OperatingLemmas.{patches_first}
use Rattle.jsonptr_text_step.proofs.apply.apply_in_text.Goals as goal

pub returns-clause-applied : goal.returns-clause-applied
returns-clause-applied c =
    let r = c.apply_rest.result in
    let old = c.args.text.now in
    let o = c.in-Some.first.now in
    let os = c.in-Some.rest.now in
    let mid = string_bytes c.in-Some-2.next.text in
    let first = subst (λ (n : Option Made). IfSome n (λ s. OperatesInText old o.operation (string_bytes s.text))) c.in-Some-2.is c.in_ok-next.ensures.applied in
    subst (λ (all : List RawOperation). IfOk r (λ n. IfSome n (λ s. PatchesInText old (operations_in all) (string_bytes s)))) (sym c.in-Some.ensures.cases.0)
    (if_new r
    (λ s. PatchesInText mid (operations_in os) (string_bytes s))
    (λ s. PatchesInText old (o.operation ∷ operations_in os) (string_bytes s))
    (λ s h. patches_first old mid (string_bytes s) o.operation (operations_in os) first h)
    (c.apply_rest.ensures.applied first.1 first.3))

pub returns-clause-bytes : goal.returns-clause-bytes
returns-clause-bytes c =
    let r = c.apply_rest.result in
    let old = c.args.text.now in
    let o = c.in-Some.first.now in
    let os = c.in-Some.rest.now in
    let mid = string_bytes c.in-Some-2.next.text in
    let first = subst (λ (n : Option Made). IfSome n (λ s. GivenBytes old o.operation o.raw (string_bytes s.text))) c.in-Some-2.is c.in_ok-next.ensures.bytes in
    subst (λ (all : List RawOperation). IfOk r (λ n. IfSome n (λ s. RawPatchBytes old all (string_bytes s)))) (sym c.in-Some.ensures.cases.0)
    (if_new r
    (λ s. RawPatchBytes mid os (string_bytes s))
    (λ s. RawPatchBytes old (o ∷ os) (string_bytes s))
    (λ s h. (mid, first, h))
    c.apply_rest.ensures.bytes)
