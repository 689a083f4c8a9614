use Rattle.std.proofs.Common.{List, IfOk, IfSome, string_bytes, sym, subst}
use Rattle.serde_json.specs.View.{view}
use Rattle.jsonptr.specs.Text.{Text}
use Rattle.jsonptr.specs.Pointer.{tokens}
use Rattle.jsonptr.specs.Json.{nodes}
use Rattle.jsonptr_patch.specs.declared.operation.Operation.{Operation}
use Rattle.jsonptr_patch.specs.declared.operation.Operation.TheVariants.{Remove}
use Rattle.jsonptr_text_step.specs.Bytes.{DeletesBytes}
use Rattle.jsonptr_text_step.specs.EditInText.{DeletesInText}
use Rattle.jsonptr_text_value.specs.Fitting.{HasFittingText}
use Rattle.jsonptr_text_step.specs.PatchInText.{MovesBytes, CopiesBytes}
use Rattle.jsonptr_text_step.specs.PrivateOperating.{AddsValueInText, PutsInText, OperatesInText}
use Rattle.jsonptr_text_step.specs.RawPatching.{AddsGiven, ReplacesGiven, GivenBytes}
use Rattle.jsonptr_text_step.proofs.EditLemmas.{if_new}
use Rattle.jsonptr_text_step.proofs.OperatingLemmas.{removes}
use Rattle.jsonptr_text_step.proofs.operate.operate.Goals as goal

pub add_given-requires : goal.add_given-requires
add_given-requires c = subst (λ (o : Operation). HasFittingText o c.args.operation.now.raw) c.in-Add.is c.args.operation.now.fits

pub replace_given-requires : goal.replace_given-requires
replace_given-requires c = subst (λ (o : Operation). HasFittingText o c.args.operation.now.raw) c.in-Replace.is c.args.operation.now.fits

pub returns-in-Add-clause-applied : goal.returns-in-Add-clause-applied
returns-in-Add-clause-applied c =
    let r = c.add_given.result in
    let old = c.args.text.now in
    let v = nodes (view c.in-Add.value) in
    subst (λ (o : Operation). IfOk r (λ n. IfSome n (λ s. OperatesInText c.args.text.now o (string_bytes s.text)))) (sym c.in-Add.is)
    (subst (λ (ts : List Text). IfOk r (λ n. IfSome n (λ s. AddsValueInText old ts v (string_bytes s.text)))) c.as_ptr.ensures.tokens c.add_given.ensures.added)

pub returns-in-Remove-clause-applied : goal.returns-in-Remove-clause-applied
returns-in-Remove-clause-applied c =
    let r = c.cut_out.result in
    let old = c.args.text.now in
    subst (λ (o : Operation). IfOk r (λ n. IfSome n (λ s. OperatesInText c.args.text.now o (string_bytes s.text)))) (sym c.in-Remove.is)
    (if_new r
    (λ s. DeletesInText c.args.text.now c.in-Remove.path (string_bytes s.text))
    (λ s. OperatesInText c.args.text.now (Remove c.in-Remove.path) (string_bytes s.text))
    (λ s h. removes c.args.text.now (string_bytes s.text) c.in-Remove.path h)
    (subst (λ (ts : List Text). IfOk r (λ n. IfSome n (λ s. DeletesInText old ts (string_bytes s.text)))) c.as_ptr-in-Remove.ensures.tokens c.cut_out.ensures.deleted))

pub returns-in-Replace-clause-applied : goal.returns-in-Replace-clause-applied
returns-in-Replace-clause-applied c =
    let r = c.replace_given.result in
    let old = c.args.text.now in
    let v = nodes (view c.in-Replace.value) in
    subst (λ (o : Operation). IfOk r (λ n. IfSome n (λ s. OperatesInText c.args.text.now o (string_bytes s.text)))) (sym c.in-Replace.is)
    (subst (λ (ts : List Text). IfOk r (λ n. IfSome n (λ s. PutsInText old ts v (string_bytes s.text)))) c.as_ptr-in-Replace.ensures.tokens c.replace_given.ensures.put)

pub returns-in-Add-clause-bytes : goal.returns-in-Add-clause-bytes
returns-in-Add-clause-bytes c =
    let r = c.add_given.result in
    let old = c.args.text.now in
    let raw = c.args.operation.now.raw in
    let v = view c.in-Add.value in
    subst (λ (o : Operation). IfOk r (λ n. IfSome n (λ s. GivenBytes c.args.text.now o raw (string_bytes s.text)))) (sym c.in-Add.is)
    (subst (λ (ts : List Text). IfOk r (λ n. IfSome n (λ s. AddsGiven old ts v raw (string_bytes s.text)))) c.as_ptr.ensures.tokens c.add_given.ensures.bytes)

pub returns-in-Remove-clause-bytes : goal.returns-in-Remove-clause-bytes
returns-in-Remove-clause-bytes c =
    let r = c.cut_out.result in
    let old = c.args.text.now in
    let raw = c.args.operation.now.raw in
    subst (λ (o : Operation). IfOk r (λ n. IfSome n (λ s. GivenBytes c.args.text.now o raw (string_bytes s.text)))) (sym c.in-Remove.is)
    (subst (λ (ts : List Text). IfOk r (λ n. IfSome n (λ s. DeletesBytes old ts (string_bytes s.text)))) c.as_ptr-in-Remove.ensures.tokens c.cut_out.ensures.bytes)

pub returns-in-Replace-clause-bytes : goal.returns-in-Replace-clause-bytes
returns-in-Replace-clause-bytes c =
    let r = c.replace_given.result in
    let old = c.args.text.now in
    let raw = c.args.operation.now.raw in
    let v = view c.in-Replace.value in
    subst (λ (o : Operation). IfOk r (λ n. IfSome n (λ s. GivenBytes c.args.text.now o raw (string_bytes s.text)))) (sym c.in-Replace.is)
    (subst (λ (ts : List Text). IfOk r (λ n. IfSome n (λ s. ReplacesGiven old ts v raw (string_bytes s.text)))) c.as_ptr-in-Replace.ensures.tokens c.replace_given.ensures.bytes)

pub returns-in-Move-clause-bytes : goal.returns-in-Move-clause-bytes
returns-in-Move-clause-bytes c =
    let r = c.move_value.result in
    let old = c.args.text.now in
    let raw = c.args.operation.now.raw in
    let from = tokens c.as_ptr-in-Move.result in
    subst (λ (o : Operation). IfOk r (λ n. IfSome n (λ s. GivenBytes c.args.text.now o raw (string_bytes s.text)))) (sym c.in-Move.is)
    (subst (λ (ts : List Text). IfOk r (λ n. IfSome n (λ s. MovesBytes old ts c.in-Move.path (string_bytes s.text)))) c.as_ptr-in-Move.ensures.tokens
    (subst (λ (ts : List Text). IfOk r (λ n. IfSome n (λ s. MovesBytes old from ts (string_bytes s.text)))) c.as_ptr-in-Move-2.ensures.tokens c.move_value.ensures.bytes))

pub returns-in-Copy-clause-bytes : goal.returns-in-Copy-clause-bytes
returns-in-Copy-clause-bytes c =
    let r = c.copy_value.result in
    let old = c.args.text.now in
    let raw = c.args.operation.now.raw in
    let from = tokens c.as_ptr-in-Copy.result in
    subst (λ (o : Operation). IfOk r (λ n. IfSome n (λ s. GivenBytes c.args.text.now o raw (string_bytes s.text)))) (sym c.in-Copy.is)
    (subst (λ (ts : List Text). IfOk r (λ n. IfSome n (λ s. CopiesBytes old ts c.in-Copy.path (string_bytes s.text)))) c.as_ptr-in-Copy.ensures.tokens
    (subst (λ (ts : List Text). IfOk r (λ n. IfSome n (λ s. CopiesBytes old from ts (string_bytes s.text)))) c.as_ptr-in-Copy-2.ensures.tokens c.copy_value.ensures.bytes))
