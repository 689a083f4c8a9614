use Rattle.std.proofs.Common.{◌≡◌, ◌+◌, List, [], ◌∷◌, ◌++◌, take, string_bytes, refl, sym, ap, ◌∙◌, subst}
use Rattle.std.proofs.lemmas.List.{take_more}
use Rattle.jsonptr_text_value.specs.declared.raw_operation.RawOperation.{RawOperation}
use Rattle.jsonptr_comments_step.specs.PrivateStepping.{IsOperated, IsPatched}
use Rattle.jsonptr_comments_step.proofs.PatchLemmas.{patched_more}
use Rattle.jsonptr_comments_step.proofs.apply.operate_rest.Goals as goal

pub operations-init : goal.operations-init
operations-init c = (c.requires, λ d reads. record { without = c.requires; means = (d, d, reads, reads, refl); bytes = refl })

pub operations-preserved : goal.operations-preserved
operations-preserved c =
    let ops = c.args.operations.now in
    let i = c.operations.operation-index in
    let o = c.operation-item.result in
    let text = string_bytes c.args.texts.text in
    let bare = string_bytes c.args.texts.bare in
    let mid = string_bytes c.operations.current.text in
    let rest = string_bytes c.operations.current.bare in
    let new = string_bytes c.in-Some.next.text in
    let json = string_bytes c.in-Some.next.bare in
    let made : IsOperated mid rest o.operation o.raw new json = rw c.in-Some.is at c.in_ok-next.ensures in
    let more : take i ops ++ o ∷ [] ≡ take (i + 1) ops = ap (λ (x : RawOperation). take i ops ++ x ∷ []) c.operation-item.is ∙ sym (take_more ops i o c.operations-test.true) in
    (made.without, λ d reads. subst (λ (rs : List RawOperation). IsPatched text bare rs new json) more (patched_more text bare mid rest new json (take i ops) o (c.operations.invariant.1 d reads) made))
