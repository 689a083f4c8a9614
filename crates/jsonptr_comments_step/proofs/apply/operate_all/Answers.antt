use Rattle.std.proofs.Common.{List, IfOk, IfSome, string_bytes, sym, subst}
use Rattle.jsonptr_text_value.specs.declared.raw_operation.RawOperation.{RawOperation}
use Rattle.jsonptr_text_step.proofs.EditLemmas.{if_new}
use Rattle.jsonptr_comments_step.specs.PrivateStepping.{IsOperated, IsPatched}
use Rattle.jsonptr_comments_step.proofs.PatchLemmas.{patched_first}
use Rattle.jsonptr_comments_step.proofs.apply.operate_all.Goals as goal

pub returns : goal.returns
returns c =
    let text = string_bytes c.args.texts.text in
    let bare = string_bytes c.args.texts.bare in
    let o = c.in-Some.first.now in
    let mid = string_bytes c.in-Some-2.next.text in
    let rest = string_bytes c.in-Some-2.next.bare in
    let first : IsOperated text bare o.operation o.raw mid rest = rw c.in-Some-2.is at c.in_ok-next.ensures in
    subst (λ (all : List RawOperation). IfOk c.operate_rest.result (λ n. IfSome n (λ s. IsPatched text bare all (string_bytes s.text) (string_bytes s.bare)))) (sym c.in-Some.ensures.cases.0)
    (if_new c.operate_rest.result _ _
    (λ s h. patched_first text bare mid rest (string_bytes s.text) (string_bytes s.bare) o c.in-Some.rest.now first h)
    (c.operate_rest.ensures first.means.1 first.means.3))
