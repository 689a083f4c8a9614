use Rattle.std.proofs.Common.{◌≡◌, List, [], ◌∷◌, ◌++◌, Option, IfSome, sym, ap, ◌∙◌, subst, append_assoc}
use Rattle.std.specs.Vec.Iter.{into_iter_items}
use Rattle.jsonptr_patch.specs.declared.operation.Operation.{Operation}
use Rattle.jsonptr_text_value.specs.Operations.{operations_in}
use Rattle.jsonptr_text_value.specs.declared.raw_operation.RawOperation.{RawOperation}
use Rattle.jsonptr_text_value.proofs.ListLemmas.{operations_push}
use Rattle.jptr_tasks.proofs.merge.with_texts.Goals as goal

pub loop-operation-preserved : goal.loop-operation-preserved
loop-operation-preserved c =
    let steps = c.in-Some.ensures.steps in
    let old = c.loop-operation.made.items in
    let o = c.in-Some.operation in
    let r = c.in-Some-2.operation in
    let rest = into_iter_items c.next.new.self in
    let is : r.operation ≡ o = subst (λ (x : Option RawOperation). IfSome x (λ y. y.operation ≡ o)) c.in-Some-2.is c.in_ok-operation.ensures in
    let new : c.append.new.operations.items ≡ old ++ r ∷ [] = c.in_ok-append.ensures in
    ap (λ (l : List RawOperation). operations_in l ++ rest) new ∙ ap (λ (l : List Operation). l ++ rest) (operations_push old r) ∙ append_assoc (operations_in old) (r.operation ∷ []) rest ∙ ap (λ (x : Operation). operations_in old ++ x ∷ rest) is ∙ ap (λ (l : List Operation). operations_in old ++ l) (sym steps.0) ∙ c.loop-operation.invariant
