use Rattle.std.proofs.Common.{◌≡◌, ◌+◌, List, [], ◌∷◌, ◌++◌, All, drop, take, sym, ap, ◌∙◌, subst}
use Rattle.std.proofs.lemmas.List.{take_more, drop_more}
use Rattle.std.proofs.lemmas.List.Elements.{All-push}
use Rattle.jsonptr_text_value.specs.declared.raw_operation.RawOperation.{RawOperation}
use Rattle.jptr_tasks.specs.Reprinting.{KeepsGiven, LosesIn}
use Rattle.jptr_tasks.proofs.reprint.loss_of_operations.Goals as goal

pub returns-in-Some : goal.returns-in-Some
returns-in-Some c =
    let ops = c.args.operations.now in
    let i = c.operations.index in
    let o = c.index-operations-index.result in
    let lost : LosesIn o c.in-Some.lost = rw c.in-Some.is at c.in_ok-lost.ensures in
    let there : drop i ops ≡ o ∷ drop (i + 1) ops = drop_more ops i o c.operations-test.true ∙ ap (λ (x : RawOperation). x ∷ drop (i + 1) ops) (sym c.index-operations-index.is) in
    (c.operations.invariant, (o, there, lost))

pub operations-preserved : goal.operations-preserved
operations-preserved c =
    let ops = c.args.operations.now in
    let i = c.operations.index in
    let o = c.index-operations-index.result in
    let kept : KeepsGiven o = rw c.in_default.is at c.in_ok-lost.ensures in
    let more : take i ops ++ o ∷ [] ≡ take (i + 1) ops = ap (λ (x : RawOperation). take i ops ++ x ∷ []) c.index-operations-index.is ∙ sym (take_more ops i o c.operations-test.true) in
    subst (λ (l : List RawOperation). All KeepsGiven l) more (All-push KeepsGiven (take i ops) o c.operations.invariant kept)
