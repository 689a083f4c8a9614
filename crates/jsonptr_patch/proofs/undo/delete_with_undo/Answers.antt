use Rattle.std.proofs.Common.{List, ap}
use Rattle.jsonptr.specs.Text.{Text}
use Rattle.jsonptr_patch.specs.declared.operation.Operation.TheVariants.{Add}
use Rattle.jsonptr_tree.proofs.JsonLemmas.{FindsValue-Finds}
use Rattle.jsonptr_patch.proofs.AddingLemmas.{found_ascends}
use Rattle.jsonptr_patch.proofs.RestoringLemmas.{restored_at}
use Rattle.jsonptr_patch.proofs.undo.delete_with_undo.Goals as goal

pub returns-in-Some-clause-restores : goal.returns-in-Some-clause-restores
returns-in-Some-clause-restores c =
    let found = rw c.in-Some.is at c.in_ok-value.ensures.found in
    (c.in-Some.value, ap (λ (path : List Text). Add path c.in-Some.value) c.in_ok-path.ensures, FindsValue-Finds _ _ _ found)

pub returns-in-Some-clause-inverse : goal.returns-in-Some-clause-inverse
returns-in-Some-clause-inverse c =
    let found = rw c.in-Some.is at c.in_ok-value.ensures.found in
    restored_at _ _ _ _ _ c.in_ok-path.ensures found c.in_ok-value.ensures.deleted

pub returns-in-Some-clause-inverse_sorted : goal.returns-in-Some-clause-inverse_sorted
returns-in-Some-clause-inverse_sorted c =
    let found = rw c.in-Some.is at c.in_ok-value.ensures.found in
    found_ascends _ _ _ found
