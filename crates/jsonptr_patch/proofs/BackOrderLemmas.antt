-- The order of keys in the values of the operations that take others back.
use Rattle.std.proofs.Common.{◌≡◌, List, [], ◌∷◌, ◌++◌, reverse, All, sym, subst}
use Rattle.std.proofs.lemmas.List.{reverse-append}
use Rattle.std.proofs.lemmas.List.Elements.{All-head, All-push, All-tail}
use Rattle.jsonptr_patch.specs.Order.{OperationHasSortedKeys}
use Rattle.jsonptr_patch.specs.declared.operation.Operation.{Operation}

pub appended : (os ps : List Operation) (o : Operation) → ps ≡ os ++ o ∷ [] → OperationHasSortedKeys o → All OperationHasSortedKeys os → All OperationHasSortedKeys ps
appended os ps o is s all = subst (All OperationHasSortedKeys) (sym is) (All-push OperationHasSortedKeys os o all s)

pub both_appended : (os ps : List Operation) (o p : Operation) → ps ≡ (os ++ o ∷ []) ++ p ∷ [] → OperationHasSortedKeys o → OperationHasSortedKeys p → All OperationHasSortedKeys os → All OperationHasSortedKeys ps
both_appended os ps o p is s t all = appended (os ++ o ∷ []) ps p is t (All-push OperationHasSortedKeys os o all s)

reversed : (os : List Operation) → All OperationHasSortedKeys os → All OperationHasSortedKeys (reverse os)
reversed [] all = all
reversed (o ∷ os) all =
    let others : All OperationHasSortedKeys (reverse os) = reversed os (All-tail OperationHasSortedKeys o os all) in
    let first : OperationHasSortedKeys o = All-head OperationHasSortedKeys o os all in
    subst (All OperationHasSortedKeys) (sym (reverse-append (o ∷ []) os)) (All-push OperationHasSortedKeys (reverse os) o others first)

pub turned : (os back : List Operation) → back ≡ reverse os → All OperationHasSortedKeys os → All OperationHasSortedKeys back
turned os back is all = subst (All OperationHasSortedKeys) (sym is) (reversed os all)
