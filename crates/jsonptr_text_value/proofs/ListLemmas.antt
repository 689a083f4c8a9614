-- Lists of operations with the texts of their values.
use Rattle.std.proofs.Common.{◌≡◌, List, [], ◌∷◌, ◌++◌, refl, ap}
use Rattle.jsonptr_patch.specs.declared.operation.Operation.{Operation}
use Rattle.jsonptr_text_value.specs.Operations.{operations_in}
use Rattle.jsonptr_text_value.specs.declared.raw_operation.RawOperation.{RawOperation}

pub operations_push : (rs : List RawOperation) (r : RawOperation) → operations_in (rs ++ r ∷ []) ≡ operations_in rs ++ r.operation ∷ []
operations_push [] r = refl
operations_push (q ∷ rs) r = ap (λ (os : List Operation). q.operation ∷ os) (operations_push rs r)
