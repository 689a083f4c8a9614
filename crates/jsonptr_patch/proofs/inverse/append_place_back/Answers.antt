use Rattle.std.proofs.Common.{[], ◌∷◌, List, ap, ap₂}
use Rattle.jsonptr.specs.Text.{Text}
use Rattle.jsonptr_patch.specs.declared.operation.Operation.{Operation}
use Rattle.jsonptr_patch.specs.declared.operation.Operation.TheVariants as variant
use Rattle.jsonptr_patch.proofs.InverseLemmas.{one_back}
use Rattle.jsonptr_patch.proofs.OperatingLemmas.{ok_all}
use Rattle.jsonptr_patch.proofs.BackOrderLemmas.{appended}
use Rattle.jsonptr_patch.proofs.inverse.append_place_back.Goals as goal

pub returns-in_ok-path-in-Add-clause-back : goal.returns-in_ok-path-in-Add-clause-back
returns-in_ok-path-in-Add-clause-back c = rw c.in-Add.is (ok_all c.append.result _ _
    (λ e n tokens p. (variant.Remove c.in_ok-path-in-Add.path ∷ [], ap (λ (ts : List Text). variant.Remove ts ∷ []) c.in_ok-path-in-Add.ensures.cases, one_back c.args.inverse.now.items c.append.new.inverse.items (variant.Remove c.in_ok-path-in-Add.path) e))
    c.append.ensures)

pub returns-in_ok-path-in-Copy-clause-back : goal.returns-in_ok-path-in-Copy-clause-back
returns-in_ok-path-in-Copy-clause-back c = rw c.in-Copy.is (ok_all c.append-in-Copy.result _ _
    (λ e n tokens p. (variant.Remove c.in_ok-path-in-Copy.path ∷ [], ap (λ (ts : List Text). variant.Remove ts ∷ []) c.in_ok-path-in-Copy.ensures.cases, one_back c.args.inverse.now.items c.append-in-Copy.new.inverse.items (variant.Remove c.in_ok-path-in-Copy.path) e))
    c.append-in-Copy.ensures)

pub returns-in_ok-back-in-Move-clause-back : goal.returns-in_ok-back-in-Move-clause-back
returns-in_ok-back-in-Move-clause-back c =
    let o : Operation = variant.Move c.in_ok-location-in-Move.location c.in_ok-back-in-Move.back in
    rw c.in-Move.is (ok_all c.append-in-Move.result _ _
    (λ e n tokens p. (o ∷ [], ap₂ (λ (ts us : List Text). variant.Move ts us ∷ []) c.in_ok-location-in-Move.ensures.cases c.in_ok-back-in-Move.ensures.cases, one_back c.args.inverse.now.items c.append-in-Move.new.inverse.items o e))
    c.append-in-Move.ensures)

pub returns-in_ok-path-in-Add-clause-sorted : goal.returns-in_ok-path-in-Add-clause-sorted
returns-in_ok-path-in-Add-clause-sorted c = ok_all c.append.result _ _
    (λ e. appended c.args.inverse.now.items c.append.new.inverse.items (variant.Remove c.in_ok-path-in-Add.path) e tt)
    c.append.ensures

pub returns-in_ok-path-in-Copy-clause-sorted : goal.returns-in_ok-path-in-Copy-clause-sorted
returns-in_ok-path-in-Copy-clause-sorted c = ok_all c.append-in-Copy.result _ _
    (λ e. appended c.args.inverse.now.items c.append-in-Copy.new.inverse.items (variant.Remove c.in_ok-path-in-Copy.path) e tt)
    c.append-in-Copy.ensures

pub returns-in_ok-back-in-Move-clause-sorted : goal.returns-in_ok-back-in-Move-clause-sorted
returns-in_ok-back-in-Move-clause-sorted c = ok_all c.append-in-Move.result _ _
    (λ e. appended c.args.inverse.now.items c.append-in-Move.new.inverse.items (variant.Move c.in_ok-location-in-Move.location c.in_ok-back-in-Move.back) e tt)
    c.append-in-Move.ensures
