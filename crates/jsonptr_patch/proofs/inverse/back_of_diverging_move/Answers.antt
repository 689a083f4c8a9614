use Rattle.std.proofs.Common.{[], ◌∷◌}
use Rattle.serde_json.specs.View.{view}
use Rattle.jsonptr.specs.Json.{nodes}
use Rattle.jsonptr.specs.Pointer.{tokens}
use Rattle.jsonptr_patch.specs.declared.operation.Operation.TheVariants.{Add, Remove, Replace, Move}
use Rattle.jsonptr_patch.proofs.BackLemmas.{way_removed, way_replaced}
use Rattle.jsonptr_patch.proofs.InverseLemmas.{one_back, two_back}
use Rattle.jsonptr_patch.proofs.BackOrderLemmas.{appended, both_appended}
use Rattle.jsonptr_patch.proofs.inverse.back_of_diverging_move.Goals as goal

pub returns-in_ok-append-in-Remove-clause-back : goal.returns-in_ok-append-in-Remove-clause-back
returns-in_ok-append-in-Remove-clause-back c =
    let b = rw c.in-Remove.is at c.in_ok-_other.ensures.back in (
      Remove c.in-Remove.location,
      Move c.in-Remove.location c.in_ok-back.back ∷ [],
      b,
      way_removed (nodes (view c.args.document.now)) (tokens c.args.from) (tokens c.args.path) c.in-Remove.location c.in_ok-back.back c.in_ok-back.ensures c.requires b,
      one_back c.args.inverse.now.items c.append.new.inverse.items (Move c.in-Remove.location c.in_ok-back.back) c.in_ok-append-in-Remove.ensures,
    )

pub returns-in_ok-append-in-Replace-2-clause-back : goal.returns-in_ok-append-in-Replace-2-clause-back
returns-in_ok-append-in-Replace-2-clause-back c =
    let b = rw c.in-Replace.is at c.in_ok-_other.ensures.back in
    let first = Add c.in_ok-again.again c.in-Replace.value in (
      Replace c.in-Replace.location c.in-Replace.value,
      Move c.in-Replace.location c.in_ok-back.back ∷ first ∷ [],
      b,
      way_replaced (nodes (view c.args.document.now)) (tokens c.args.from) (tokens c.args.path) c.in-Replace.location c.in_ok-again.again c.in_ok-back.back c.in-Replace.value c.in_ok-back.ensures c.in_ok-again.ensures c.requires b,
      two_back c.args.inverse.now.items c.append-in-Replace-2.new.inverse.items (Move c.in-Replace.location c.in_ok-back.back) first
          (search (c.in_ok-append-in-Replace-2.ensures, c.in_ok-append-in-Replace.ensures)),
    )

pub returns-in_ok-append-in-Remove-clause-inverse_sorted : goal.returns-in_ok-append-in-Remove-clause-inverse_sorted
returns-in_ok-append-in-Remove-clause-inverse_sorted c = λ h.
    appended c.args.inverse.now.items c.append.new.inverse.items (Move c.in-Remove.location c.in_ok-back.back) c.in_ok-append-in-Remove.ensures tt

pub returns-in_ok-append-in-Replace-2-clause-inverse_sorted : goal.returns-in_ok-append-in-Replace-2-clause-inverse_sorted
returns-in_ok-append-in-Replace-2-clause-inverse_sorted c = λ h.
    both_appended c.args.inverse.now.items c.append-in-Replace-2.new.inverse.items (Add c.in_ok-again.again c.in-Replace.value) (Move c.in-Replace.location c.in_ok-back.back)
    (search (c.in_ok-append-in-Replace-2.ensures, c.in_ok-append-in-Replace.ensures))
    (rw c.in-Replace.is at c.in_ok-_other.ensures.sorted h)
    tt
