use Rattle.std.proofs.Common.{List, [], ◌∷◌, refl, subst}
use Rattle.serde_json.specs.View.{view}
use Rattle.jsonptr.specs.Json.{nodes}
use Rattle.jsonptr.specs.Text.{Text}
use Rattle.jsonptr_patch_journal.specs.Location.{path_of}
use Rattle.jsonptr_walk.proofs.FollowLemmas.{refused_on}
use Rattle.jsonptr_patch.specs.Inverse.{TakesAddBack}
use Rattle.jsonptr_patch.proofs.BackLemmas.{copy_add_refused, moved_back}
use Rattle.jsonptr_patch.proofs.InverseLemmas.{one_back}
use Rattle.jsonptr_patch.proofs.OperatingLemmas.{way_refused}
use Rattle.jsonptr_patch.proofs.BackOrderLemmas.{appended}
use Rattle.jsonptr_patch.specs.declared.operation.Operation.TheVariants as variant
use Rattle.jsonptr_patch.proofs.inverse.back_of.Goals as goal

pub returns-in_ok-append-in-Add-clause-back : goal.returns-in_ok-append-in-Add-clause-back
returns-in_ok-append-in-Add-clause-back c =
    let o = c.in_ok-back-in-Add.back in (
      o ∷ [],
      rw c.in-Add.is (o, refl, subst (λ (ts : List Text). TakesAddBack (nodes (view c.args.document.now)) ts o) c.as_ptr.ensures.tokens c.in_ok-back-in-Add.ensures.back),
      one_back c.args.inverse.now.items c.append.new.inverse.items o c.in_ok-append-in-Add.ensures,
    )

pub returns-in_ok-append-in-Copy-clause-back : goal.returns-in_ok-append-in-Copy-clause-back
returns-in_ok-append-in-Copy-clause-back c =
    let o = c.in_ok-back-in-Copy.back in (
      o ∷ [],
      rw c.in-Copy.is (o, refl, subst (λ (ts : List Text). TakesAddBack (nodes (view c.args.document.now)) ts o) c.as_ptr-in-Copy-2.ensures.tokens c.in_ok-back-in-Copy.ensures.back),
      one_back c.args.inverse.now.items c.append-in-Copy.new.inverse.items o c.in_ok-append-in-Copy.ensures,
    )

pub returns-in_err-back-in-Copy-clause-refused : goal.returns-in_err-back-in-Copy-clause-refused
returns-in_err-back-in-Copy-clause-refused c = rw c.in-Copy.is (refused_on (Unit {0}) _ c.in_err-back-in-Copy.field-0.0 _ _
    (λ e. copy_add_refused (nodes (view c.args.document.now)) c.args.turn.number _ _ _ _ (path_of c.in_ok-target-in-Copy.field-0) e c.as_ptr-in-Copy.ensures.tokens c.as_ptr-in-Copy-2.ensures.tokens c.in_ok-target-in-Copy.ensures.found)
    c.in_err-back-in-Copy.ensures.refused c.from_residual-in_err-back-in-Copy.ensures.1)

pub returns-in-Move-clause-back : goal.returns-in-Move-clause-back
returns-in-Move-clause-back c = rw c.in-Move.is (moved_back (nodes (view c.args.document.now)) _ _ _ _ c.args.inverse.now.items c.back_of_move.new.inverse.items c.back_of_move.result c.as_ptr-in-Move.ensures.tokens c.as_ptr-in-Move-2.ensures.tokens c.back_of_move.ensures.back)

pub returns-in-Move-clause-refused : goal.returns-in-Move-clause-refused
returns-in-Move-clause-refused c = rw c.in-Move.is (way_refused (nodes (view c.args.document.now)) c.args.turn.number _ _ _ _ c.back_of_move.result c.as_ptr-in-Move.ensures.tokens c.as_ptr-in-Move-2.ensures.tokens c.back_of_move.ensures.refused)

pub returns-in_ok-append-in-Add-clause-inverse_sorted : goal.returns-in_ok-append-in-Add-clause-inverse_sorted
returns-in_ok-append-in-Add-clause-inverse_sorted c = λ h.
    appended c.args.inverse.now.items c.append.new.inverse.items c.in_ok-back-in-Add.back c.in_ok-append-in-Add.ensures (c.in_ok-back-in-Add.ensures.sorted h)

pub returns-in_ok-append-in-Copy-clause-inverse_sorted : goal.returns-in_ok-append-in-Copy-clause-inverse_sorted
returns-in_ok-append-in-Copy-clause-inverse_sorted c = λ h.
    appended c.args.inverse.now.items c.append-in-Copy.new.inverse.items c.in_ok-back-in-Copy.back c.in_ok-append-in-Copy.ensures (c.in_ok-back-in-Copy.ensures.sorted h)

pub returns-in_ok-append-in-Remove-clause-inverse_sorted : goal.returns-in_ok-append-in-Remove-clause-inverse_sorted
returns-in_ok-append-in-Remove-clause-inverse_sorted c = λ h.
    appended c.args.inverse.now.items c.append-in-Remove.new.inverse.items (variant.Add c.in_ok-path-in-Remove.path c.in_ok-value-in-Remove.value) c.in_ok-append-in-Remove.ensures (c.in_ok-value-in-Remove.ensures.sorted h)

pub returns-in_ok-append-in-Replace-clause-inverse_sorted : goal.returns-in_ok-append-in-Replace-clause-inverse_sorted
returns-in_ok-append-in-Replace-clause-inverse_sorted c = λ h.
    appended c.args.inverse.now.items c.append-in-Replace.new.inverse.items (variant.Replace c.in_ok-path-in-Replace.path c.in_ok-value-in-Replace.value) c.in_ok-append-in-Replace.ensures (c.in_ok-value-in-Replace.ensures.sorted h)
