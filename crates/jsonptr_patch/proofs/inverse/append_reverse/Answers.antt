use Rattle.std.proofs.Common.{[], ◌∷◌, sym, subst}
use Rattle.serde_json.specs.View.{view}
use Rattle.jsonptr.specs.Json.{nodes}
use Rattle.jsonptr.specs.Pointer.{tokens}
use Rattle.jsonptr_patch.specs.Inverse.{HasNoReverse, TakesMoveBack}
use Rattle.jsonptr_patch.specs.Order.{OperationHasSortedKeys}
use Rattle.jsonptr_patch.specs.declared.operation.Operation.{Operation}
use Rattle.jsonptr_patch.specs.declared.operation.Operation.TheVariants.{Move}
use Rattle.jsonptr_patch.proofs.BackLemmas.{move_reversed, both_reversed, not_reversed}
use Rattle.jsonptr_patch.proofs.BackOrderLemmas.{appended, both_appended}
use Rattle.jsonptr_patch.proofs.InverseLemmas.{one_back, two_back}
use Rattle.jsonptr_patch.proofs.inverse.append_reverse.Goals as goal

pub returns-in_ok-append-in-Ok-clause-back : goal.returns-in_ok-append-in-Ok-clause-back
returns-in_ok-append-in-Ok-clause-back c = λ path nowhere.
    let o = Move c.in-Ok.location c.in_ok-path-in-Ok.path in (
      o ∷ [],
      move_reversed (nodes (view c.args.document.now)) (tokens c.args.from) path c.args.back c.in-Ok.location c.in_ok-path-in-Ok.path c.in-Ok.ensures.location.0 c.in-Ok.ensures.location.1 c.in_ok-path-in-Ok.ensures,
      one_back c.args.inverse.now.items c.append.new.inverse.items o c.in_ok-append-in-Ok.ensures,
    )

pub returns-in_ok-append_both-in-Ok-addition_at-clause-back : goal.returns-in_ok-append_both-in-Ok-addition_at-clause-back
returns-in_ok-append_both-in-Ok-addition_at-clause-back c = λ path nowhere.
    let o = c.in-Err.back in let again = c.in-Ok-addition_at.again in (
      o ∷ again ∷ [],
      subst (λ (p : Operation). TakesMoveBack (nodes (view c.args.document.now)) (tokens c.args.from) path p (o ∷ again ∷ [])) c.in-Err.ensures.returned.0
          (both_reversed (nodes (view c.args.document.now)) (tokens c.args.from) path o again
          (subst (λ (p : Operation). HasNoReverse (nodes (view c.args.document.now)) (tokens c.args.from) path p) (sym c.in-Err.ensures.returned.0)
          (not_reversed (nodes (view c.args.document.now)) (tokens c.args.from) path c.args.back nowhere c.in-Err.ensures.returned.1))
          c.in-Ok-addition_at.ensures.restores),
      two_back c.args.inverse.now.items c.append_both.new.inverse.items o again c.in_ok-append_both-in-Ok-addition_at.ensures,
    )

pub returns-in_ok-append-in-Ok-clause-sorted : goal.returns-in_ok-append-in-Ok-clause-sorted
returns-in_ok-append-in-Ok-clause-sorted c = λ v h.
    appended c.args.inverse.now.items c.append.new.inverse.items (Move c.in-Ok.location c.in_ok-path-in-Ok.path) c.in_ok-append-in-Ok.ensures tt

pub returns-in_ok-append_both-in-Ok-addition_at-clause-sorted : goal.returns-in_ok-append_both-in-Ok-addition_at-clause-sorted
returns-in_ok-append_both-in-Ok-addition_at-clause-sorted c = λ v h.
    both_appended c.args.inverse.now.items c.append_both.new.inverse.items c.in-Ok-addition_at.again c.in-Err.back c.in_ok-append_both-in-Ok-addition_at.ensures (c.in-Ok-addition_at.ensures.sorted h)
    (subst OperationHasSortedKeys (sym c.in-Err.ensures.returned.0) v)
