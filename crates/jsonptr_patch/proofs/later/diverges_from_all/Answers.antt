use Rattle.std.proofs.Common.{List, subst, arith}
use Rattle.serde_json.specs.View.{view}
use Rattle.jsonptr.specs.Json.{nodes}
use Rattle.jsonptr.specs.Pointer.{tokens}
use Rattle.jsonptr.specs.Text.{Text}
use Rattle.jsonptr_patch.specs.Apart.{Diverges}
use Rattle.jsonptr_patch.proofs.LaterLemmas.{one_diverges, more_diverges, fork_diverges}
use Rattle.jsonptr_patch.proofs.later.diverges_from_all.Goals as goal

pub loop-one-preserved : goal.loop-one-preserved
loop-one-preserved c =
    let object = c.is_object_too.ensures c.if-not-is_object_too.false in
    record {
      known = object;
      apart = more_diverges (nodes (view c.args.document.now)) (tokens c.args.pointer) c.args.later.now c.loop-one.one-index c.one-item.result c.loop-one-test.true c.one-item.is
          (subst (λ (ys : List Text). Diverges (nodes (view c.args.document.now)) (tokens c.args.pointer) ys) c.as_ptr.ensures.tokens (fork_diverges _ _ _ _ c.in-Some-fork_at.ensures object))
          c.loop-one.invariant.apart;
    }

pub returns-clause-apart : goal.returns-clause-apart
returns-clause-apart c = λ _. one_diverges (nodes (view c.args.document.now)) (tokens c.args.pointer) c.args.later.now (λ k x low. c.loop-one.invariant.apart k x (omega (arith, low, c.loop-one-test.false)))
