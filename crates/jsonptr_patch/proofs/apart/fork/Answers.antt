use Rattle.std.proofs.Common.{List, ap, ◌++◌, ◌∙◌}
use Rattle.jsonptr.specs.Pointer.{tokens}
use Rattle.jsonptr.specs.Text.{Text}
use Rattle.jsonptr_patch.proofs.ApartnessLemmas.{left_ends, right_ends, same_ends}
use Rattle.jsonptr_patch.proofs.apart.fork.Goals as goal

pub returns-in_err-x : goal.returns-in_err-x
returns-in_err-x c = rw c.from_residual-in_err-x.ensures (left_ends (tokens c.args.left) (tokens c.args.right) (tokens c.intersection-common.result) (tokens c.in_ok-rest.rest) c.intersection-common.ensures c.in_ok-rest.ensures c.in_err-x.ensures)

pub returns-in_err-y : goal.returns-in_err-y
returns-in_err-y c = rw c.from_residual-in_err-y.ensures (right_ends (tokens c.args.left) (tokens c.args.right) (tokens c.intersection-common.result) (tokens c.in_ok-other.other) c.intersection-common.ensures c.in_ok-other.ensures c.in_err-y.ensures)

pub returns-then-eq : goal.returns-then-eq
returns-then-eq c = λ front f. same_ends (tokens c.args.left) (tokens c.args.right) (tokens c.intersection-common.result) (tokens c.in_ok-x.field-0-1) (tokens c.in_ok-y.field-0-1) c.in_ok-x.x c.in_ok-y.y c.intersection-common.ensures
    (c.in_ok-rest.ensures ∙ ap (λ (ts : List Text). tokens c.intersection-common.result ++ ts) c.in_ok-x.ensures)
    (c.in_ok-other.ensures ∙ ap (λ (ts : List Text). tokens c.intersection-common.result ++ ts) c.in_ok-y.ensures)
    (c.eq.ensures.decoded.0 c.if-eq.true)
