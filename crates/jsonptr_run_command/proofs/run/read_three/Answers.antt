-- The pointer of a command with one more argument fails, or the value to assign.
use Rattle.std.proofs.Common.{◌∷◌, [], inl, inr, ap}
use Rattle.jsonptr.specs.Text.{Text}
use Rattle.jsonptr.specs.Pointer.{tokens}
use Rattle.jsonptr_run_command.proofs.CommandLemmas.{pointer_refused, value_refused, three_words}
use Rattle.jsonptr_run_command.proofs.run.read_three.Goals as goal

pub returns-in_err-pointer-in-assign-clause-refused : goal.returns-in_err-pointer-in-assign-clause-refused
returns-in_err-pointer-in-assign-clause-refused c =
    pointer_refused _ c.from_residual.result c.args.pointer.now c.in_err-pointer-in-assign.field-0.0 c.from_residual.ensures.1
    (inr (inr (inl (c.args.third.now, ap (λ (x : Text). x ∷ c.args.pointer.now ∷ c.args.third.now ∷ []) c.in-assign.is))))
    c.in_err-pointer-in-assign.ensures.refused

pub returns-in_err-value-in-assign-clause-refused : goal.returns-in_err-value-in-assign-clause-refused
returns-in_err-value-in-assign-clause-refused c =
    value_refused _ c.from_residual-in_err-value-in-assign.result (tokens c.in_ok-pointer-in-assign.pointer) c.args.third.now
    c.in_err-value-in-assign.field-0.0 c.from_residual-in_err-value-in-assign.ensures.1
    (three_words _ _ _ _ _ c.in-assign.is c.in_ok-pointer-in-assign.ensures.tokens) c.in_err-value-in-assign.ensures.refused

pub returns-in_err-parse-in-split-clause-refused : goal.returns-in_err-parse-in-split-clause-refused
returns-in_err-parse-in-split-clause-refused c =
    pointer_refused _ c.from_residual-in_err-parse-in-split.result c.args.pointer.now c.in_err-parse-in-split.field-0.0
    c.from_residual-in_err-parse-in-split.ensures.1
    (inr (inr (inr (inr (
      c.in_ok-position-in-split.position,
      (c.args.third.now, ap (λ (x : Text). x ∷ c.args.pointer.now ∷ c.args.third.now ∷ []) c.in-split.is, c.in_ok-position-in-split.ensures.position),
    )))))
    c.in_err-parse-in-split.ensures.refused
