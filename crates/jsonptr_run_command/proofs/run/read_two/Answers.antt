-- The pointer of a command without other arguments fails.
use Rattle.std.proofs.Common.{◌∷◌, [], inl, inr, ap}
use Rattle.jsonptr.specs.Text.{Text}
use Rattle.jsonptr_run_command.proofs.CommandLemmas.{pointer_refused}
use Rattle.jsonptr_run_command.proofs.run.read_two.Goals as goal

pub returns-in_err-parse-in-resolve-clause-refused : goal.returns-in_err-parse-in-resolve-clause-refused
returns-in_err-parse-in-resolve-clause-refused c =
    pointer_refused _ c.from_residual.result c.args.pointer.now c.in_err-parse-in-resolve.field-0.0 c.from_residual.ensures.1
    (inl (ap (λ (x : Text). x ∷ c.args.pointer.now ∷ []) c.in-resolve.is)) c.in_err-parse-in-resolve.ensures.refused

pub returns-in_err-parse-in-tokens-clause-refused : goal.returns-in_err-parse-in-tokens-clause-refused
returns-in_err-parse-in-tokens-clause-refused c =
    pointer_refused _ c.from_residual-in_err-parse-in-tokens.result c.args.pointer.now c.in_err-parse-in-tokens.field-0.0 c.from_residual-in_err-parse-in-tokens.ensures.1
    (inr (inl (ap (λ (x : Text). x ∷ c.args.pointer.now ∷ []) c.in-tokens.is))) c.in_err-parse-in-tokens.ensures.refused

pub returns-in_err-parse-in-delete-clause-refused : goal.returns-in_err-parse-in-delete-clause-refused
returns-in_err-parse-in-delete-clause-refused c =
    pointer_refused _ c.from_residual-in_err-parse-in-delete.result c.args.pointer.now c.in_err-parse-in-delete.field-0.0 c.from_residual-in_err-parse-in-delete.ensures.1
    (inr (inr (inr (inl (ap (λ (x : Text). x ∷ c.args.pointer.now ∷ []) c.in-delete.is))))) c.in_err-parse-in-delete.ensures.refused
