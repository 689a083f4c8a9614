use Rattle.std.proofs.Common.{List, IfOk, IfSome, string_bytes, sym, subst}
use Rattle.jsonptr.specs.Text.{Text}
use Rattle.jsonptr_text_step.specs.Giving.{AssignsGiven}
use Rattle.jsonptr_text_step.proofs.assign.assign_at.Goals as goal

pub returns-clause-bytes : goal.returns-clause-bytes
returns-clause-bytes c =
    subst (λ (ts : List Text). IfOk c.assign_from.result (λ o. IfSome o (λ s. AssignsGiven c.args.text.now ts c.args.raw.now (string_bytes s.text))))
    (sym c.in-Some-split_at.ensures.0)
    c.assign_from.ensures.bytes
