use Rattle.std.proofs.Common.{IfOk, MatchOption, subst}
use Rattle.std.proofs.lemmas.Result.{IfOk-weaker}
use Rattle.jsonptr.specs.Text.{Text}
use Rattle.jsonptr_text_digits.specs.Digits.{KeepsDigits}
use Rattle.jsonptr_text_digits.specs.Lost.{Loses}
use Rattle.jptr_tasks.proofs.ReprintLemmas.{given_or_lost}
use Rattle.jptr_tasks.proofs.reprint.loss_of_operation.Goals as goal

pub returns-in-Some : goal.returns-in-Some
returns-in-Some c =
    let raw = c.in-Some.raw in
    let found = subst (λ (t : Text). IfOk c.find_lost.result (λ o. MatchOption o (KeepsDigits t) (Loses t))) c.as_str.ensures.value c.find_lost.ensures in
    IfOk-weaker c.find_lost.result _ _ (λ o h. given_or_lost c.args.operation.now raw c.in-Some.is o h) found
