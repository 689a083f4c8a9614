use Rattle.std.proofs.Common.{All}
use Rattle.jsonptr_text_value.specs.Operations.{IsGivenIn}
use Rattle.jsonptr_uses.proofs.GivenTextsLemmas.{as_written}
use Rattle.jsonptr_uses.proofs.given_texts.patched_as_written.Goals as goal

pub returns-in-Ok : goal.returns-in-Ok
returns-in-Ok c =
    let rs = c.in-Some.patch.operations.items in
    let given : All (IsGivenIn c.args.given.now) rs = rw c.in-Some.is at c.in_ok-patch.ensures in
    as_written c.in-Ok.edited c.in_place.result c.args.text.now c.args.given.now rs c.in_place.ensures given c.in-Ok.ensures.edited c.in-Ok.ensures.bytes
