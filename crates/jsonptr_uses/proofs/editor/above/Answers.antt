use Rattle.std.proofs.Common.{Some}
use Rattle.jsonptr_uses.proofs.editor.above.Goals as goal

pub returns-in-Some : goal.returns-in-Some
returns-in-Some c = (Some c.in-Some.ensures.0, c.in-Some.ensures.1)
