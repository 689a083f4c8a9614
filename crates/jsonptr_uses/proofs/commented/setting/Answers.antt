use Rattle.std.proofs.Common.{sym, subst}
use Rattle.jsonptr.specs.Text.{Text}
use Rattle.jsonptr_comments.specs.Comments.{IsWithoutComments}
use Rattle.jsonptr_uses.proofs.commented.setting.Goals as goal

pub returns-in-Ok-clause-refused : goal.returns-in-Ok-clause-refused
returns-in-Ok-clause-refused c =
    let w = subst (λ (t : Text). IsWithoutComments c.args.text.now t) (sym c.as_str.ensures.value) c.in-Ok.ensures.without in
    (c.as_str.result.now, w, c.in-Err.ensures.refused)
