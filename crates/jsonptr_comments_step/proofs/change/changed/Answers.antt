use Rattle.std.proofs.Common.{subst}
use Rattle.jsonptr.specs.Text.{Text}
use Rattle.jsonptr.specs.Pointer.{tokens}
use Rattle.jsonptr_comments_step.specs.Edits.{IsOneEdit}
use Rattle.jsonptr_comments_step.proofs.CheckLemmas.{one_edit}
use Rattle.jsonptr_comments_step.proofs.change.changed.Goals as goal

pub returns-then-branch : goal.returns-then-branch
returns-then-branch c =
    subst (λ (t : Text). IsOneEdit c.args.texts.text.now (tokens c.args.pointer) t) c.as_str.ensures.value
    (one_edit _ _ _ _ _ _ _ _ c.requires (c.is_framed.ensures c.if-not-is_framed.false) (c.in_ok-is_made.ensures c.if-branch.true))
