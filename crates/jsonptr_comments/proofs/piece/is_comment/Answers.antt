use Rattle.std.proofs.Common.{sym}
use Rattle.jsonptr_comments.proofs.PartLemmas.{not_slash, is_long}
use Rattle.jsonptr_comments.proofs.piece.is_comment.Goals as goal

pub returns-then-text-from-ne47 : goal.returns-then-text-from-ne47
returns-then-text-from-ne47 c = λ p e w. sym (not_slash c.args.text.now c.args.from c.args.to p c.requires.within c.if-text-from-ne47.true e)

pub returns : goal.returns
returns c = λ p e w. is_long c.args.text.now c.args.from c.args.to p c.requires.within c.requires.order c.if-text-from-ne47.false e w
