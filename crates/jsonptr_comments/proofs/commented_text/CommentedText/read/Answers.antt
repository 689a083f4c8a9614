use Rattle.jsonptr_comments.proofs.BareLemmas.{bare_of}
use Rattle.jsonptr_comments.proofs.commented_text.CommentedText.read.Goals as goal

pub invariant_of-result : goal.invariant_of-result
invariant_of-result c = record { is_bare = bare_of _ _ c.in_ok-bare.ensures.without }
