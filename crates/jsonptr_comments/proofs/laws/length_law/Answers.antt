use Rattle.std.proofs.Common.{false, [], ap, sym, ◌∙◌, length, add-zero}
use Rattle.jsonptr_comments.specs.Comments.{all_without}
use Rattle.jsonptr_comments.proofs.PieceLemmas.{same_length}
use Rattle.jsonptr_comments.proofs.laws.length_law.Goals as goal

pub returns : goal.returns
returns c = λ text new h.
    ap length h.2 ∙ sym (add-zero (length (all_without false h.0 false))) ∙ same_length false false text h.0 [] h.1
