use Rattle.jsonptr_text_relayout.proofs.given.+gather.Given as goal

abbrev pub decreases-gather : goal.decreases-gather
decreases-gather l = l.depth
