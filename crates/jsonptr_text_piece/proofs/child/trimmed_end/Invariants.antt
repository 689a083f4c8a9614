use Rattle.jsonptr_text_piece.proofs.child.trimmed_end.Given as goal

abbrev pub decreases-spaces : goal.decreases-spaces
decreases-spaces l = l.end
