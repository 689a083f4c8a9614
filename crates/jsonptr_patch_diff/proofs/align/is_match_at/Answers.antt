use Rattle.jsonptr_patch_diff.proofs.ElementLemmas.{read_same}
use Rattle.jsonptr_patch_diff.proofs.align.is_match_at.Goals as goal

pub returns-clause-same : goal.returns-clause-same
returns-clause-same c = λ x y inside within same. c.is_match.ensures (read_same c.args.old.now c.args.new.now c.args.from c.args.to c.index-old-from.result c.index-new-to.result x y c.index-old-from.is c.index-new-to.is inside within same)
