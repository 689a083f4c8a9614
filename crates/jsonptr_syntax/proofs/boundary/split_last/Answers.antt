use Rattle.jsonptr_syntax.proofs.CutLast.{cut_at_last_at, boundary_after_last}
use Rattle.jsonptr_syntax.proofs.boundary.split_last.Goals as goal

pub split_at-requires-2 : goal.split_at-requires-2
split_at-requires-2 c =
    boundary_after_last c.args.text.now c.as_bytes.result.now c.split_at.result.1.now c.in_ok-at.at c.as_bytes.ensures.value c.split_at.ensures.back c.utf8.text c.in_ok-at.ensures

pub returns : goal.returns
returns c =
    cut_at_last_at c.args.text.now c.as_bytes.result.now c.split_at.result.0.now c.split_at.result.1.now c.split_at-2.result.1.now c.in_ok-at.at
    c.as_bytes.ensures.value c.split_at.ensures.front c.split_at.ensures.back c.split_at-2.ensures.back c.in_ok-at.ensures
