use Rattle.jsonptr_merge.proofs.SideLemmas.{one_there, none_there}
use Rattle.jsonptr_merge.proofs.sides.are_same_sides.Goals as goal

pub returns-in-None-right : goal.returns-in-None-right
returns-in-None-right c = one_there c.args.left c.args.right c.in-Some.value c.in-Some.is c.in-None-right.is

pub returns-in-None : goal.returns-in-None
returns-in-None c = none_there c.args.left c.args.right c.is_none.result c.in-None.is c.is_none.ensures
