use Rattle.serde_json.specs.View.{view}
use Rattle.jsonptr.specs.Pointer.{tokens}
use Rattle.jptr_tasks.proofs.OperationLemmas.{moves_if_one, moves_none, never}
use Rattle.jptr_tasks.proofs.operation.moves_only_child.Goals as goal

pub returns-in-Some-3 : goal.returns-in-Some-3
returns-in-Some-3 c =
    let found = rw c.in-Some-2.is at c.in_ok-_found.ensures in
    let there = rw c.in-Some-3.is at c.in_ok-value.ensures in
    moves_if_one c.args.text.now (tokens c.args.from) (tokens c.args.path) (tokens c.in-Some.parent) c.in-Some.last (view c.in-Some-3.value) c.holds_one.result c.in-Some.ensures (_, found) there c.holds_one.ensures

pub returns-in-None : goal.returns-in-None
returns-in-None c =
    let none = rw c.in-None.is at c.in_ok-value.ensures in
    never _ (moves_none c.args.text.now (tokens c.args.from) (tokens c.args.path) (tokens c.in-Some.parent) c.in-Some.last c.in-Some.ensures none)
