use Rattle.std.proofs.Common.{inl, inr}
use Rattle.std.proofs.lemmas.Result.{err_from_is_err_and}
use Rattle.jptr_tasks.proofs.RunLemmas.{stops_turn}
use Rattle.jptr_tasks.proofs.lines.take_turn.Goals as goal

pub returns-in_ok-is_fine-in-Break-clause-written : goal.returns-in_ok-is_fine-in-Break-clause-written
returns-in_ok-is_fine-in-Break-clause-written g c =
    (c.next_line.new.line.items, rw c.in-Break.is at c.in_ok-next_line.ensures.line, c.in_ok-is_fine-in-Break.ensures.written)

pub returns-in_ok-is_fine-in-Input-clause-written : goal.returns-in_ok-is_fine-in-Input-clause-written
returns-in_ok-is_fine-in-Input-clause-written g c =
    (c.next_line.new.line.items, rw c.in-Input.is at c.in_ok-next_line.ensures.line, c.in_ok-is_fine-in-Input.ensures.written)

pub returns-in_err-is_fine-in-Break-clause-refused : goal.returns-in_err-is_fine-in-Break-clause-refused
returns-in_err-is_fine-in-Break-clause-refused g c =
    let p = err_from_is_err_and c.from_residual-in_err-is_fine-in-Break.result c.from_residual-in_err-is_fine-in-Break.ensures.1 in
    let next = rw c.in-Break.is at c.in_ok-next_line.ensures.line in
    let stops = c.in_err-is_fine-in-Break.ensures.refused in
    rw (p.1, p.2) (stops_turn c.args.run.now c.args.state.now.number _ _ _ _ _ _ c.next_line.new.line.items _ (inl next) stops)

pub returns-in_err-is_fine-in-Input-clause-refused : goal.returns-in_err-is_fine-in-Input-clause-refused
returns-in_err-is_fine-in-Input-clause-refused g c =
    let p = err_from_is_err_and c.from_residual-in_err-is_fine-in-Input.result c.from_residual-in_err-is_fine-in-Input.ensures.1 in
    let next = rw c.in-Input.is at c.in_ok-next_line.ensures.line in
    let stops = c.in_err-is_fine-in-Input.ensures.refused in
    rw (p.1, p.2) (stops_turn c.args.run.now c.args.state.now.number _ _ _ _ _ _ c.next_line.new.line.items _ (inr next) stops)
