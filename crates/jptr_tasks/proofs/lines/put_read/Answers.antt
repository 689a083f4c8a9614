use Rattle.jptr_tasks.proofs.lines.put_read.Goals as goal

pub returns-clause-written : goal.returns-clause-written
returns-clause-written g c = rw c.deref.ensures.value at c.put_line.ensures.written
