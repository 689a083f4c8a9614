use Rattle.jsonptr.specs.Pointer.{tokens}
use Rattle.jsonptr_text_edit.proofs.EditLemmas.{assign_fails}
use Rattle.jsonptr_text_edit.proofs.made.assigned.Goals as goal

pub returns-in-Err-clause-refused : goal.returns-in-Err-clause-refused
returns-in-Err-clause-refused c =
    rw c.assign_error.ensures (assign_fails c.args.text.now (tokens c.args.pointer) c.args.raw.now c.in-Err.error c.in-Err.ensures.refused)
