use Rattle.jsonptr_c.proofs.text_edits.jsonptrcore_text_patch.Goals as goal

pub returns-in-Err-clause-refused : goal.returns-in-Err-clause-refused
returns-in-Err-clause-refused c = λ failed. (c.in-Err.call_error, c.fail.ensures.reported, c.in-Err.ensures.refused)
