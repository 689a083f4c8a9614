use Rattle.jsonptr.specs.Pointer.{tokens}
use Rattle.jsonptr_toml_edit.proofs.made.deleted.Goals as goal

pub returns-in-Err-clause-refused : goal.returns-in-Err-clause-refused
returns-in-Err-clause-refused c = c.delete_error.ensures c.args.text.now (tokens c.args.pointer) c.in-Err.ensures.refused
