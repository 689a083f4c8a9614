use Rattle.jsonptr.specs.Pointer.{tokens}
use Rattle.jsonptr_toml_edit.proofs.made.renamed.Goals as goal

pub returns-in-Err-clause-refused : goal.returns-in-Err-clause-refused
returns-in-Err-clause-refused c = c.rename_error.ensures c.args.text.now (tokens c.args.pointer) c.args.key.now c.in-Err.ensures.refused
