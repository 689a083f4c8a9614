use Rattle.toml.specs.View.{view}
use Rattle.jsonptr.specs.Pointer.{tokens}
use Rattle.jsonptr_toml_edit.proofs.made.value_assigned.Goals as goal

pub returns-in-Err-clause-refused : goal.returns-in-Err-clause-refused
returns-in-Err-clause-refused c = c.assign_error.ensures c.args.text.now (tokens c.args.pointer) (view c.args.value.now) c.in-Err.ensures.refused
