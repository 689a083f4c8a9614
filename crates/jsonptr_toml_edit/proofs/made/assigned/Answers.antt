use Rattle.toml.specs.View.{view}
use Rattle.jsonptr.specs.Pointer.{tokens}
use Rattle.jsonptr_toml_edit.specs.Bytes.{AssignsTomlBytes}
use Rattle.jsonptr_toml_edit.specs.Giving.{AssignsTomlGiven}
use Rattle.jsonptr_toml_edit.proofs.EditLemmas.{both_kept}
use Rattle.jsonptr_toml_edit.proofs.made.assigned.Goals as goal

pub returns-in-Ok-clause-bytes : goal.returns-in-Ok-clause-bytes
returns-in-Ok-clause-bytes c =
    let ts = tokens c.args.pointer in
    both_kept (AssignsTomlBytes c.args.text.now ts (view c.args.raw.now.value)) (AssignsTomlGiven c.args.text.now ts c.args.raw.now) c.in-Ok.edited c.in-Ok.ensures.bytes c.in-Ok.ensures.given

pub returns-in-Err-clause-refused : goal.returns-in-Err-clause-refused
returns-in-Err-clause-refused c = c.assign_error.ensures c.args.text.now (tokens c.args.pointer) (view c.args.raw.now.value) c.in-Err.ensures.refused
