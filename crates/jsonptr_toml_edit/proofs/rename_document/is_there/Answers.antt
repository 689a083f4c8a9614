use Rattle.toml.specs.View.{view}
use Rattle.jsonptr.specs.TomlValue.{nodes}
use Rattle.jsonptr.specs.Pointer.{tokens}
use Rattle.jsonptr.specs.Resolve.{Refuses}
use Rattle.jsonptr_text_step.proofs.RenameErrorLemmas.{nothing_there}
use Rattle.jsonptr_toml_edit.proofs.rename_document.is_there.Goals as goal

pub returns-in-Err-Refused : goal.returns-in-Err-Refused
returns-in-Err-Refused c =
    let refused : Refuses (nodes (view c.args.document.now)) (tokens c.args.pointer) c.in-Err-Refused.field-0-0 = rw c.in-Err-Refused.field-0-is at c.in-Err-Refused.ensures.refused in
    nothing_there (nodes (view c.args.document.now)) (tokens c.args.pointer) c.in-Err-Refused.field-0-0 refused
