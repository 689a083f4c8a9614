use Rattle.serde_json.specs.View.{view}
use Rattle.jsonptr.specs.Json.{nodes}
use Rattle.jsonptr.specs.Pointer.{tokens}
use Rattle.jsonptr.specs.Resolve.{Refuses}
use Rattle.jsonptr_text_step.proofs.RenameErrorLemmas.{object_there, no_object}
use Rattle.jsonptr_text_step.proofs.rename_document.is_object_at.Goals as goal

pub returns-in-Ok : goal.returns-in-Ok
returns-in-Ok c = object_there (view c.args.document.now) (view c.in-Ok.value.now) (tokens c.args.pointer) c.is_object.result c.in-Ok.ensures.found c.is_object.ensures

pub returns-in-Err-Refused : goal.returns-in-Err-Refused
returns-in-Err-Refused c =
    let refused : Refuses (nodes (view c.args.document.now)) (tokens c.args.pointer) c.in-Err-Refused.field-0-0 = rw c.in-Err-Refused.field-0-is at c.in-Err-Refused.ensures.refused in
    no_object (nodes (view c.args.document.now)) (tokens c.args.pointer) c.in-Err-Refused.field-0-0 refused
