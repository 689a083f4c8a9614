use Rattle.std.proofs.Common.{rules}
use Rattle.serde_json.specs.View.{view}
use Rattle.jsonptr.specs.Json.{nodes}
use Rattle.jsonptr.specs.Pointer.{tokens}
use Rattle.jsonptr.specs.Resolve.{Refuses}
use Rattle.jsonptr.proofs.Calling.{Refuses-NamesNothing}
use Rattle.jsonptr_uses.proofs.NextLemmas.{found_len}
use Rattle.jsonptr_uses.proofs.cursor_editor.array_len.Goals as goal

pub returns-in-Ok : goal.returns-in-Ok
returns-in-Ok c = found_len (view c.args.document.now) (view c.in-Ok.value.now) (tokens c.args.pointer) c.len_of.result c.in-Ok.ensures.found c.len_of.ensures

pub returns-in_ok-refused-in-Err : goal.returns-in_ok-refused-in-Err
returns-in_ok-refused-in-Err c =
    let refused : Refuses (nodes (view c.args.document.now)) (tokens c.args.pointer) c.in_ok-refused-in-Err.field-0 = search rules in
    λ k array. Refuses-NamesNothing _ _ _ refused array.0 array.1
