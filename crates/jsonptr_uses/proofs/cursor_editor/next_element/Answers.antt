use Rattle.std.proofs.Common.{[], ◌∷◌, ◌++◌, ap, ◌∙◌}
use Rattle.serde_json.specs.View.{view}
use Rattle.jsonptr.specs.Json.{nodes}
use Rattle.jsonptr.specs.Pointer.{tokens}
use Rattle.jsonptr.specs.Text.{Text}
use Rattle.jsonptr_uses.proofs.NextLemmas.{parent_lacks, place_lacks, place_next}
use Rattle.jsonptr_uses.proofs.cursor_editor.next_element.Goals as goal

pub returns-in_default-2 : goal.returns-in_default-2
returns-in_default-2 c =
    let none = rw c.in_default-2.is at c.in_ok-len.ensures in
    parent_lacks (nodes (view c.args.document.now)) (tokens c.args.pointer) (tokens c.in-Some.front) c.in-Some.last c.in-Some.ensures none

pub returns-in_default-index_after : goal.returns-in_default-index_after
returns-in_default-index_after c =
    let array = rw c.in-Some-2.is at c.in_ok-len.ensures in
    place_lacks (nodes (view c.args.document.now)) (tokens c.args.pointer) (tokens c.in-Some.front) c.in-Some.last c.in-Some-2.len c.in-Some.ensures array c.in_default-index_after.ensures

pub returns : goal.returns
returns c =
    let array = rw c.in-Some-2.is at c.in_ok-len.ensures in
    let after = c.in-Some-index_after.ensures in
    place_next (nodes (view c.args.document.now)) (tokens c.args.pointer) (tokens c.in-Some.front) c.in_ok-with_trailing_token.field-0 c.in-Some.last c.in-Some-2.len c.in-Some-index_after.next after.0 c.in-Some.ensures array after.1 after.2 after.3
    (c.in_ok-with_trailing_token.ensures ∙ ap (λ (x : Text). tokens c.in-Some.front ++ x ∷ []) c.in_ok-token.ensures)
