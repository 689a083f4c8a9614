use Rattle.std.proofs.Common.{string_bytes}
use Rattle.toml.specs.View.{view}
use Rattle.jsonptr.specs.Pointer.{tokens}
use Rattle.jsonptr_toml_edit.proofs.PieceLemmas.{deletes_whole, deletes_and_leaves}
use Rattle.jsonptr_toml_edit.proofs.delete.removed.Goals as goal

pub returns : goal.returns
returns c d reads found =
    let cut = c.in-Some.cut in
    deletes_and_leaves c.args.text.now cut.text.now (string_bytes c.in_ok-splice-2.field-0) cut.before.now cut.middle.now cut.after.now _ _ (tokens c.args.pointer) (view c.args.found.now) d c.in-Some.ensures cut.whole c.as_str.ensures.value c.in_ok-splice-2.ensures (c.in_ok-is_one_removed.ensures c.if-not-branch.false) (c.in_ok-is_left.ensures c.if-not-branch-2.false) reads found

pub returns-in_default-left : goal.returns-in_default-left
returns-in_default-left c d reads found =
    let cut = c.in-Some.cut in
    deletes_whole c.args.text.now cut.text.now (string_bytes c.in_ok-splice.field-0) cut.before.now cut.middle.now cut.after.now (tokens c.args.pointer) (view c.args.found.now) d c.in-Some.ensures cut.whole c.in_ok-splice.ensures (c.in_ok-is_one_removed.ensures c.if-not-branch.false) reads found
