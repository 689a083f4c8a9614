use Rattle.std.proofs.Common.{string_bytes}
use Rattle.toml.specs.View.{view}
use Rattle.jsonptr.specs.Pointer.{tokens}
use Rattle.jsonptr_toml_edit.proofs.PieceLemmas.{replaces_exact}
use Rattle.jsonptr_toml_edit.proofs.assign.replaced.Goals as goal

pub returns : goal.returns
returns c d reads found =
    let cut = c.in-Some.cut in
    let exchange = c.args.exchange.now in
    replaces_exact c.args.text.now cut.text.now (string_bytes c.in_ok-splice.field-0) cut.before.now cut.middle.now cut.after.now c.as_str.result.now (string_bytes c.args.plan.now.piece) (tokens exchange.pointer) (view exchange.old.now) (view exchange.new.now) d c.in-Some.ensures cut.whole c.as_str.ensures.value c.in_ok-splice.ensures (c.in_ok-is_replacement.ensures c.if-not-branch.false) reads found
