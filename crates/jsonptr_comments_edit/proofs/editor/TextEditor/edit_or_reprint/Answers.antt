use Rattle.std.proofs.Common.{String, string_bytes, sym, subst}
use Rattle.std.specs.declared.alloc.Global.{Global}
use Rattle.jsonptr.specs.Text.{Text}
use Rattle.jsonptr_comments_edit.specs.Closed.{IsClosed}
use Rattle.jsonptr_comments_edit.proofs.editor.TextEditor.edit_or_reprint.Goals as goal

pub edit_closed-requires : goal.edit_closed-requires
edit_closed-requires c = subst (λ (t : Text). IsClosed t) (sym c.as_str.ensures.value) c.before.before.before.args.self.now.is_closed

pub invariant_of-self-2 : goal.invariant_of-self-2
invariant_of-self-2 c = record {
  is_closed = subst (λ (s : String Global). IsClosed (string_bytes s)) (sym c.replace-before.ensures.after)
      (subst (λ (t : Text). IsClosed t) (sym c.or_reprinted.ensures) c.in_ok-edited.ensures.closed);
}
