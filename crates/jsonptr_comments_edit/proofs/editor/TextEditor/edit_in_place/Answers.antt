use Rattle.std.proofs.Common.{String, string_bytes, sym, subst}
use Rattle.std.specs.declared.alloc.Global.{Global}
use Rattle.jsonptr.specs.Text.{Text}
use Rattle.jsonptr_text_edit.specs.Edited.{text_of}
use Rattle.jsonptr_text_edit.specs.declared.edited.Edited.{Edited}
use Rattle.jsonptr_comments_edit.specs.Closed.{IsClosed}
use Rattle.jsonptr_comments_edit.proofs.editor.TextEditor.edit_in_place.Goals as goal

pub edit_closed-requires : goal.edit_closed-requires
edit_closed-requires c = subst (λ (t : Text). IsClosed t) (sym c.as_str.ensures.value) c.before.before.before.args.self.now.is_closed

pub invariant_of-self-in-InPlace : goal.invariant_of-self-in-InPlace
invariant_of-self-in-InPlace c = record {
  is_closed = subst (λ (s : String Global). IsClosed (string_bytes s)) (sym c.replace.ensures.after)
      (subst (λ (e : Edited). IsClosed (text_of e)) c.in-InPlace.is c.in_ok-new.ensures.closed);
}
