-- Two edits in the text of a document.
use Rattle.std.proofs.Common.{Result, Ok, Err, IfOk}
use Rattle.jsonptr.specs.Text.{Text}
use Rattle.jsonptr_text_edit.specs.Edited.{text_of, IfInPlace}
use Rattle.jsonptr_text_edit.specs.Edits.{EditsText, EditBytes}
use Rattle.jsonptr_text_edit.specs.declared.edit.Edit.{Edit}
use Rattle.jsonptr_text_edit.specs.declared.edited.Edited.{Edited}
use Rattle.jsonptr_text_edit.specs.declared.edited.Edited.TheVariants.{InPlace, Reprinted}
use Rattle.jsonptr_uses.specs.EditsInText.{EditsBoth, EditBothBytes}

pub both_texts : {E : Type 0} → (r : Result Edited E) (old mid : Text) (first second : Edit) → EditsText old first mid → IfOk r (λ e. EditsText mid second (text_of e)) → IfOk r (λ e. EditsBoth old first second (text_of e))
both_texts (Err e) old mid first second h k = k
both_texts (Ok e) old mid first second h k = (mid, h, k)

pub both_bytes : {E : Type 0} → (r : Result Edited E) (old mid : Text) (first second : Edit) → EditBytes old first mid → IfOk r (IfInPlace (EditBytes mid second)) → IfOk r (IfInPlace (EditBothBytes old first second))
both_bytes (Err e) old mid first second h k = k
both_bytes (Ok (InPlace s)) old mid first second h k = (mid, h, k)
both_bytes (Ok (Reprinted s)) old mid first second h k = k
