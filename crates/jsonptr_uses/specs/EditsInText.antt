-- Two edits in the text of a document.
use Rattle.jsonptr.specs.Text.{Text}
use Rattle.jsonptr_text_edit.specs.Edits.{EditsText, EditBytes}
use Rattle.jsonptr_text_edit.specs.declared.edit.Edit.{Edit}

-- `EditsBoth old first second new`: the texts read as documents, and the edit `first`, and then the edit `second`, turns the
-- first into the second
abbrev pub EditsBoth : Text → Edit → Edit → Text → Type 0
EditsBoth old first second new = (mid : Text) × EditsText old first mid × EditsText mid second new

-- `EditBothBytes old first second new`: `new` comes from `old` by two edits, each of which changes bytes at its own location
abbrev pub EditBothBytes : Text → Edit → Edit → Text → Type 0
EditBothBytes old first second new = (mid : Text) × EditBytes old first mid × EditBytes mid second new
