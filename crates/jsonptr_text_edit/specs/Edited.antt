-- The text after an edit.
use Rattle.std.specs.Prelude.{Bool, true, false, ⊤, string_bytes}
use Rattle.jsonptr.specs.Text.{Text}
use Rattle.jsonptr_text_edit.specs.declared.edited.Edited.{Edited}
use Rattle.jsonptr_text_edit.specs.declared.edited.Edited.TheVariants.{InPlace, Reprinted}

-- `text_of e`: the text of the edited document
abbrev pub text_of : Edited → Text
text_of (InPlace s) = string_bytes s
text_of (Reprinted s) = string_bytes s

-- `is_in_place e`: whether the edit is made in place
abbrev pub is_in_place : Edited → Bool
is_in_place (InPlace s) = true
is_in_place (Reprinted s) = false

-- `IfInPlace P e`: if the edit is made in place, the text meets `P`
abbrev pub IfInPlace : (Text → Type 0) → Edited → Type 0
IfInPlace P (InPlace s) = P (string_bytes s)
IfInPlace P (Reprinted s) = ⊤
