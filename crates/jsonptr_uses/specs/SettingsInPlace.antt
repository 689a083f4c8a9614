-- Several edits of a text, each in place or left out.
use Rattle.std.specs.Prelude.{◌≡◌, Bool, true, false, List, [], ◌∷◌, ◌++◌}
use Rattle.jsonptr.specs.Text.{Text}
use Rattle.jsonptr_text_step.specs.OneLine.{StaysOneLine}
use Rattle.jsonptr_text_edit.specs.Edits.{EditsText, EditBytes}
use Rattle.jsonptr_text_edit.specs.Errors.{IsEditError}
use Rattle.jsonptr_text_edit.specs.declared.edit.Edit.{Edit}
use Rattle.jsonptr_text_edit.specs.declared.edit_error.EditError.{EditError}

-- `IsSet old edit made new`: if `made` is true, the edit turns the document of the text `old` into that of `new`, changes only its
-- own bytes, and breaks no text of one line. Else the text stays
abbrev pub IsSet : Text → Edit → Bool → Text → Type 0
IsSet old edit true new = EditsText old edit new × EditBytes old edit new × StaysOneLine old new
IsSet old edit false new = new ≡ old

-- `AreSet old edits made new`: the edits turn the text `old` into `new`, one after the other. Those for which `made` has `false`
-- are left out
abbrev pub AreSet : Text → List Edit → List Bool → Text → Type 0
AreSet old [] [] new = new ≡ old
AreSet old [] (b ∷ made) new = ⊥
AreSet old (e ∷ edits) [] new = ⊥
AreSet old (e ∷ edits) (b ∷ made) new = (mid : Text) × IsSet old e b mid × AreSet mid edits made new

-- `IsNext old made edit all new`: the edit is made or left out, and `all` has one answer more than `made`
abbrev pub IsNext : Text → List Bool → Edit → List Bool → Text → Type 0
IsNext old made edit all new = (b : Bool) × (all ≡ made ++ b ∷ []) × IsSet old edit b new

-- `StopsAt old edits e`: after some of the edits the next one fails with `e`
pub record StopsAt (old : Text) (edits : List Edit) (e : EditError) : Type 0 where
  pub done : List Edit
  pub fails : Edit
  pub rest : List Edit
  pub made : List Bool
  pub mid : Text
  pub split : edits ≡ done ++ fails ∷ rest
  pub set : AreSet old done made mid
  pub refused : IsEditError mid fails e
