-- Words of private clauses: an edit in place that is kept.
use Rattle.std.specs.Prelude.{◌≡◌, ⊤}
use Rattle.jsonptr_text_step.specs.declared.stepped.Stepped.{Stepped as Made}
use Rattle.jsonptr_text_step.specs.declared.stepped.Stepped.TheVariants as made
use Rattle.jsonptr_text_edit.specs.declared.edited.Edited.{Edited}
use Rattle.jsonptr_text_edit.specs.declared.edited.Edited.TheVariants.{InPlace, Reprinted}

-- `IsMadeAs m e`: if `e` is in place, so is `m`, with the same text
abbrev pub IsMadeAs : Made → Edited → Type 0
IsMadeAs m (InPlace s) = m ≡ made.InPlace s
IsMadeAs m (Reprinted s) = ⊤
