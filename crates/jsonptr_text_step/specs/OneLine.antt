-- Texts of one line.
use Rattle.jsonptr.specs.Text.{Text}
use Rattle.jsonptr_io.specs.Lines.{IsOneLine}

-- `StaysOneLine old new`: if the text `old` has no line feed, neither has `new`
abbrev pub StaysOneLine : Text → Text → Type 0
StaysOneLine old new = IsOneLine old → IsOneLine new
