-- Where a list of tokens leads in a content, and writing there.
use Rattle.std.specs.Prelude.{ℕ, List}
use Rattle.jsonptr.specs.Text.{Text}
use Rattle.jsonptr.specs.Node.{Path, Label, NodeMap, Names}
use Rattle.jsonptr.specs.Content.{Content, map_of}
use Rattle.jsonptr.specs.Following.{StopsBefore}
use Rattle.jsonptr_patch_journal.specs.Writing.{At}

-- `StopsAtOffset n tokens offset`: following `tokens` in the map `n` stops before a token, and the text of those before it
-- has `offset` bytes
abbrev pub StopsAtOffset : NodeMap → List Text → ℕ → Type 0
StopsAtOffset n tokens offset = (position : ℕ) × (l : Label) × (x : Text) × StopsBefore n tokens position offset l x

-- `AtNamed tokens R c d`: writing at the path that `tokens` name turns `c` into `d`, and `R` relates what was there to
-- what is written
pub record AtNamed (tokens : List Text) (R : Content → Content → Type 0) (c d : Content) : Type 0 where
  pub path : Path
  pub named : Names (map_of c) tokens path
  pub written : At path R c d
