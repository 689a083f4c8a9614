-- Documents on lines that are all changed in the same way.
use Rattle.std.specs.Prelude.{◌≡◌, ◌⊎◌, List, [], ◌∷◌, ◌++◌}
use Rattle.serde_json.specs.Data.{Data}
use Rattle.jsonptr.specs.Json.{nodes}
use Rattle.jsonptr.specs.Text.{Text}
use Rattle.jsonptr_text_step.specs.Bytes.{AssignsBytes}
use Rattle.jsonptr_text_piece.specs.Spacing.{IsBlank}
use Rattle.jsonptr_text_step.specs.EditInText.{AssignsInText}

-- `TagsEach ts v ls out`: `out` has a line for each of the lines `ls` that is not white space: the same document with `v`
-- assigned at the tokens, of which only the bytes of the assignment are new
abbrev pub TagsEach : List Text → Data → List Text → Text → Type 0
TagsEach ts v [] out = out ≡ []
TagsEach ts v (l ∷ ls) out =
    ((new more : Text)
    × AssignsInText l ts (nodes v) new
    × AssignsBytes l ts v new
    × TagsEach ts v ls more
    × (out ≡ new ++ 10 ∷ more))
    ⊎ (IsBlank l × TagsEach ts v ls out)
