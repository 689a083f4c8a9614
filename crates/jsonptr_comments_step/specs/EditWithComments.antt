-- Edits of a document in its text with comments.
use Rattle.jsonptr.specs.Text.{Text}
use Rattle.jsonptr_comments.specs.Comments.{IsWithoutComments}
use Rattle.jsonptr_comments_step.specs.Edits.{IsLaidOut}

-- `Becomes P text made`: `P` relates the text `text` without its comments, and the text `made` without its comments
abbrev pub Becomes : (Text → Text → Type 0) → Text → Text → Type 0
Becomes P text made = (old json : Text) × IsWithoutComments text old × IsWithoutComments made json × P old json

-- `EditsAs P text made`: `P` relates the text `text` without its comments and some text, of which `made` has the tokens
abbrev pub EditsAs : (Text → Text → Type 0) → Text → Text → Type 0
EditsAs P text made = (old new : Text) × IsWithoutComments text old × IsLaidOut new made × P old new
