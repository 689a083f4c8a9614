-- The text of a document with its tokens on lines.
use Rattle.std.specs.Prelude.{◌≡◌, Some, None, ⊤}
use Rattle.json.specs.Lex.{tokens}
use Rattle.serde_json.specs.Data.{Data}
use Rattle.serde_json.specs.Read.{read}
use Rattle.jsonptr.specs.Text.{Text}
use Rattle.jsonptr_text_piece.specs.Spacing.{IsBlank}
use Rattle.jsonptr_value.specs.declared.from_text.ReadError.{ReadError}
use Rattle.jsonptr_value.specs.declared.from_text.ReadError.TheVariants as unread
use Rattle.jsonptr_text_step.specs.declared.indent.IndentError.{IndentError}
use Rattle.jsonptr_text_step.specs.declared.indent.IndentError.TheVariants.{NotJson, NotWhiteSpace, Memory}

-- `IsIndented text new`: `text` is the text of a document, and `new` has the same tokens, one for one. So it is read as the same
-- document
pub record IsIndented (text new : Text) : Type 0 where
  pub document : Data
  pub from : read text ≡ Some document
  pub same : tokens new ≡ tokens text
  pub reads : read new ≡ Some document

-- `IsIndentError text indent e`: `e` is why `text` is not laid out with the indentation `indent`, unless an allocation failed
abbrev pub IsIndentError : Text → Text → IndentError → Type 0
IsIndentError text indent NotJson = read text ≡ None
IsIndentError text indent NotWhiteSpace = IsBlank indent → ⊥
IsIndentError text indent (Memory e) = ⊤

-- `indent_of_read e`: the error of indenting a text that is not read because of `e`
abbrev pub indent_of_read : ReadError → IndentError
indent_of_read unread.NotJson = NotJson
indent_of_read (unread.Memory e) = Memory e
