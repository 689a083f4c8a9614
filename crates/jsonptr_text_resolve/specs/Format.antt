-- The text of a document with its tokens laid out anew.
use Rattle.std.specs.Prelude.{◌≡◌, List, Some}
use Rattle.json.specs.Token.{Token}
use Rattle.json.specs.Lex.{tokens}
use Rattle.json.specs.Print.{print}
use Rattle.json.specs.Layout.{pretty}
use Rattle.serde_json.specs.Data.{Data}
use Rattle.serde_json.specs.Read.{read}
use Rattle.jsonptr.specs.Text.{Text}
use Rattle.jsonptr_text_resolve.specs.declared.format.Format.{Format}
use Rattle.jsonptr_text_resolve.specs.declared.format.Format.TheVariants.{Compact, Pretty}

-- `laid_out format ts` is the text of the tokens `ts`: without white space, or with a line for each member and element
abbrev pub laid_out : Format → List Token → Text
laid_out Compact ts = print ts
laid_out Pretty ts = pretty ts

-- `IsFormatted format text new`: `text` is the text of a document, and `new` has the same tokens, one for one, laid out in
-- this format. So it is read as the same document
pub record IsFormatted (format : Format) (text new : Text) : Type 0 where
  pub document : Data
  pub from : read text ≡ Some document
  pub same : tokens new ≡ tokens text
  pub layout : new ≡ laid_out format (tokens text)
  pub reads : read new ≡ Some document

-- `HasTokensOf format text new`: `new` has the tokens of `text`, one for one, laid out in this format. Whether `text` is JSON
-- is not said
pub record HasTokensOf (format : Format) (text new : Text) : Type 0 where
  pub same : tokens new ≡ tokens text
  pub layout : new ≡ laid_out format (tokens text)
