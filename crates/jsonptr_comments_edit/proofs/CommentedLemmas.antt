-- What an edit makes of a text with comments.
use Rattle.std.proofs.Common.{◌≡◌, Some}
use Rattle.serde_json.specs.Data.{Data}
use Rattle.serde_json.specs.Read.{read}
use Rattle.jsonptr.specs.Text.{Text}
use Rattle.jsonptr_comments.specs.Comments.{IsWithoutComments, IsPlain}
use Rattle.jsonptr_comments_step.specs.EditWithComments.{Becomes}
use Rattle.jsonptr_text_edit.proofs.EditLemmas.{edits_reads}
use Rattle.jsonptr_text_edit.specs.Edits.{EditsText}
use Rattle.jsonptr_text_edit.specs.Errors.{IsEditError}
use Rattle.jsonptr_text_edit.specs.declared.edit.Edit.{Edit}
use Rattle.jsonptr_text_edit.specs.declared.edit_error.EditError.{EditError}
use Rattle.jsonptr_text_edit.specs.declared.edit_error.EditError.TheVariants.{Memory}
use Rattle.jsonptr_comments_edit.specs.Commented.{IsCommentedError}

-- an error of the edit of the text without comments is one of the edit
pub commented_error : (text bare : Text) (edit : Edit) (e : EditError) → IsWithoutComments text bare → IsEditError bare edit e → IsCommentedError text edit e
commented_error text bare edit (Memory e) w h = tt
commented_error text bare edit e w h = (bare, w, h)

module _
    (is_plain : (text : Text) (d : Data) → read text ≡ Some d → IsPlain text)
    (plain : (text : Text) → IsPlain text → IsWithoutComments text text) where
  -- a text that an edit makes is its own text without comments
  pub made_bare : (old : Text) (edit : Edit) (new : Text) → EditsText old edit new → IsWithoutComments new new
  made_bare old edit new h =
      let reads = edits_reads old edit new h in
      plain new (is_plain new reads.0 reads.1)

  -- a document that is printed anew
  pub printed_becomes : (text bare : Text) (edit : Edit) (new : Text) → IsWithoutComments text bare → EditsText bare edit new → Becomes (λ old made. EditsText old edit made) text new
  printed_becomes text bare edit new w h = (bare, new, w, made_bare bare edit new h, h)
