-- Why a text has no text without comments.
use Rattle.std.specs.Prelude.{ℕ, List, ⊤}
use Rattle.jsonptr_base.specs.declared.fault.Fault.{Fault}
use Rattle.jsonptr_base.specs.declared.fault.Fault.TheVariants.{Refused, Memory}
use Rattle.jsonptr_comments.specs.declared.error.CommentError.{CommentError}
use Rattle.jsonptr_comments.specs.Comments.{IsUnterminated}

-- `IsCommentFault text f`: a block comment has no end, and the error has its offset; or an allocation failed
abbrev pub IsCommentFault : List ℕ → Fault CommentError → Type 0
IsCommentFault text (Refused e) = IsUnterminated text e.offset
IsCommentFault text (Memory e) = ⊤
