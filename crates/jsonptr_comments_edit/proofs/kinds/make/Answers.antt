use Rattle.std.proofs.Common.{List, IfOk, IfSome, string_bytes, subst}
use Rattle.jsonptr_text_step.proofs.EditLemmas.{if_both}
use Rattle.jsonptr_text_step.specs.PatchInText.{PatchesInText}
use Rattle.jsonptr_comments_step.specs.EditWithComments.{Becomes}
use Rattle.jsonptr_text_value.specs.Operations.{operations_in}
use Rattle.jsonptr_text_value.specs.declared.raw_operation.RawOperation.{RawOperation}
use Rattle.jsonptr_comments_edit.proofs.kinds.make.Goals as goal

pub returns-in-Assign-clause-edited : goal.returns-in-Assign-clause-edited
returns-in-Assign-clause-edited c = rw c.in-Assign.is c.assign_with_comments.ensures.assigned

pub returns-in-Assign-clause-bytes : goal.returns-in-Assign-clause-bytes
returns-in-Assign-clause-bytes c = rw c.in-Assign.is (if_both c.assign_with_comments.result _ _ c.assign_with_comments.ensures.bytes c.assign_with_comments.ensures.pieces)

pub returns-in-Delete-clause-edited : goal.returns-in-Delete-clause-edited
returns-in-Delete-clause-edited c = rw c.in-Delete.is c.delete_with_comments.ensures.deleted

pub returns-in-Delete-clause-bytes : goal.returns-in-Delete-clause-bytes
returns-in-Delete-clause-bytes c = rw c.in-Delete.is (if_both c.delete_with_comments.result _ _ c.delete_with_comments.ensures.bytes c.delete_with_comments.ensures.pieces)

pub returns-in-Rename-clause-edited : goal.returns-in-Rename-clause-edited
returns-in-Rename-clause-edited c = rw c.in-Rename.is c.rename_with_comments.ensures.renamed

pub returns-in-Rename-clause-bytes : goal.returns-in-Rename-clause-bytes
returns-in-Rename-clause-bytes c = rw c.in-Rename.is (if_both c.rename_with_comments.result _ _ c.rename_with_comments.ensures.bytes c.rename_with_comments.ensures.pieces)

pub returns-in-Patch-clause-edited : goal.returns-in-Patch-clause-edited
returns-in-Patch-clause-edited c =
    rw c.in-Patch.is
    (subst (λ (rs : List RawOperation). IfOk c.apply_with_comments.result (λ o. IfSome o (λ s. Becomes (λ old new. PatchesInText old (operations_in rs) new) c.args.text.now.text.now (string_bytes s))))
    c.as_slice.ensures.value c.apply_with_comments.ensures.applied)
