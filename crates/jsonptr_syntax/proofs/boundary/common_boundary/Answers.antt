use Rattle.std.proofs.Common.{sym, ◌∙◌}
use Rattle.std.proofs.lemmas.Bool.{false≢true}
use Rattle.jsonptr_syntax.proofs.CutCommon.{seam_none, seam_some}
use Rattle.jsonptr_syntax.proofs.boundary.common_boundary.Goals as goal
use Rattle.jsonptr_syntax.proofs.boundary.common_boundary.Goals.{else-is_boundary-via-then-is_boundary+else-is_boundary-2, else-is_boundary-via-else-is_boundary}

pub returns-in-Some : goal.returns-in-Some
returns-in-Some c =
    seam_some _ _ _ c.common_len-end.ensures
    (λ first second.
    elim c.else-is_boundary.branch [
      | else-is_boundary-via-then-is_boundary+else-is_boundary-2 w ↦ false≢true (sym w.if-is_boundary-2.false ∙ w.is_boundary-then-is_boundary.ensures.1 second)
      | else-is_boundary-via-else-is_boundary w ↦ false≢true (sym w.if-is_boundary.false ∙ c.is_boundary.ensures.1 first)
    ])
    c.in-Some.slash c.in-Some.ensures

pub returns-in-None : goal.returns-in-None
returns-in-None c =
    seam_none _ _ _ c.common_len-end.ensures
    (λ first second.
    elim c.else-is_boundary.branch [
      | else-is_boundary-via-then-is_boundary+else-is_boundary-2 w ↦ false≢true (sym w.if-is_boundary-2.false ∙ w.is_boundary-then-is_boundary.ensures.1 second)
      | else-is_boundary-via-else-is_boundary w ↦ false≢true (sym w.if-is_boundary.false ∙ c.is_boundary.ensures.1 first)
    ])
    c.requires.begins c.requires.other_begins c.in-None.ensures
