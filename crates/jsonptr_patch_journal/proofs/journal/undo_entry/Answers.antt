use Rattle.jsonptr_patch_journal.proofs.journal.undo_entry.Goals as goal

pub returns-in-Replaced : goal.returns-in-Replaced
returns-in-Replaced g c = λ was u.
    let h = rw c.in-Replaced.is at u in
    c.restore.ensures was h.1 h.2
