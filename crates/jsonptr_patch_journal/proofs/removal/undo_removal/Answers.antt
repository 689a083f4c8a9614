use Rattle.serde_json.specs.declared.value.Value.{Null}
use Rattle.jsonptr_patch_journal.specs.Location.{contents_of}
use Rattle.jsonptr_patch_journal.proofs.removal.undo_removal.Goals as goal

pub returns-in-BlankAt : goal.returns-in-BlankAt
returns-in-BlankAt g c = λ was u.
    let h = rw c.in-BlankAt.is at u in
    c.restore.ensures was (contents_of Null) h.1
