use Rattle.serde_json.specs.declared.value.Value.{Null}
use Rattle.jsonptr_patch_journal.specs.Location.{contents_of}
use Rattle.jsonptr_patch_journal.proofs.removal.undo_blank.Goals as goal

pub undo_addition-requires : goal.undo_addition-requires
undo_addition-requires g c = (contents_of Null, c.requires.0, c.requires.1)

pub returns : goal.returns
returns g c = λ was a. (c.undo_addition.ensures (contents_of Null) was a).0
