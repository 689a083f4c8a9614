use Rattle.serde_json.specs.View.{view}
use Rattle.jsonptr_tree.proofs.JsonLemmas.{content_one}
use Rattle.jsonptr_patch_journal.specs.Location.{contents_of}
use Rattle.jsonptr_patch.proofs.inverse.apply_naming_pointer_with_inverse.Goals as goal

pub record_with_inverse-requires-clause-undone : goal.record_with_inverse-requires-clause-undone
record_with_inverse-requires-clause-undone c = (contents_of c.args.document.now, c.new-run.ensures.journal (contents_of c.args.document.now))

pub undo-requires : goal.undo-requires
undo-requires c = (contents_of c.args.document.now, c.in-Err.ensures.undone (contents_of c.args.document.now) (c.new-run.ensures.journal (contents_of c.args.document.now)))

pub returns-clause-unchanged : goal.returns-clause-unchanged
returns-clause-unchanged c = content_one (view c.undo.new.document) (view c.args.document.now)
    (c.undo.ensures (contents_of c.args.document.now) (c.in-Err.ensures.undone (contents_of c.args.document.now) (c.new-run.ensures.journal (contents_of c.args.document.now))))
