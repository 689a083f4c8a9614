use Rattle.std.proofs.Common.{[], sym}
use Rattle.serde_json.specs.View.{view}
use Rattle.jsonptr_tree.proofs.JsonLemmas.{content_one}
use Rattle.jsonptr_patch_journal.specs.Location.{contents_of}
use Rattle.jsonptr_patch.specs.Order.{OperationHasSortedKeys}
use Rattle.jsonptr_patch.proofs.OperatingLemmas.{each_at, all_but_last}
use Rattle.jsonptr_patch.proofs.patch.apply_naming_pointer.Goals as goal

pub apply_all-requires-clause-undone : goal.apply_all-requires-clause-undone
apply_all-requires-clause-undone c = (contents_of c.args.document.now, c.new-run.ensures.journal (contents_of c.args.document.now))

pub undo-requires : goal.undo-requires
undo-requires c = (contents_of c.args.document.now, c.in-Err.ensures.undone (contents_of c.args.document.now) (c.new-run.ensures.journal (contents_of c.args.document.now)))

pub returns-in-Ok-clause-sorted : goal.returns-in-Ok-clause-sorted
returns-in-Ok-clause-sorted c = λ all a. c.in-Ok.ensures.sorted
    (all_but_last OperationHasSortedKeys _ _ c.in-Some.last all c.in-Some.ensures.items)
    (each_at OperationHasSortedKeys _ _ [] c.in-Some.last all (sym c.in-Some.ensures.items))
    a

pub returns-clause-unchanged : goal.returns-clause-unchanged
returns-clause-unchanged c = content_one (view c.undo.new.document) (view c.args.document.now)
    (c.undo.ensures (contents_of c.args.document.now) (c.in-Err.ensures.undone (contents_of c.args.document.now) (c.new-run.ensures.journal (contents_of c.args.document.now))))
