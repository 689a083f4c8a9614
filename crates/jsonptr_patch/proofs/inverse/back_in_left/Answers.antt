use Rattle.serde_json.specs.View.{view}
use Rattle.jsonptr_tree.proofs.JsonLemmas.{content_one}
use Rattle.jsonptr_patch_journal.specs.Location.{path_of, contents_of}
use Rattle.jsonptr_patch.proofs.ChangeOrderLemmas.{sorted_without}
use Rattle.jsonptr_patch.proofs.OperatingLemmas.{ok_each, refused_all}
use Rattle.jsonptr_patch.proofs.inverse.back_in_left.Goals as goal

pub returns-in_err-value-clause-unchanged : goal.returns-in_err-value-clause-unchanged
returns-in_err-value-clause-unchanged c = content_one (view c.remove.new.document) (view c.args.document.now) c.in_err-value.ensures.unchanged

pub returns-clause-back : goal.returns-clause-back
returns-clause-back c = ok_each c.back_of_add-back.result _ _
    (λ o b. (contents_of c.in_ok-value.field-0.value, contents_of c.remove.new.document, c.in_ok-value.ensures.taken, b))
    c.back_of_add-back.ensures.back

pub returns-clause-sorted : goal.returns-clause-sorted
returns-clause-sorted c = ok_each c.back_of_add-back.result _ _
    (λ o f s. f (sorted_without (path_of c.args.location) (contents_of c.in_ok-value.field-0.value) (contents_of c.args.document.now) (contents_of c.remove.new.document) c.in_ok-value.ensures.taken s))
    c.back_of_add-back.ensures.sorted

pub returns-clause-refused : goal.returns-clause-refused
returns-clause-refused c = refused_all c.back_of_add-back.result _ _
    (λ e r. (contents_of c.in_ok-value.field-0.value, contents_of c.remove.new.document, c.in_ok-value.ensures.taken, r))
    c.back_of_add-back.ensures.refused

pub returns-clause-unchanged : goal.returns-clause-unchanged
returns-clause-unchanged c = content_one (view c.undo_removal.new.document) (view c.args.document.now) (c.undo_removal.ensures (contents_of c.args.document.now) c.in_ok-value.ensures.undone)
