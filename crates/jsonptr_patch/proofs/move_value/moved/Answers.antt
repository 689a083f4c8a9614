use Rattle.std.proofs.Common.{sym, ◌∙◌, subst, true≢false}
use Rattle.serde_json.specs.View.{view}
use Rattle.serde_json.specs.declared.value.Value.{Value}
use Rattle.jsonptr.specs.Pointer.{tokens}
use Rattle.jsonptr.specs.Content.{Content}
use Rattle.jsonptr.specs.Json.{nodes}
use Rattle.jsonptr_tree.proofs.JsonLemmas.{content_one}
use Rattle.jsonptr_patch_journal.specs.Location.{path_of, contents_of}
use Rattle.jsonptr_patch_journal.specs.Undoing.{IsRemoval}
use Rattle.jsonptr_patch_journal.specs.declared.journal.Entry.{Entry}
use Rattle.jsonptr_patch.specs.Operating.{RefusesMove}
use Rattle.jsonptr_patch.proofs.ChangeMapLemmas.{takes_node}
use Rattle.jsonptr_patch.proofs.ChangeOrderLemmas.{sorted_without, sorted_taken}
use Rattle.jsonptr_patch.proofs.OperatingLemmas.{on_err, for_refused, left_refused}
use Rattle.jsonptr_patch.proofs.PlaceLemmas.{named_there}
use Rattle.jsonptr_patch.proofs.move_value.moved.Goals as goal

pub remove-requires : goal.remove-requires
remove-requires c = named_there (contents_of c.args.document.now) (tokens c.args.from) (path_of c.in_ok-location.location) c.in_ok-location.ensures.found

pub returns-in_err-value-clause-unchanged : goal.returns-in_err-value-clause-unchanged
returns-in_err-value-clause-unchanged c = on_err _ _ (content_one (view c.remove.new.document) (view c.args.document.now) c.in_err-value.ensures.unchanged)

pub returns-in-Ok-clause-moved : goal.returns-in-Ok-clause-moved
returns-in-Ok-clause-moved c = record {
  node = nodes (view c.in_ok-value.field-0.value);
  left = nodes (view c.remove.new.document);
  apart = λ f. true≢false (sym (c.is_proper_prefix.ensures.1 f) ∙ c.if-is_proper_prefix.false);
  taken = takes_node (path_of c.in_ok-location.location) (contents_of c.in_ok-value.field-0.value) (contents_of c.args.document.now) (contents_of c.remove.new.document) (tokens c.args.from) c.in_ok-value.ensures.taken c.in_ok-location.ensures.found;
  added = c.in-Ok.ensures.added;
}

pub returns-in-Ok-clause-sorted : goal.returns-in-Ok-clause-sorted
returns-in-Ok-clause-sorted c = λ a. c.in-Ok.ensures.sorted
    (sorted_taken (path_of c.in_ok-location.location) (contents_of c.in_ok-value.field-0.value) (contents_of c.args.document.now) (contents_of c.remove.new.document) c.in_ok-value.ensures.taken a)
    (sorted_without (path_of c.in_ok-location.location) (contents_of c.in_ok-value.field-0.value) (contents_of c.args.document.now) (contents_of c.remove.new.document) c.in_ok-value.ensures.taken a)

pub undo_removal-requires : goal.undo_removal-requires
undo_removal-requires c = (
  contents_of c.args.document.now,
  subst (λ (v : Value). IsRemoval c.in_ok-value.field-0.removal (contents_of v) (contents_of c.args.document.now) (contents_of c.add_taken.new.document)) (sym c.in-Err.ensures.returned)
      (subst (λ (d : Content). IsRemoval c.in_ok-value.field-0.removal (contents_of c.in_ok-value.field-0.value) (contents_of c.args.document.now) d) (sym c.in-Err.ensures.unchanged) c.in_ok-value.ensures.undone),
)

pub returns-in-Err-clause-refused : goal.returns-in-Err-clause-refused
returns-in-Err-clause-refused c = for_refused Entry c.in-Err.field-0.fault _ (RefusesMove (nodes (view c.args.document.now)) c.args.turn.number (tokens c.args.from) (tokens c.args.path))
    (λ e. left_refused (nodes (view c.args.document.now)) (nodes (view c.in_ok-value.field-0.value)) (nodes (view c.remove.new.document)) c.args.turn.number (tokens c.args.from) (tokens c.args.path) e
    (λ f. true≢false (sym (c.is_proper_prefix.ensures.1 f) ∙ c.if-is_proper_prefix.false))
    (takes_node (path_of c.in_ok-location.location) (contents_of c.in_ok-value.field-0.value) (contents_of c.args.document.now) (contents_of c.remove.new.document) (tokens c.args.from) c.in_ok-value.ensures.taken c.in_ok-location.ensures.found))
    c.in-Err.ensures.refused

pub returns-in-Err-clause-unchanged : goal.returns-in-Err-clause-unchanged
returns-in-Err-clause-unchanged c = content_one (view c.undo_removal.new.document) (view c.args.document.now)
    (c.undo_removal.ensures (contents_of c.args.document.now)
    (subst (λ (v : Value). IsRemoval c.in_ok-value.field-0.removal (contents_of v) (contents_of c.args.document.now) (contents_of c.add_taken.new.document)) (sym c.in-Err.ensures.returned)
    (subst (λ (d : Content). IsRemoval c.in_ok-value.field-0.removal (contents_of c.in_ok-value.field-0.value) (contents_of c.args.document.now) d) (sym c.in-Err.ensures.unchanged) c.in_ok-value.ensures.undone)))
