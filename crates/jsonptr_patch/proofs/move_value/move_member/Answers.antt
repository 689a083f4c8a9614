use Rattle.std.proofs.Common.{◌≡◌, OnErr, sym, subst}
use Rattle.serde_json.specs.Data.{Data}
use Rattle.serde_json.specs.View.{view}
use Rattle.serde_json.specs.declared.value.Value.{Value, Null}
use Rattle.jsonptr.specs.Json.{nodes}
use Rattle.jsonptr.specs.Pointer.{tokens}
use Rattle.jsonptr.specs.Content.{Content}
use Rattle.jsonptr_tree.proofs.JsonLemmas.{content_one}
use Rattle.jsonptr_patch_journal.specs.Location.{path_of, contents_of}
use Rattle.jsonptr_patch_journal.specs.Writing.{At}
use Rattle.jsonptr_patch_journal.specs.Changes.{ReplacesContent}
use Rattle.jsonptr_patch.specs.Operating.{RefusesMove}
use Rattle.jsonptr_patch.proofs.ChangeOrderLemmas.{sorted_without}
use Rattle.jsonptr_patch.proofs.LaterLemmas.{blank_sorted, member_named, alone_there, alone_moved, alone_refused}
use Rattle.jsonptr_patch.proofs.OperatingLemmas.{for_refused}
use Rattle.jsonptr_patch.proofs.move_value.move_member.Goals as goal

pub remove_last-requires : goal.remove_last-requires
remove_last-requires c = alone_there c.args.document.now c.blank.new.document c.add_taken_last.new.document c.in-Some.value (tokens c.args.from) (tokens c.args.path) c.args.location c.requires.member c.requires.diverges c.in-Some.ensures c.in-Ok.ensures.added

pub returns-in-Ok-clause-moved : goal.returns-in-Ok-clause-moved
returns-in-Ok-clause-moved c = alone_moved c.args.document.now c.blank.new.document c.add_taken_last.new.document c.remove_last.new.document c.in-Some.value (contents_of c.remove_last.result) (tokens c.args.from) (tokens c.args.path) c.args.location c.requires.member c.requires.diverges c.in-Some.ensures c.in-Ok.ensures.added c.remove_last.ensures

pub returns-in-Ok-clause-sorted : goal.returns-in-Ok-clause-sorted
returns-in-Ok-clause-sorted c = λ s.
    let a = c.in-Some.ensures in
    let both = blank_sorted (path_of c.args.location) c.in-Some.value c.args.document.now c.blank.new.document (tokens c.args.from) a (member_named (contents_of c.args.document.now) a.old (tokens c.args.from) (path_of c.args.location) c.requires.member a.there) s in
    sorted_without (path_of c.args.location) (contents_of c.remove_last.result) (contents_of c.add_taken_last.new.document) (contents_of c.remove_last.new.document) c.remove_last.ensures (c.in-Ok.ensures.sorted both.0 both.1)

pub undo_removal-requires : goal.undo_removal-requires
undo_removal-requires c = (
  contents_of c.args.document.now,
  subst (λ (v : Value). At (path_of c.args.location) (ReplacesContent (contents_of v) (contents_of Null)) (contents_of c.args.document.now) (contents_of c.add_taken_last.new.document)) (sym c.in-Err.ensures.returned)
      (subst (λ (d : Content). At (path_of c.args.location) (ReplacesContent (contents_of c.in-Some.value) (contents_of Null)) (contents_of c.args.document.now) d) (sym c.in-Err.ensures.unchanged) c.in-Some.ensures),
)

pub returns-in-Err-clause-refused : goal.returns-in-Err-clause-refused
returns-in-Err-clause-refused c = for_refused (Unit {0}) c.in-Err.field-0.fault _ (RefusesMove (nodes (view c.args.document.now)) c.args.turn.number (tokens c.args.from) (tokens c.args.path))
    (λ e. alone_refused c.args.document.now c.blank.new.document c.in-Some.value c.args.turn.number (tokens c.args.from) (tokens c.args.path) c.args.location e c.requires.member c.requires.diverges c.in-Some.ensures)
    c.in-Err.ensures.refused

pub returns-in-Err-clause-unchanged : goal.returns-in-Err-clause-unchanged
returns-in-Err-clause-unchanged c = content_one (view c.undo_removal.new.document) (view c.args.document.now)
    (c.undo_removal.ensures (contents_of c.args.document.now)
    (subst (λ (v : Value). At (path_of c.args.location) (ReplacesContent (contents_of v) (contents_of Null)) (contents_of c.args.document.now) (contents_of c.add_taken_last.new.document)) (sym c.in-Err.ensures.returned)
    (subst (λ (d : Content). At (path_of c.args.location) (ReplacesContent (contents_of c.in-Some.value) (contents_of Null)) (contents_of c.args.document.now) d) (sym c.in-Err.ensures.unchanged) c.in-Some.ensures)))

pub returns-in_default-clause-unchanged : goal.returns-in_default-clause-unchanged
returns-in_default-clause-unchanged c = subst (λ (x : Data). OnErr c.move_any.result (view c.move_any.new.document ≡ x)) (content_one (view c.blank.new.document) (view c.args.document.now) c.in_default.ensures.1) c.move_any.ensures.unchanged
