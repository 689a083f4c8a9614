use Rattle.std.proofs.Common.{inl, inr, sym, ◌∙◌, subst, true≢false}
use Rattle.serde_json.specs.Data.{Data}
use Rattle.serde_json.specs.View.{view}
use Rattle.jsonptr.specs.Json.{nodes, HasSortedKeys}
use Rattle.jsonptr.specs.Pointer.{tokens}
use Rattle.jsonptr.specs.Content.{map_of}
use Rattle.jsonptr_walk.proofs.FollowLemmas.{refused_on}
use Rattle.jsonptr_patch_journal.specs.Location.{path_of, contents_of}
use Rattle.jsonptr_patch.specs.Inverse.{TakesMoveBack}
use Rattle.jsonptr_patch.specs.Operating.{RefusesTarget}
use Rattle.jsonptr_patch.specs.declared.failed_operation.PatchPointer.TheVariants as pointer
use Rattle.jsonptr_patch.specs.Apart.{Diverges}
use Rattle.jsonptr_patch.proofs.ApartnessLemmas.{alone, both_alone, fails}
use Rattle.jsonptr_patch.proofs.BackLemmas.{way_taken_back, way_add_refused}
use Rattle.jsonptr_patch.proofs.ChangeMapLemmas.{takes_node}
use Rattle.jsonptr_patch.proofs.OperatingLemmas.{ok_all, refused_all, left_refused}
use Rattle.jsonptr_patch.proofs.PlaceLemmas.{named_there}
use Rattle.jsonptr_patch.proofs.inverse.back_of_move.Goals as goal

pub returns-then-apart-clause-back : goal.returns-then-apart-clause-back
returns-then-apart-clause-back c = ok_all c.back_of_diverging_move.result _ _
    (λ h. (h.1, way_taken_back (nodes (view c.args.document.now)) (tokens c.args.from) (tokens c.args.path) (path_of c.in_ok-location.location) h.0 h.1 (both_alone (nodes (view c.args.document.now)) (tokens c.args.from) (tokens c.args.path) (c.in_ok-apart.ensures.0 c.if-apart.true)) c.in_ok-location.ensures.found h.2 h.3, h.4))
    c.back_of_diverging_move.ensures.back

pub returns-then-apart-clause-refused : goal.returns-then-apart-clause-refused
returns-then-apart-clause-refused c = refused_all c.back_of_diverging_move.result _ _
    (λ e. way_add_refused (nodes (view c.args.document.now)) c.args.turn.number (tokens c.args.from) (tokens c.args.path) (path_of c.in_ok-location.location) e (both_alone (nodes (view c.args.document.now)) (tokens c.args.from) (tokens c.args.path) (c.in_ok-apart.ensures.0 c.if-apart.true)) c.in_ok-location.ensures.found)
    c.back_of_diverging_move.ensures.refused

pub back_in_left-requires : goal.back_in_left-requires
back_in_left-requires c = named_there (contents_of c.args.document.now) (tokens c.args.from) (path_of c.in_ok-location.location) c.in_ok-location.ensures.found

pub returns-in_err-back-clause-refused : goal.returns-in_err-back-clause-refused
returns-in_err-back-clause-refused c = refused_on (Unit {0}) _ c.in_err-back.field-0.0 _ _
    (λ e r. left_refused (nodes (view c.args.document.now)) (map_of r.0) (map_of r.1) c.args.turn.number (tokens c.args.from) (tokens c.args.path) e
    (λ f. true≢false (sym (c.is_proper_prefix.ensures.1 f) ∙ c.if-is_proper_prefix.false))
    (takes_node (path_of c.in_ok-location.location) r.0 (contents_of c.args.document.now) r.1 (tokens c.args.from) r.2 c.in_ok-location.ensures.found)
    r.3)
    c.in_err-back.ensures.refused c.from_residual-in_err-back.ensures.1

pub returns-clause-back : goal.returns-clause-back
returns-clause-back c =
    let b = c.in_ok-back.ensures.back in let o = c.in_ok-back.back in
    let nowhere : Diverges (nodes (view c.args.document.now)) (tokens c.args.from) (tokens c.args.path) → ⊥ = λ d. fails c.in_ok-apart.apart _ c.in_ok-apart.ensures c.if-apart.false (alone (nodes (view c.args.document.now)) (tokens c.args.from) (tokens c.args.path) d) in
    ok_all c.append_reverse.result _ _
    (λ h.
    let r = h (tokens c.args.path) (λ d. nowhere (subst (λ (x : Data). Diverges (nodes x) (tokens c.args.from) (tokens c.args.path)) c.in_ok-back.ensures.unchanged d)) in
    let reverse = subst (λ (x : Data). TakesMoveBack (nodes x) (tokens c.args.from) (tokens c.args.path) o r.0) c.in_ok-back.ensures.unchanged r.1 in
    (r.0, (o, map_of b.0, map_of b.1, takes_node (path_of c.in_ok-location.location) b.0 (contents_of c.args.document.now) b.1 (tokens c.args.from) b.2 c.in_ok-location.ensures.found, b.3, reverse), r.2))
    c.append_reverse.ensures.back

pub returns-clause-refused : goal.returns-clause-refused
returns-clause-refused c = refused_all c.append_reverse.result _ _
    (λ e r. inr (
      (λ f. true≢false (sym (c.is_proper_prefix.ensures.1 f) ∙ c.if-is_proper_prefix.false)),
      inl (subst (λ (x : Data). RefusesTarget (nodes x) c.args.turn.number pointer.From (tokens c.args.from) e) c.in_ok-back.ensures.unchanged r),
    ))
    c.append_reverse.ensures.refused

pub returns-clause-inverse_sorted : goal.returns-clause-inverse_sorted
returns-clause-inverse_sorted c = ok_all c.append_reverse.result _ _
    (λ h s. h (c.in_ok-back.ensures.sorted s) (subst (λ (x : Data). HasSortedKeys x) (sym c.in_ok-back.ensures.unchanged) s))
    c.append_reverse.ensures.sorted

pub back_of_diverging_move-requires : goal.back_of_diverging_move-requires
back_of_diverging_move-requires c = both_alone (nodes (view c.args.document.now)) (tokens c.args.from) (tokens c.args.path) (c.in_ok-apart.ensures.0 c.if-apart.true)
