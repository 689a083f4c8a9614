use Rattle.jsonptr_patch_journal.specs.Location.{path_of, contents_of}
use Rattle.jsonptr.specs.Content.{map_of}
use Rattle.jsonptr_patch.proofs.ChangeMapLemmas.{takes_node}
use Rattle.jsonptr_patch.proofs.ChangeOrderLemmas.{sorted_without}
use Rattle.jsonptr_patch.proofs.LaterLemmas.{next_reached, next_removed}
use Rattle.jsonptr_patch.proofs.PlaceLemmas.{named_there}
use Rattle.jsonptr_patch.proofs.later.flush.Goals as goal

pub location_of-requires : goal.location_of-requires
location_of-requires c = next_reached c.loop-one.document _ _ c.in-Some.one c.requires.pending.0 c.in-Some.ensures.steps.0 (c.loop-one.invariant.pending c.requires.pending.0 c.requires.pending.1)

pub remove-requires-clause-there : goal.remove-requires-clause-there
remove-requires-clause-there c = named_there (contents_of c.loop-one.document) c.in-Some.one.path (path_of c.in_ok-location.location) c.in_ok-location.ensures

pub remove-requires-clause-undone : goal.remove-requires-clause-undone
remove-requires-clause-undone c = (c.requires.undone.0, c.loop-one.invariant.recorded c.requires.undone.0 c.requires.undone.1)

pub loop-one-preserved : goal.loop-one-preserved
loop-one-preserved c =
    let removed = c.in_ok-remove.ensures.removed in
    let here = path_of c.in_ok-location.location in
    record {
      pending = λ n p. next_removed c.loop-one.document c.remove.new.document (map_of removed.0) _ _ c.in-Some.one n c.in-Some.ensures.steps.0
          (takes_node here removed.0 (contents_of c.loop-one.document) (contents_of c.remove.new.document) c.in-Some.one.path removed.1 c.in_ok-location.ensures)
          (c.loop-one.invariant.pending n p);
      emptied = c.loop-one.invariant.emptied;
      ordered = λ s. sorted_without here removed.0 (contents_of c.loop-one.document) (contents_of c.remove.new.document) removed.1 (c.loop-one.invariant.ordered s);
      recorded = λ k u. c.in_ok-remove.ensures.undone k (c.loop-one.invariant.recorded k u);
    }
