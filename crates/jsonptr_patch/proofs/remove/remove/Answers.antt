use Rattle.jsonptr.specs.Pointer.{tokens}
use Rattle.jsonptr.specs.Content.{map_of}
use Rattle.jsonptr_patch_journal.specs.Location.{path_of, contents_of}
use Rattle.jsonptr_patch.proofs.PlaceLemmas.{named_there}
use Rattle.jsonptr_patch.proofs.ChangeMapLemmas.{takes_node}
use Rattle.jsonptr_patch.proofs.ChangeOrderLemmas.{sorted_without}
use Rattle.jsonptr_patch.proofs.remove.remove.Goals as goal

pub remove-requires-clause-there : goal.remove-requires-clause-there
remove-requires-clause-there c = named_there (contents_of c.args.document.now) (tokens c.args.path) (path_of c.in_ok-location.location) c.in_ok-location.ensures.found

pub returns-clause-removed : goal.returns-clause-removed
returns-clause-removed c =
    let taken = c.in_ok-remove.ensures.removed in
    (map_of taken.0, takes_node (path_of c.in_ok-location.location) taken.0 (contents_of c.args.document.now) (contents_of c.remove.new.document) (tokens c.args.path) taken.1 c.in_ok-location.ensures.found)

pub returns-clause-sorted : goal.returns-clause-sorted
returns-clause-sorted c =
    let taken = c.in_ok-remove.ensures.removed in
    sorted_without (path_of c.in_ok-location.location) taken.0 (contents_of c.args.document.now) (contents_of c.remove.new.document) taken.1
