use Rattle.jsonptr.specs.Content.{map_of}
use Rattle.jsonptr_patch_journal.specs.Location.{path_of, contents_of}
use Rattle.jsonptr_patch.proofs.ChangeMapLemmas.{takes_node}
use Rattle.jsonptr_patch.proofs.ChangeOrderLemmas.{sorted_without}
use Rattle.jsonptr_patch.proofs.PlaceLemmas.{named_there}
use Rattle.jsonptr_patch.proofs.later.unlink_one.Goals as goal

pub remove_last-requires : goal.remove_last-requires
remove_last-requires c =
    let named = rw c.in-Some.is at c.requires in
    named_there (contents_of c.args.document.now) c.args.one.path (path_of c.in-Some.location) named

pub returns-in-Some-clause-removed : goal.returns-in-Some-clause-removed
returns-in-Some-clause-removed c =
    let named = rw c.in-Some.is at c.requires in
    (map_of (contents_of c.remove_last.result), takes_node (path_of c.in-Some.location) (contents_of c.remove_last.result) (contents_of c.args.document.now) (contents_of c.remove_last.new.document) c.args.one.path c.remove_last.ensures named)

pub returns-in-Some-clause-sorted : goal.returns-in-Some-clause-sorted
returns-in-Some-clause-sorted c = λ s. sorted_without (path_of c.in-Some.location) (contents_of c.remove_last.result) (contents_of c.args.document.now) (contents_of c.remove_last.new.document) c.remove_last.ensures s
