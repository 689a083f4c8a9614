use Rattle.jsonptr.specs.Pointer.{tokens}
use Rattle.jsonptr_patch_journal.specs.Location.{contents_of}
use Rattle.jsonptr_patch.proofs.PlaceLemmas.{place_allows, place_adds, place_sorted}
use Rattle.jsonptr_patch.proofs.add.add.Goals as goal

pub add-requires : goal.add-requires
add-requires c = place_allows (contents_of c.args.document.now) (tokens c.args.path) c.in-Ok.target c.in-Ok.ensures.found

pub returns-clause-added : goal.returns-clause-added
returns-clause-added c = place_adds (contents_of c.args.document.now) (contents_of c.args.value) (contents_of c.add.new.document) (tokens c.args.path) c.in-Ok.target c.in-Ok.ensures.found c.in_ok-add.ensures.added

pub returns-clause-sorted : goal.returns-clause-sorted
returns-clause-sorted c = place_sorted (contents_of c.args.document.now) (contents_of c.args.value) (contents_of c.add.new.document) c.in-Ok.target c.in_ok-add.ensures.added
