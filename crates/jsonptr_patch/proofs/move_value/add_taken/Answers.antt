use Rattle.jsonptr.specs.Pointer.{tokens}
use Rattle.jsonptr_patch_journal.specs.Location.{contents_of}
use Rattle.jsonptr_patch.proofs.PlaceLemmas.{place_allows, place_adds, place_sorted}
use Rattle.jsonptr_patch.proofs.move_value.add_taken.Goals as goal

pub add-requires : goal.add-requires
add-requires c = place_allows (contents_of c.args.document.now) (tokens c.args.path) c.in-Ok.target c.in-Ok.ensures.found

pub returns-in_ok-add-in-Ok-clause-added : goal.returns-in_ok-add-in-Ok-clause-added
returns-in_ok-add-in-Ok-clause-added c = place_adds (contents_of c.args.document.now) (contents_of c.args.value) (contents_of c.add.new.document) (tokens c.args.path) c.in-Ok.target c.in-Ok.ensures.found c.in_ok-add-in-Ok.ensures.added

pub returns-in_ok-add-in-Ok-clause-sorted : goal.returns-in_ok-add-in-Ok-clause-sorted
returns-in_ok-add-in-Ok-clause-sorted c = place_sorted (contents_of c.args.document.now) (contents_of c.args.value) (contents_of c.add.new.document) c.in-Ok.target c.in_ok-add-in-Ok.ensures.added
