use Rattle.jsonptr.specs.Pointer.{tokens}
use Rattle.jsonptr_patch_journal.specs.Location.{contents_of}
use Rattle.jsonptr_patch.proofs.PlaceLemmas.{place_allows, place_adds, place_sorted}
use Rattle.jsonptr_patch.proofs.move_value.add_taken_last.Goals as goal

pub add_last-requires : goal.add_last-requires
add_last-requires c = place_allows (contents_of c.args.document.now) (tokens c.args.path) c.in-Ok.target c.in-Ok.ensures.found

pub returns-in_ok-add_last-in-Ok-clause-added : goal.returns-in_ok-add_last-in-Ok-clause-added
returns-in_ok-add_last-in-Ok-clause-added c = place_adds (contents_of c.args.document.now) (contents_of c.args.value) (contents_of c.add_last.new.document) (tokens c.args.path) c.in-Ok.target c.in-Ok.ensures.found c.in_ok-add_last-in-Ok.ensures.added

pub returns-in_ok-add_last-in-Ok-clause-sorted : goal.returns-in_ok-add_last-in-Ok-clause-sorted
returns-in_ok-add_last-in-Ok-clause-sorted c = place_sorted (contents_of c.args.document.now) (contents_of c.args.value) (contents_of c.add_last.new.document) c.in-Ok.target c.in_ok-add_last-in-Ok.ensures.added
