use Rattle.serde_json.specs.View.{view}
use Rattle.jsonptr.specs.Pointer.{tokens}
use Rattle.jsonptr_tree.proofs.JsonLemmas.{content_one}
use Rattle.jsonptr_patch_journal.specs.Location.{contents_of}
use Rattle.jsonptr_patch.proofs.PlaceLemmas.{place_allows, place_adds, place_sorted}
use Rattle.jsonptr_patch.proofs.add.add_last.Goals as goal

pub add_last-requires : goal.add_last-requires
add_last-requires c = place_allows (contents_of c.args.document.now) (tokens c.args.path) c.in-Ok.target c.in-Ok.ensures.found

pub returns-in-Ok-add_last-clause-added : goal.returns-in-Ok-add_last-clause-added
returns-in-Ok-add_last-clause-added c = place_adds (contents_of c.args.document.now) (contents_of c.args.value) (contents_of c.add_last.new.document) (tokens c.args.path) c.in-Ok.target c.in-Ok.ensures.found c.in-Ok-add_last.ensures.added

pub returns-in-Ok-add_last-clause-sorted : goal.returns-in-Ok-add_last-clause-sorted
returns-in-Ok-add_last-clause-sorted c = place_sorted (contents_of c.args.document.now) (contents_of c.args.value) (contents_of c.add_last.new.document) c.in-Ok.target c.in-Ok-add_last.ensures.added

pub returns-in-Err-add_last-clause-unchanged : goal.returns-in-Err-add_last-clause-unchanged
returns-in-Err-add_last-clause-unchanged c = content_one (view c.add_last.new.document) (view c.args.document.now) c.in-Err-add_last.ensures.unchanged
