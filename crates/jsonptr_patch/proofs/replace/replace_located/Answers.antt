use Rattle.jsonptr.specs.Pointer.{tokens}
use Rattle.jsonptr_patch_journal.specs.Location.{path_of, contents_of}
use Rattle.jsonptr_patch.proofs.PlaceLemmas.{named_there}
use Rattle.jsonptr_patch.proofs.ChangeMapLemmas.{puts_value}
use Rattle.jsonptr_patch.proofs.ChangeOrderLemmas.{sorted_with_value}
use Rattle.jsonptr_patch.proofs.replace.replace_located.Goals as goal

pub replace-requires : goal.replace-requires
replace-requires c = named_there (contents_of c.args.document.now) (tokens c.args.path) (path_of c.in-Ok.location) c.in-Ok.ensures.found

pub returns-clause-replaced : goal.returns-clause-replaced
returns-clause-replaced c = puts_value (path_of c.in-Ok.location) (contents_of c.args.value) (contents_of c.args.document.now) (contents_of c.replace.new.document) (tokens c.args.path) c.in_ok-replace.ensures.replaced c.in-Ok.ensures.found

pub returns-clause-sorted : goal.returns-clause-sorted
returns-clause-sorted c = sorted_with_value (path_of c.in-Ok.location) (contents_of c.args.value) (contents_of c.args.document.now) (contents_of c.replace.new.document) c.in_ok-replace.ensures.replaced
