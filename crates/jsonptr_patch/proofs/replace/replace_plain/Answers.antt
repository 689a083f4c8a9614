use Rattle.jsonptr_patch_journal.specs.Location.{contents_of}
use Rattle.jsonptr_patch.proofs.ReplacingLemmas.{named_puts, named_sorted}
use Rattle.jsonptr_patch.proofs.replace.replace_plain.Goals as goal

pub returns-in-Ok-clause-replaced : goal.returns-in-Ok-clause-replaced
returns-in-Ok-clause-replaced c = named_puts c.args.path (contents_of c.in-Ok.old) (contents_of c.args.value) (contents_of c.args.document.now) (contents_of c.replace_at.new.document) c.in-Ok.ensures.replaced

pub returns-in-Ok-clause-sorted : goal.returns-in-Ok-clause-sorted
returns-in-Ok-clause-sorted c = named_sorted c.args.path (contents_of c.in-Ok.old) (contents_of c.args.value) (contents_of c.args.document.now) (contents_of c.replace_at.new.document) c.in-Ok.ensures.replaced
