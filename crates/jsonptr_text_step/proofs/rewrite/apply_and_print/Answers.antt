use Rattle.serde_json.specs.View.{view}
use Rattle.jsonptr_text_step.proofs.RewritingLemmas.{patched_then, patch_fails_then}
use Rattle.jsonptr_text_step.proofs.rewrite.apply_and_print.Goals as goal

pub returns-in-Ok-clause-applied : goal.returns-in-Ok-clause-applied
returns-in-Ok-clause-applied c =
    patched_then c.args.text.now c.args.operations.items (view c.in_ok-document.document) (view c.apply_naming_pointer.new.document) c.print_document.result
    c.in_ok-document.ensures.value c.in-Ok.ensures.applied c.print_document.ensures.printed

pub returns-in-Ok-clause-refused : goal.returns-in-Ok-clause-refused
returns-in-Ok-clause-refused c =
    patch_fails_then c.args.text.now c.args.operations.items (view c.in_ok-document.document) (view c.apply_naming_pointer.new.document) c.print_document.result
    c.in_ok-document.ensures.value c.in-Ok.ensures.applied
    (λ s. c.in-Ok.ensures.sorted s c.in_ok-document.ensures.sorted)
    c.print_document.ensures.refused
