use Rattle.serde_json.specs.View.{view}
use Rattle.jsonptr_c_calls.proofs.NestingLemmas.{patch_parsed}
use Rattle.jsonptr_c_calls.proofs.patches.read_patch_text.Goals as goal

pub returns-in-Ok-clause-parsed : goal.returns-in-Ok-clause-parsed
returns-in-Ok-clause-parsed c =
    let document = view c.in_ok-read.field-0 in
    patch_parsed c.args.text.now document c.in-Ok.patch.items c.in_ok-read.ensures.read c.in-Ok.ensures.patch
    (c.patch_document_law.ensures.sorted document c.in-Ok.patch.items c.in_ok-read.ensures.parsed.0 c.in-Ok.ensures.patch)
