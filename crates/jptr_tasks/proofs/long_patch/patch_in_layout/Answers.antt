use Rattle.std.proofs.Common.{refl, string_bytes}
use Rattle.serde_json.specs.View.{view}
use Rattle.jptr_tasks.proofs.LongPatchLemmas.{long_patched}
use Rattle.jptr_tasks.proofs.ResultLemmas.{patch_fails}
use Rattle.jptr_tasks.proofs.long_patch.patch_in_layout.Goals as goal

pub returns-in-Ok-clause-applied : goal.returns-in-Ok-clause-applied
returns-in-Ok-clause-applied c =
    let p = c.args.patch in
    long_patched c.args.text.now (view p.document) p.operations.items c.args.layout (string_bytes c.in-Ok.new) p.is_patch c.in-Ok.ensures.applied

pub returns-in-Err-clause-refused : goal.returns-in-Err-clause-refused
returns-in-Err-clause-refused c =
    let p = c.args.patch in
    (refl, patch_fails c.args.text.now (view p.document) p.operations.items c.args.layout c.in-Err.error p.is_patch c.in-Err.ensures.refused)
