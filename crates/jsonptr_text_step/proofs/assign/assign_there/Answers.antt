use Rattle.std.proofs.Common.{string_bytes}
use Rattle.jsonptr.specs.Pointer.{tokens}
use Rattle.jsonptr.specs.Json.{nodes}
use Rattle.jsonptr_text_value.specs.Raw.{value_of_raw}
use Rattle.jsonptr_text_step.specs.Steps.{ReplacesByText}
use Rattle.jsonptr_text_step.specs.EditInText.{AssignsInText}
use Rattle.jsonptr_text_step.specs.PrivateGiving.{ReplacesWith}
use Rattle.jsonptr_text_step.specs.PrivateReaching.{ReachedInText, Becomes}
use Rattle.jsonptr_text_step.proofs.EditLemmas.{if_new, of_value}
use Rattle.jsonptr_text_step.proofs.BytesLemmas.{replaces_with}
use Rattle.jsonptr_text_value.proofs.WrappingLemmas.{raw_reads}
use Rattle.jsonptr_text_step.proofs.assign.assign_there.Goals as goal

pub returns-clause-assigned : goal.returns-clause-assigned
returns-clause-assigned c =
    let raw = c.args.raw.now in
    let flat = string_bytes raw.printed.flat in
    if_new c.replace.result
    (λ s. ReachedInText c.args.site.now.text.now (string_bytes s.text) (tokens c.args.site.now.pointer) (Becomes flat))
    (λ s. AssignsInText c.args.site.now.text.now (tokens c.args.site.now.pointer) (nodes (value_of_raw raw)) (string_bytes s.text))
    (λ s h. of_value c.args.site.now.text.now (string_bytes s.text) (tokens c.args.site.now.pointer) flat (value_of_raw raw) (raw_reads raw) h)
    c.replace.ensures.reached

pub returns-clause-bytes : goal.returns-clause-bytes
returns-clause-bytes c =
    let raw = c.args.raw.now in
    let old = c.args.site.now.text.now in
    let ts = tokens c.args.site.now.pointer in
    if_new c.replace.result
    (λ s. ReplacesByText old (string_bytes s.text) ts (string_bytes raw.printed.flat))
    (λ s. ReplacesWith raw old (string_bytes s.text) ts)
    (λ s h. replaces_with old (string_bytes s.text) ts raw h)
    c.replace.ensures.bytes
