use Rattle.std.proofs.Common.{ap, string_bytes, ◌∙◌}
use Rattle.jsonptr_c_calls.specs.declared.open_text.OpenText.{OpenText}
use Rattle.jsonptr_c_calls.proofs.text_calls.open.Goals as goal

pub returns-clause-opened : goal.returns-clause-opened
returns-clause-opened c =
    let same = c.in-Ok.ensures.ok in (
      c.in-Ok.opened.value,
      c.put.ensures,
      (ap (λ (t : OpenText). string_bytes t.text) same ∙ c.in_ok-open.ensures.text, ap (λ (t : OpenText). t.format) same ∙ c.in_ok-open.ensures.format),
    )
