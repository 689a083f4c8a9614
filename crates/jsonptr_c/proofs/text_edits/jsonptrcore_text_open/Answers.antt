use Rattle.std.proofs.Common.{◌≡◌, string_bytes, subst}
use Rattle.jsonptr_c_calls.specs.OpenTexts.{IsNotOpened}
use Rattle.jsonptr_c_calls.specs.TextHandle.{HoldsTextWith}
use Rattle.jsonptr_c_calls.specs.declared.text_format.TextFormat.{TextFormat}
use Rattle.jsonptr_c.proofs.text_edits.jsonptrcore_text_open.Goals as goal

pub returns-in-Ok-clause-opened : goal.returns-in-Ok-clause-opened
returns-in-Ok-clause-opened c = λ ok.
    subst (λ (f : TextFormat). HoldsTextWith c.open.new.text (λ t. (string_bytes t.text ≡ c.args.bytes.now) × (t.format ≡ f)))
    c.text_format_of.ensures c.in-Ok.ensures.opened

pub returns-in-Err-clause-refused : goal.returns-in-Err-clause-refused
returns-in-Err-clause-refused c = λ failed. (
  c.in-Err.call_error,
  c.fail.ensures.reported,
  subst (λ (f : TextFormat). IsNotOpened f c.args.bytes.now c.in-Err.call_error) c.text_format_of.ensures c.in-Err.ensures.refused,
)
