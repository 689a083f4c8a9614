use Rattle.std.proofs.Common.{string_bytes, sym, ap, ◌∙◌}
use Rattle.serde_json.specs.Read.{read}
use Rattle.jsonptr_text_value.proofs.WrappingLemmas.{read_same}
use Rattle.jsonptr_text_value.proofs.raw.lay_out.Goals as goal

pub returns-in-Ok-clause-reads : goal.returns-in-Ok-clause-reads
returns-in-Ok-clause-reads c =
    let f = c.in-Ok.ensures.formatted in
    (f.document, read_same (string_bytes c.in_ok-own-in-Ok.own.flat) (string_bytes c.args.flat) c.in_ok-own-in-Ok.ensures ∙ ap read (sym c.as_str.ensures.value) ∙ f.from)
