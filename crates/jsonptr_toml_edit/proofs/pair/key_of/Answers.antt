use Rattle.std.proofs.Common.{◌≡◌, sym, ◌∙◌}
use Rattle.toml_parser.specs.Lexical.{first}
use Rattle.toml_parser.specs.Reading.{key_view}
use Rattle.jsonptr_toml_edit.proofs.PairLemmas.{equals_after}
use Rattle.jsonptr_toml_edit.proofs.pair.key_of.Goals as goal

pub returns : goal.returns
returns c =
    let rest = c.in-Ok.read.1.now in
    let sign : first rest ≡ 61 = sym c.first.ensures ∙ c.if-first-ne61.false in
    rw (c.skip_ws.ensures.rest, c.skip.ensures.rest) (equals_after c.args.text.now rest (key_view c.in-Ok.read.0) c.in-Ok.ensures.value sign)
