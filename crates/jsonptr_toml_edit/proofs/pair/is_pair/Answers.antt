use Rattle.std.proofs.Common.{string_bytes, ◌∙◌}
use Rattle.toml.specs.View.{view}
use Rattle.toml_parser.specs.Reading.{path_view}
use Rattle.jsonptr.specs.Pointer.{tokens}
use Rattle.jsonptr_toml_edit.proofs.PairLemmas.{pair_if}
use Rattle.jsonptr_toml_edit.proofs.SameLemmas.{equal_texts}
use Rattle.jsonptr_toml_edit.proofs.pair.is_pair.Goals as goal

pub returns : goal.returns
returns c =
    let key = c.in-Some-2.key in
    let read = rw c.in-Some-2.is at c.in_ok-key.ensures in
    let same = equal_texts c.as_str.result.now c.as_str-2.result.now _ _ c.ne.result c.as_str.ensures.value (c.as_str-2.ensures.value ∙ c.in_ok-token.ensures.text) c.ne.ensures c.if-ne.false in
    pair_if c.args.text.now c.in-Some-2.rest.now (tokens c.args.pointer) (tokens c.in-Some._front) (path_view key.path.items) c.in-Some.last (string_bytes key.last) (view c.args.value.now) c.is_text_of.result c.in-Some.ensures read same c.is_text_of.ensures
