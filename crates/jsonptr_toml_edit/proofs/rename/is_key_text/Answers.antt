use Rattle.std.proofs.Common.{◌≡◌, [], string_bytes, refl}
use Rattle.toml_parser.specs.Reading.{path_view}
use Rattle.jsonptr_toml_edit.proofs.NameLemmas.{no_text, no_part, one_key}
use Rattle.jsonptr_toml_edit.proofs.SameLemmas.{equal_texts}
use Rattle.jsonptr_toml_edit.proofs.rename.is_key_text.Goals as goal

pub returns : goal.returns
returns c = λ ends.
    let key = c.in-Ok.read.0 in
    let rest = c.in-Ok.read.1.now in
    let none : path_view key.path.items ≡ [] = no_part key.path c.if-not-is_empty.ensures in
    let over : rest ≡ [] = no_text rest c.if-not-is_empty-2.ensures in
    let same = equal_texts c.as_str.result.now c.args.key.now (string_bytes key.last) c.args.key.now c.ne.result c.as_str.ensures.value refl c.ne.ensures c.if-ne.false in (
      one_key c.args.text.now rest c.args.key.now (string_bytes key.last) (path_view key.path.items) c.in-Ok.ensures.value none over same,
      c.ends_in_no_space.ensures ends,
    )
