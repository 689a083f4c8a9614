use Rattle.std.proofs.Common.{[], refl, string_bytes}
use Rattle.toml.specs.View.{view}
use Rattle.toml_parser.specs.Reading.{path_view}
use Rattle.jsonptr_toml_edit.proofs.pair.is_some_pair.Goals as goal

pub returns-in-Ok : goal.returns-in-Ok
returns-in-Ok c =
    let last = string_bytes c.in-Some._key.last in
    let read = rw c.in-Some.is at c.in_ok-_key.ensures in
    λ holds. (last, view c.in-Ok._value, ([], path_view c.in-Some._key.path.items, last, c.in-Some.rest.now, refl, read, c.in-Ok.ensures.ok))
