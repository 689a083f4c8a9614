-- Words of private clauses: what an assignment puts into a text, with the tokens of the text of its value.
use Rattle.std.specs.Prelude.{◌≡◌, List, string_bytes}
use Rattle.json.specs.Lex.{tokens as lexed}
use Rattle.jsonptr.specs.Text.{Text}
use Rattle.jsonptr_text_step.specs.Bytes.{ReplacesBytes, ExpandsBytes, AddsExpandedBytes, child_text}
use Rattle.jsonptr_text_value.specs.Raw.{value_of_raw}
use Rattle.jsonptr_text_value.specs.Wrapping.{wrapped}
use Rattle.jsonptr_text_value.specs.declared.raw_value.RawValue.{RawValue}

-- `ReplacesWith raw old new tokens`: the value that `tokens` identify is replaced by that of `raw`
abbrev pub ReplacesWith : RawValue → Text → Text → List Text → Type 0
ReplacesWith raw old new tokens =
    (b : ReplacesBytes old new tokens (value_of_raw raw)) × (lexed b.piece ≡ lexed (string_bytes raw.printed.flat))

-- `ExpandsWith raw old new front more`: a scalar is replaced by the value of `raw`, expanded by `more`
abbrev pub ExpandsWith : RawValue → Text → Text → List Text → List Text → Type 0
ExpandsWith raw old new front more =
    (b : ExpandsBytes old new front more (value_of_raw raw))
    × (lexed b.replaces.piece ≡ wrapped more (lexed (string_bytes raw.printed.flat)))

-- `AddsWith raw old new front x rest`: a child is added with the value of `raw`, expanded by `rest`
abbrev pub AddsWith : RawValue → Text → Text → List Text → Text → List Text → Type 0
AddsWith raw old new front x rest =
    (b : AddsExpandedBytes old new front x rest (value_of_raw raw))
    × (lexed (child_text old new front x b.0 b.2) ≡ wrapped rest (lexed (string_bytes raw.printed.flat)))
