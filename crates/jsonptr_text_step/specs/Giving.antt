-- The tokens of a value that an assignment puts into a text.
use Rattle.std.specs.Prelude.{◌≡◌, List, ◌∷◌, ◌⊎◌, string_bytes}
use mathlib.Core.Logic.{inl, inr}
use Rattle.json.specs.Lex.{tokens as lexed}
use Rattle.json.specs.Token.{Token}
use Rattle.jsonptr.specs.Text.{Text}
use Rattle.serde_json.specs.Data.{Data}
use Rattle.jsonptr_text_step.specs.Bytes.{ExpandsBytes, AddsExpandedBytes, child_text, AssignsBytes}
use Rattle.jsonptr_text_value.specs.Raw.{value_of_raw}
use Rattle.jsonptr_text_value.specs.Wrapping.{wrapped}
use Rattle.jsonptr_text_value.specs.declared.raw_value.RawValue.{RawValue}

-- `PutsExpanded ts old new front x rest v b`: what the edit `b` puts into the text has the JSON tokens `ts`, in the arrays and
-- objects that path expansion makes
abbrev pub PutsExpanded : (ts : List Token) (old new : Text) (front : List Text) (x : Text) (rest : List Text) (v : Data)
    → ExpandsBytes old new front (x ∷ rest) v ⊎ AddsExpandedBytes old new front x rest v → Type 0
PutsExpanded ts old new front x rest v (inl b) = lexed b.replaces.piece ≡ wrapped (x ∷ rest) ts
PutsExpanded ts old new front x rest v (inr b) = lexed (child_text old new front x b.0 b.2) ≡ wrapped rest ts

-- `Puts ts old tokens v new b`: what the edit `b` puts into the text has the JSON tokens `ts`, one for one. If `tokens` led
-- nowhere, they are in the arrays and objects that path expansion makes
abbrev pub Puts : (ts : List Token) (old : Text) (tokens : List Text) (v : Data) (new : Text) → AssignsBytes old tokens v new → Type 0
Puts ts old tokens v new (inl b) = lexed b.piece ≡ ts
Puts ts old tokens v new (inr b) = PutsExpanded ts old new b.0 b.1 b.2 v b.4

-- `AssignsGiven old tokens raw new`: which bytes of the text `old` an assignment of the value of `raw` changes. What it puts
-- there has the JSON tokens of the text of `raw`
abbrev pub AssignsGiven : Text → List Text → RawValue → Text → Type 0
AssignsGiven old tokens raw new =
    (b : AssignsBytes old tokens (value_of_raw raw) new)
    × Puts (lexed (string_bytes raw.printed.flat)) old tokens (value_of_raw raw) new b
