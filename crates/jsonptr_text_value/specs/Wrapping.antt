-- The tokens of a value that is expanded by the tokens of a pointer.
use Rattle.std.specs.Prelude.{◌≡◌, List, [], ◌∷◌, ◌++◌, Some, if◌then◌else◌, string_bytes}
use Rattle.json.specs.Token.{Token}
use Rattle.serde_json.specs.Data.{Data}
use Rattle.serde_json.specs.Read.{read}
use Rattle.jsonptr.specs.Text.{Text}
use Rattle.jsonptr.specs.Node.{NodeMap}
use Rattle.jsonptr.specs.Expansion.{is_append_index, expanded}
use Rattle.jsonptr.specs.Json.{nodes}
use Rattle.jsonptr_text_layout.specs.declared.value_text.ValueText.{ValueText}

-- `wrapped xs ts` are the tokens `ts`, expanded by the tokens `xs` of a pointer
abbrev pub wrapped : List Text → List Token → List Token
wrapped [] ts = ts
wrapped (x ∷ xs) ts =
    if is_append_index 0 x
    then Token.begin_array ∷ (wrapped xs ts ++ Token.end_array ∷ [])
    else Token.begin_object ∷ Token.key x ∷ (wrapped xs ts ++ Token.end_object ∷ [])

-- `IsExpanded tokens v t`: the text `t` is that of `v`, expanded by `tokens`
abbrev pub IsExpanded : List Text → NodeMap → ValueText → Type 0
IsExpanded tokens v t = (e : Data) × (read (string_bytes t.flat) ≡ Some e) × (nodes e ≡ expanded tokens v)
