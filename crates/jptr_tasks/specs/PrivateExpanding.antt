-- Why the parent of a pointer does not resolve. Used only by private contracts.
use Rattle.std.specs.Prelude.{◌≡◌, List, None, ⊤}
use Rattle.serde_json.specs.Read.{read}
use Rattle.jsonptr.specs.Text.{Text}
use Rattle.jsonptr_text_resolve.specs.InText.{RefusesInText}
use Rattle.jptr_tasks.specs.declared.expansion.ExpansionError.{ExpansionError}
use Rattle.jptr_tasks.specs.declared.expansion.ExpansionError.TheVariants.{NotJson, NoParent, Scalar, Memory}

-- `IsParentError text front e`: `e` is why the tokens `front` identify no value in the document of `text`, unless an allocation
-- failed
abbrev pub IsParentError : Text → List Text → ExpansionError → Type 0
IsParentError text front NotJson = read text ≡ None
IsParentError text front (NoParent f) = RefusesInText text front f
IsParentError text front (Scalar t) = ⊥
IsParentError text front (Memory f) = ⊤
