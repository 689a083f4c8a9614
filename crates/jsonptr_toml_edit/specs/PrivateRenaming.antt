-- Words of private clauses: the parts of renaming a member in a TOML text.
use Rattle.std.specs.Prelude.{List, ⊤}
use Rattle.jsonptr.specs.Text.{Text}
use Rattle.jsonptr.specs.Node.{NodeMap}
use Rattle.jsonptr_toml.specs.declared.error.EditTomlError.{EditTomlError}
use Rattle.jsonptr_toml.specs.declared.error.EditTomlError.TheVariants.{NotToml, DocumentTooDeep, Refused, TooDeep, NoText, Memory}
use Rattle.jsonptr_text_step.specs.Renaming.{RefusesRename}
use Rattle.jsonptr_text_step.specs.declared.rename.RenameError.{RenameError}

-- `IsTargetError n ts k e`: `e` is why the member at the tokens in `n` does not get the key `k`, unless an allocation failed
abbrev pub IsTargetError : NodeMap → List Text → Text → EditTomlError RenameError → Type 0
IsTargetError n ts k NotToml = ⊥
IsTargetError n ts k DocumentTooDeep = ⊥
IsTargetError n ts k (Refused e) = RefusesRename n ts k e
IsTargetError n ts k TooDeep = ⊥
IsTargetError n ts k NoText = ⊥
IsTargetError n ts k (Memory f) = ⊤
