-- Words of private clauses: a document that is printed anew.
use Rattle.std.specs.Prelude.{◌≡◌, ◌⊎◌, ◌<◌, List, ◌++◌, length, ⊤}
use Rattle.serde_json.specs.Data.{Data, depth}
use Rattle.serde_json.specs.Read.{max_depth}
use Rattle.jsonptr.specs.Text.{Text}
use Rattle.jsonptr_text_step.specs.declared.stepped.StepError.{StepError}
use Rattle.jsonptr_text_step.specs.declared.stepped.StepError.TheVariants.{NotJson, Refused, TooDeep, Memory}

-- `IsShortened tokens front`: `front` are the tokens, or the first 128 of more
abbrev pub IsShortened : List Text → List Text → Type 0
IsShortened tokens front =
    (front ≡ tokens)
    ⊎ ((rest : List Text) × (tokens ≡ front ++ rest) × (max_depth < length front))

-- `IsPrintError d e`: `e` is why the document `d` is not printed, unless an allocation failed
abbrev pub IsPrintError : {E : Type 0} → Data → StepError E → Type 0
IsPrintError d NotJson = ⊥
IsPrintError d (Refused e) = ⊥
IsPrintError d TooDeep = max_depth < depth d
IsPrintError d (Memory e) = ⊤
