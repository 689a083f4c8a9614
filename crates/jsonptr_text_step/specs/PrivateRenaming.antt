-- Words of private clauses: the parts of renaming a member in a text.
use Rattle.std.specs.Prelude.{◌≡◌, List, [], ◌∷◌, ◌++◌, Some, None, ⊤}
use Rattle.serde_json.specs.Data.{Data, string}
use Rattle.serde_json.specs.Read.{read}
use Rattle.jsonptr.specs.Text.{Text}
use Rattle.jsonptr.specs.Node.{key, Path, an_object, NodeMap, Names}
use Rattle.jsonptr.specs.Json.{nodes}
use Rattle.jsonptr_text_check.specs.Child.{IsValueText}
use Rattle.jsonptr_text_step.specs.Renaming.{IsMember, RefusesRename}
use Rattle.jsonptr_text_step.specs.declared.stepped.StepError.{StepError}
use Rattle.jsonptr_text_step.specs.declared.stepped.StepError.TheVariants.{NotJson, Refused, TooDeep, Memory}
use Rattle.jsonptr_text_step.specs.declared.rename.RenameError.{RenameError}

-- `IsThere n tokens`: `tokens` name a path of `n`
abbrev pub IsThere : NodeMap → List Text → Type 0
IsThere n tokens = (w : Path) × Names n tokens w

-- `IsObjectAt n tokens`: they name the path of an object
abbrev pub IsObjectAt : NodeMap → List Text → Type 0
IsObjectAt n tokens = (w : Path) × Names n tokens w × (n w ≡ Some an_object)

-- `IsMemberOf n tokens front x`: `tokens` identify the member with the key `x` of the object at `front`
abbrev pub IsMemberOf : NodeMap → List Text → List Text → Text → Type 0
IsMemberOf n tokens front x = (member : IsMember n tokens) × (member.front ≡ front) × (member.x ≡ x)

-- `IsMemberInText text tokens`: they do so in the document of a text
abbrev pub IsMemberInText : Text → List Text → Type 0
IsMemberInText text tokens = (d : Data) × (read text ≡ Some d) × IsMember (nodes d) tokens

-- `IsTarget n tokens k target`: the member at `tokens` can get the key `k`, and then `target` identify it
pub record IsTarget (n : NodeMap) (tokens : List Text) (k : Text) (target : List Text) : Type 0 where
  pub member : IsMember n tokens
  pub target_is : target ≡ member.front ++ k ∷ []
  pub free : (k ≡ member.x → ⊥) → n (member.path ++ key k ∷ []) ≡ None

-- `IsTargetError n tokens k e`: `e` is why it cannot, unless an allocation failed
abbrev pub IsTargetError : NodeMap → List Text → Text → StepError RenameError → Type 0
IsTargetError n tokens k NotJson = ⊥
IsTargetError n tokens k (Refused e) = RefusesRename n tokens k e
IsTargetError n tokens k TooDeep = ⊥
IsTargetError n tokens k (Memory e) = ⊤

-- `IsNamedAnew k before after new`: `new` is a text of the string `k` between `before` and `after`
abbrev pub IsNamedAnew : Text → Text → Text → Text → Type 0
IsNamedAnew k before after new = (name : Text) × IsValueText (string k) name × (new ≡ before ++ (name ++ after))
