-- Whether an assignment creates containers.
use Rattle.std.specs.Prelude.{◌≡◌, ◌⊎◌, List, [], ◌∷◌, ◌++◌, None, ⊤}
use Rattle.serde_json.specs.Read.{read}
use Rattle.jsonptr.specs.Text.{Text}
use Rattle.jsonptr_text_resolve.specs.InText.{RefusesInText}
use Rattle.jsonptr_text_resolve.specs.declared.resolve.InTextError.{InTextError}
use Rattle.jsonptr_text_resolve.specs.declared.resolve.InTextError.TheVariants as in_text
use Rattle.jsonptr_value.specs.declared.types.NodeType.{NodeType}
use Rattle.jsonptr_value.specs.declared.types.NodeType.TheVariants as variant
use Rattle.jptr_tasks.specs.Nodes.{HasType}
use Rattle.jptr_tasks.specs.declared.expansion.ExpansionError.{ExpansionError}
use Rattle.jptr_tasks.specs.declared.expansion.ExpansionError.TheVariants.{NotJson, NoParent, Scalar, Memory}

-- `IsContainerType t`: the type `t` is that of an array or an object
abbrev pub IsContainerType : NodeType → Type 0
IsContainerType variant.Null = ⊥
IsContainerType variant.Boolean = ⊥
IsContainerType variant.Number = ⊥
IsContainerType variant.String = ⊥
IsContainerType variant.Array = ⊤
IsContainerType variant.Object = ⊤

-- `IsParent front ts`: `front` are all of the tokens `ts` but the last one
abbrev pub IsParent : List Text → List Text → Type 0
IsParent front ts = (last : Text) × (ts ≡ front ++ last ∷ [])

-- `HasParent text ts`: `ts` are no tokens, or all but the last of them identify an array or an object in the document of `text`
abbrev pub HasParent : Text → List Text → Type 0
HasParent text ts =
    (ts ≡ []) ⊎ ((front : List Text) × (t : NodeType) × IsParent front ts × HasType text front t × IsContainerType t)

-- `IsExpansionError text ts e`: `e` is why an assignment at `ts` would create a container in the document of `text`, or replace a
-- scalar by one, unless an allocation failed. All but the last of the tokens identify a scalar, or nothing
abbrev pub IsExpansionError : Text → List Text → ExpansionError → Type 0
IsExpansionError text ts NotJson = (front : List Text) × IsParent front ts × (read text ≡ None)
IsExpansionError text ts (NoParent f) = (front : List Text) × IsParent front ts × RefusesInText text front f
IsExpansionError text ts (Scalar t) =
    (front : List Text) × IsParent front ts × HasType text front t × (IsContainerType t → ⊥)
IsExpansionError text ts (Memory f) = ⊤

-- `of_parent_error e`: the error of a parent that does not resolve because of `e`
abbrev pub of_parent_error : InTextError → ExpansionError
of_parent_error in_text.NotJson = NotJson
of_parent_error (in_text.Resolve f) = NoParent f
of_parent_error (in_text.Memory f) = Memory f

-- `IsOutOfMemory e`: `e` says that an allocation failed
abbrev pub IsOutOfMemory : ExpansionError → Type 0
IsOutOfMemory (Memory f) = ⊤
IsOutOfMemory e = ⊥
