-- What a document is checked for.
use Rattle.std.specs.Prelude.{◌≡◌, ◌⊎◌, List, [], ◌∷◌}
use Rattle.serde_json.specs.Data.{Data}
use Rattle.jsonptr.specs.Json.{FindsValue}
use Rattle.jsonptr.specs.Pointer.{tokens}
use Rattle.jsonptr_value.specs.NodeTypes.{type_of}
use Rattle.jsonptr_uses.specs.declared.checker.Required.{Required}

-- `IsMet document r`: the document meets the requirement `r`. The pointer resolves to a value of the type
abbrev pub IsMet : Data → Required → Type 0
IsMet document r = (v : Data) × FindsValue document (tokens r.pointer) v × (type_of v ≡ r.kind)

-- `AreFailing P xs ys`: `ys` are those of `xs` for which `P` does not hold, in order
abbrev pub AreFailing : {X : Type 0} → (X → Type 0) → List X → List X → Type 0
AreFailing P [] ys = ys ≡ []
AreFailing P (x ∷ xs) ys =
    (P x × AreFailing P xs ys)
    ⊎ ((P x → ⊥) × ((zs : List _) × (ys ≡ x ∷ zs) × AreFailing P xs zs))
