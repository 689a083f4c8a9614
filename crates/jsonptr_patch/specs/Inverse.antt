-- What takes an operation back: the operations that turn the document after it into the one before it.
use Rattle.std.specs.Prelude.{◌≡◌, ℕ, ◌⊎◌, List, [], ◌∷◌, ◌++◌, Some, ⊤}
use Rattle.serde_json.specs.View.{view}
use Rattle.serde_json.specs.declared.value.Value.{Value}
use Rattle.jsonptr.specs.Text.{Text, dec}
use Rattle.jsonptr.specs.Node.{Path, an_object, an_array, NodeMap, Names}
use Rattle.jsonptr.specs.Following.{Finds}
use Rattle.jsonptr.specs.Delete.{NamesNothing}
use Rattle.jsonptr.specs.Json.{nodes}
use Rattle.jsonptr_value.specs.Nesting.{NestsWithin}
use Rattle.jsonptr_patch.specs.Adding.{MeansPlace}
use Rattle.jsonptr_patch.specs.Apart.{Diverges}
use Rattle.jsonptr_patch.specs.Operating.{IsProperPrefix, Takes, AppliesBy, RestoresAt}
use Rattle.jsonptr_patch.specs.Patching.{PatchesBy}
use Rattle.jsonptr_patch.specs.declared.comparison.Comparison.{Comparison}
use Rattle.jsonptr_patch.specs.declared.comparison.Comparison.TheVariants.{Strict}
use Rattle.jsonptr_patch.specs.declared.operation.Operation.{Operation}
use Rattle.jsonptr_patch.specs.declared.operation.Operation.TheVariants.{Add, Remove, Replace, Move, Copy, Test}

-- `HasObject n tokens`: the tokens before the last one evaluate to an object
pub record HasObject (n : NodeMap) (tokens : List Text) : Type 0 where
  pub front : List Text
  pub last : Text
  pub path : Path
  pub split : tokens ≡ front ++ last ∷ []
  pub named : Names n front path
  pub object : n path ≡ Some an_object

-- `IsElementAt n tokens element`: the tokens before the last one evaluate to an array, and `element` are these tokens
-- and the index to which the last one refers
pub record IsElementAt (n : NodeMap) (tokens element : List Text) : Type 0 where
  pub front : List Text
  pub last : Text
  pub path : Path
  pub len : ℕ
  pub index : ℕ
  pub split : tokens ≡ front ++ last ∷ []
  pub named : Names n front path
  pub array : n path ≡ Some (an_array len)
  pub means : MeansPlace len last index
  pub element_is : element ≡ front ++ dec index ∷ []

-- `TakesAddBack n tokens o`: operation `o` takes back an addition to `n` at `tokens`. A new member, or an element, is
-- removed. A member that was replaced, or the whole document, is replaced by the old value
abbrev pub TakesAddBack : NodeMap → List Text → Operation → Type 0
TakesAddBack n tokens (Add path value) = ⊥
TakesAddBack n tokens (Remove path) =
    ((path ≡ tokens) × HasObject n tokens × NamesNothing n tokens) ⊎ IsElementAt n tokens path
TakesAddBack n tokens (Replace path value) =
    (path ≡ tokens) × Finds n tokens (nodes (view value)) × ((tokens ≡ []) ⊎ HasObject n tokens)
TakesAddBack n tokens (Move from path) = ⊥
TakesAddBack n tokens (Copy from path) = ⊥
TakesAddBack n tokens (Test path value) = ⊥

-- `IsReverse n from path o back`: `back` moves the value back to `from`, where `o` takes back its addition at `path`. A
-- member that was replaced is added again; then the two pointers diverge at an object of `n`
abbrev pub IsReverse : NodeMap → List Text → List Text → Operation → List Operation → Type 0
IsReverse n from path (Add p value) back = ⊥
IsReverse n from path (Remove p) back = (back ≡ Move p from ∷ []) × (IsProperPrefix p from → ⊥)
IsReverse n from path (Replace p value) back = (back ≡ Move p from ∷ Add p value ∷ []) × Diverges n from path
IsReverse n from path (Move f p) back = ⊥
IsReverse n from path (Copy f p) back = ⊥
IsReverse n from path (Test p value) back = ⊥

-- `HasNoReverse n from path o`: the value cannot be moved back to `from` so, where `o` takes back its addition at `path`
abbrev pub HasNoReverse : NodeMap → List Text → List Text → Operation → Type 0
HasNoReverse n from path o = (back : List Operation) → IsReverse n from path o back → ⊥

-- `TakesMoveBack n from path o back`: the operations `back` take back a move from `from` to `path` on `n`, where `o` takes
-- back the addition at `path`. They are the move back. If there is none, they are `o` and then the addition at `from`
abbrev pub TakesMoveBack : NodeMap → List Text → List Text → Operation → List Operation → Type 0
TakesMoveBack n from path o back =
    IsReverse n from path o back
    ⊎ (HasNoReverse n from path o × (p : Operation) × (back ≡ o ∷ p ∷ []) × RestoresAt n from p)

-- `TakesBack n o back`: the operations `back` take back operation `o` on `n`
abbrev pub TakesBack : NodeMap → Operation → List Operation → Type 0
TakesBack n (Add path value) back = (o : Operation) × (back ≡ o ∷ []) × TakesAddBack n path o
TakesBack n (Remove path) back = (o : Operation) × (back ≡ o ∷ []) × RestoresAt n path o
TakesBack n (Replace path value) back =
    (old : Value) × (back ≡ Replace path old ∷ []) × Finds n path (nodes (view old))
TakesBack n (Move from path) back =
    (o : Operation) × (node left : NodeMap) × Takes n from node left × TakesAddBack left path o
    × TakesMoveBack n from path o back
TakesBack n (Copy from path) back = (o : Operation) × (back ≡ o ∷ []) × TakesAddBack n path o
TakesBack n (Test path value) back = back ≡ []

-- `TakesAllBackBy c n os back`: the operations `back` take back the operations `os` on `n`, the last one first. Tests
-- compare as `c`
abbrev pub TakesAllBackBy : Comparison → NodeMap → List Operation → List Operation → Type 0
TakesAllBackBy c n [] back = back ≡ []
TakesAllBackBy c n (o ∷ os) back =
    (next : NodeMap) × (first rest : List Operation) × AppliesBy c n o next × TakesBack n o first
    × TakesAllBackBy c next os rest × (back ≡ rest ++ first)

-- `TakesAllBack n os back`: they do so where tests are strict
abbrev pub TakesAllBack : NodeMap → List Operation → List Operation → Type 0
TakesAllBack n os back = TakesAllBackBy Strict n os back

-- `IsAlike o p`: the operations `o` and `p` are of one kind, have the same pointers, and values with the same node map, which
-- does not say in which order the members of an object are
abbrev pub IsAlike : Operation → Operation → Type 0
IsAlike (Add path value) (Add p v) = (path ≡ p) × (nodes (view value) ≡ nodes (view v))
IsAlike (Remove path) (Remove p) = path ≡ p
IsAlike (Replace path value) (Replace p v) = (path ≡ p) × (nodes (view value) ≡ nodes (view v))
IsAlike (Move from path) (Move f p) = (from ≡ f) × (path ≡ p)
IsAlike (Copy from path) (Copy f p) = (from ≡ f) × (path ≡ p)
IsAlike (Test path value) (Test p v) = (path ≡ p) × (nodes (view value) ≡ nodes (view v))
IsAlike o p = ⊥

-- `AreAlike os ps`: the operations `os` and `ps` are alike, one for one
abbrev pub AreAlike : List Operation → List Operation → Type 0
AreAlike [] [] = ⊤
AreAlike (o ∷ os) (p ∷ ps) = IsAlike o p × AreAlike os ps
AreAlike os ps = ⊥

-- `IsStage n o m`: `m` is the document `n` before operation `o`, or what a move has left of it when the value is removed
abbrev pub IsStage : NodeMap → Operation → NodeMap → Type 0
IsStage n (Move from path) m = (m ≡ n) ⊎ ((node : NodeMap) × Takes n from node m)
IsStage n o m = m ≡ n

-- `FindsBefore c n os tokens v`: the document before one of the operations `os`, or what a move has left of it, has the
-- node `v` at `tokens`. They are applied to `n`, and tests compare as `c`
pub record FindsBefore (c : Comparison) (n : NodeMap) (os : List Operation) (tokens : List Text) (v : NodeMap) : Type 0 where
  pub done : List Operation
  pub next : Operation
  pub rest : List Operation
  pub before : NodeMap
  pub stage : NodeMap
  pub split : os ≡ done ++ next ∷ rest
  pub applied : PatchesBy c n done before
  pub is_stage : IsStage before next stage
  pub found : Finds stage tokens v

-- `IsOfBefore c n os o`: operation `o` is no test, and its value, if it has one, is at its pointer in such a document
abbrev pub IsOfBefore : Comparison → NodeMap → List Operation → Operation → Type 0
IsOfBefore c n os (Add path value) = FindsBefore c n os path (nodes (view value))
IsOfBefore c n os (Remove path) = ⊤
IsOfBefore c n os (Replace path value) = FindsBefore c n os path (nodes (view value))
IsOfBefore c n os (Move from path) = ⊤
IsOfBefore c n os (Copy from path) = ⊤
IsOfBefore c n os (Test path value) = ⊥

-- `HasDeepNodeBefore c n os k`: a node of such a document nests more than `k` levels deep
abbrev pub HasDeepNodeBefore : Comparison → NodeMap → List Operation → ℕ → Type 0
HasDeepNodeBefore c n os k = (tokens : List Text) × (v : NodeMap) × FindsBefore c n os tokens v × (NestsWithin k v → ⊥)
