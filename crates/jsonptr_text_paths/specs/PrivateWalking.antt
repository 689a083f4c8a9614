-- What a walk over a part of a document visits. Used only by private contracts; no public contract depends on this
-- file.
use Rattle.std.specs.Prelude.{◌≡◌, ◌<◌, ◌⊎◌, ⊤, ℕ, List, [], ◌∷◌, ◌++◌, map, IsSome}
use Rattle.serde_json.specs.View.{view}
use Rattle.serde_json.specs.declared.value.Value.{Value}
use Rattle.toml.specs.View.{view as toml_view}
use Rattle.toml.specs.declared.value.Value.{Value as TomlValue}
use Rattle.jsonptr.specs.Content.{Content, map_of, FindsContent}
use Rattle.jsonptr.specs.Json.{content}
use Rattle.jsonptr.specs.TomlValue.{content as toml_content}
use Rattle.jsonptr.specs.Text.{Text, dec}
use Rattle.jsonptr.specs.Node.{Step, key, place, Path, NodeMap}
use Rattle.jsonptr_text_paths.specs.Walking.{Before}

-- `token_of s`: the token of step `s`
abbrev pub token_of : Step → Text
token_of (key k) = k
token_of (place i) = dec i

-- `tokens_to w`: the tokens of the steps of path `w`
abbrev pub tokens_to : Path → List Text
tokens_to [] = []
tokens_to (s ∷ w) = token_of s ∷ tokens_to w

-- `Among xs x`: `x` is one of `xs`
abbrev pub Among : {X : Type 0} → List X → X → Type 0
Among [] x = ⊥
Among (y ∷ ys) x = (x ≡ y) ⊎ Among ys x

-- `Ascends ws`: each path of `ws` is before those after it
abbrev pub Ascends : List Path → Type 0
Ascends [] = ⊤
Ascends (w ∷ ws) = ((v : Path) → Among ws v → Before w v) × Ascends ws

-- `AddsPointers n P prefix old new`: `new` is `old` and then, after `prefix`, the tokens of the nodes of `n` whose
-- paths have the property `P`, in document order
pub record AddsPointers (n : NodeMap) (P : Path → Type 0) (prefix : List Text)
    (old new : List (List Text)) : Type 0 where
  pub paths : List Path
  pub listed : new ≡ old ++ map (λ w. prefix ++ tokens_to w) paths
  pub there : (w : Path) → Among paths w → P w × IsSome (n w)
  pub all : (w : Path) → P w → IsSome (n w) → Among paths w
  pub order : Ascends paths

-- `AnyPath w`: holds of every path
abbrev pub AnyPath : Path → Type 0
AnyPath w = ⊤

-- `NotRoot w`: holds of every path except the root
abbrev pub NotRoot : Path → Type 0
NotRoot [] = ⊥
NotRoot (s ∷ w) = ⊤

-- `InFirst len w`: the path `w` leads through one of the first `len` elements of an array
abbrev pub InFirst : ℕ → Path → Type 0
InFirst len [] = ⊥
InFirst len (key k ∷ w) = ⊥
InFirst len (place i ∷ w) = i < len

-- `VisitsAll visits finds lists s t`: visiting the values that the lists of tokens find, in this order, turns the
-- visitor `s` into `t`
abbrev pub VisitsAll : {S V : Type 0} → (S → List Text → V → S → Type 0) → (List Text → V → Type 0) → List (List Text) → S → S → Type 0
VisitsAll visits finds [] s t = t ≡ s
VisitsAll {S} {V} visits finds (ts ∷ lists) s u = (v : V) × (t : S) × finds ts v × visits s ts v t × VisitsAll visits finds lists t u

-- `WalksNodes content_of visits v P prefix s t`: visiting the nodes of `v` whose paths have the property `P`, in
-- document order, turns the visitor `s` into `t`. `prefix` are the tokens that find `v` in the document
pub record WalksNodes {S V : Type 0} (content_of : V → Content) (visits : S → List Text → V → S → Type 0)
    (v : V) (P : Path → Type 0) (prefix : List Text) (s t : S) : Type 0 where
  pub lists : List (List Text)
  pub adds : AddsPointers (map_of (content_of v)) P prefix [] lists
  pub visited : (d : Content) → FindsContent d prefix (content_of v)
      → VisitsAll visits (λ ts u. FindsContent d ts (content_of u)) lists s t

-- `content_of v` is what the JSON value `v` contains
abbrev pub content_of : Value → Content
content_of v = content (view v)

-- `content_of_toml v` is what the TOML value `v` contains
abbrev pub content_of_toml : TomlValue → Content
content_of_toml v = toml_content (toml_view v)
