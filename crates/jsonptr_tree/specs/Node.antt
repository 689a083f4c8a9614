-- A document as the map from its paths to its nodes, and the tokens that name a path (RFC 6901,
-- section 4).
use Rattle.std.specs.Prelude.{◌≡◌, ℕ, ◌<◌, List, [], ◌∷◌, ◌++◌, length, Option, Some, None, IsSome, ⊤, Contains}
use Rattle.serde_json.specs.Data.{Data}
use Rattle.toml.specs.Data.{Data as TomlData}
use Rattle.jsonptr_grammar.specs.Text.{Text, dec}

-- `Step`: one level down, to the member under a key or to the element at an index
pub data Step : Type 0 where
  key : Text → Step
  place : ℕ → Step

-- `Path`: the steps from the root of a document to one of its nodes
abbrev pub Path : Type 0
Path = List Step

-- `Scalar`: a value that is neither an object nor an array, as its crate sees it
pub data Scalar : Type 0 where
  of_json : Data → Scalar
  of_toml : TomlData → Scalar

-- `Label`: what kind of node is at a path: an object, an array with its length, or a scalar
pub data Label : Type 0 where
  an_object : Label
  an_array : ℕ → Label
  a_leaf : Scalar → Label

-- `NodeMap`: the label at each path of a document, and `None` for any other path
abbrev pub NodeMap : Type 0
NodeMap = Path → Option Label

-- `sub n w` is the map of the subtree of `n` at the path `w`
abbrev pub sub : NodeMap → Path → NodeMap
sub n w = λ p. n (w ++ p)

-- `NamesStep label x s`: at a node with this label, the token `x` selects the child at the step
-- `s`. At an object `x` is the key. At an array `x` is the decimal text of the index, which is less
-- than the length
abbrev pub NamesStep : Option Label → Text → Step → Type 0
NamesStep None x s = ⊥
NamesStep (Some an_object) x (key k) = k ≡ x
NamesStep (Some an_object) x (place i) = ⊥
NamesStep (Some (an_array n)) x (key k) = ⊥
NamesStep (Some (an_array n)) x (place i) = (i < n) × (x ≡ dec i)
NamesStep (Some (a_leaf v)) x s = ⊥

-- `Names n xs w`: the tokens `xs` name the path `w` of the map `n`, one token for each step
abbrev pub Names : NodeMap → List Text → Path → Type 0
Names n [] [] = IsSome (n [])
Names n [] (s ∷ w) = ⊥
Names n (x ∷ xs) [] = ⊥
Names n (x ∷ xs) (s ∷ w) = NamesStep (n []) x s × Names (sub n (s ∷ [])) xs w

-- `IsNaming n xs w` defines `Names n xs w` by positions. The path `w` is in the map `n`, and each
-- token of `xs` selects the step at its position, from the node that the earlier steps lead to
pub record IsNaming (n : NodeMap) (xs : List Text) (w : Path) : Type 0 where
  pub as_many : length xs ≡ length w
  pub is_there : IsSome (n w)
  pub each : (ys : List Text) (x : Text) (zs : List Text) (u : Path) (s : Step) (v : Path)
      → xs ≡ ys ++ x ∷ zs
      → w ≡ u ++ s ∷ v
      → length ys ≡ length u
      → NamesStep (n u) x s

-- `PairsOff n L P`: naming is a bijection between the lists that meet `L` and the paths that meet
-- `P`
pub record PairsOff (n : NodeMap) (L : List Text → Type 0) (P : Path → Type 0) : Type 0 where
  pub path : (xs : List Text)
      → L xs
      → (w : Path) × P w × Names n xs w × ((v : Path) → Names n xs v → v ≡ w)
  pub list : (w : Path)
      → P w
      → (xs : List Text) × L xs × Names n xs w × ((ys : List Text) → Names n ys w → ys ≡ xs)

-- `MayHave label s`: a node with this label may have a child at the step `s`
abbrev pub MayHave : Option Label → Step → Type 0
MayHave None s = ⊥
MayHave (Some an_object) (key k) = ⊤
MayHave (Some an_object) (place i) = ⊥
MayHave (Some (an_array n)) (key k) = ⊥
MayHave (Some (an_array n)) (place i) = i < n
MayHave (Some (a_leaf v)) s = ⊥

-- `IsTree n`: `n` is the map of a document. It has a root, each node is where its parent may have
-- it, and an array has an element at each index below its length
pub record IsTree (n : NodeMap) : Type 0 where
  pub root : IsSome (n [])
  pub parent : (w : Path) (s : Step) → IsSome (n (w ++ s ∷ [])) → MayHave (n w) s
  pub full : (w : Path) (len i : ℕ)
      → n w ≡ Some (an_array len)
      → i < len
      → IsSome (n (w ++ place i ∷ []))

-- `IsListed n`: the map `n` is finite, because some list contains each of its paths
abbrev pub IsListed : NodeMap → Type 0
IsListed n = (ps : List Path) × ((w : Path) → IsSome (n w) → Contains ps w)
