-- A document that is built node by node. Used only by private contracts.
use Rattle.std.specs.Prelude.{◌≡◌, List, [], ◌∷◌, ◌++◌, Option, None, IsSome, option_map, ⊤}
use Rattle.serde_json.specs.Data.{Data}
use Rattle.jsonptr.specs.Text.{Text, text}
use Rattle.jsonptr.specs.Node.{Step, Path, Label, an_object, an_array, a_leaf, NodeMap, Names, IsTree}
use Rattle.jsonptr.specs.Json.{FindsValue}
use Rattle.jsonptr_text_paths.specs.Walking.{Before}
use Rattle.jsonptr_text_paths.specs.PrivateWalking.{Among}
use Rattle.jsonptr_value.specs.JsonText.{IsCompact}
use Rattle.jsonptr_text_paths.specs.Listing.{emptied, IsField}

-- `kind l`: the label `l`, with an array's length as 0
abbrev pub kind : Label → Label
kind an_object = an_object
kind (an_array len) = an_array 0
kind (a_leaf v) = a_leaf v

-- `IsPart n Seen m`: `m` is a document that has the nodes of `n` at the paths with the property `Seen`, and no others. Its
-- arrays have as many elements as are seen
pub record IsPart (n : NodeMap) (Seen : Path → Type 0) (m : NodeMap) : Type 0 where
  pub tree : IsTree m
  pub seen : (w : Path) → IsSome (m w) → Seen w
  pub there : (w : Path) → Seen w → IsSome (m w)
  pub kinds : (w : Path) → IsSome (m w) → option_map kind (m w) ≡ option_map kind (n w)

-- `IsEmptied v l`: `v` is the map of a single node, whose label is of the kind of `l`
pub record IsEmptied (v : NodeMap) (l : Option Label) : Type 0 where
  pub root : v [] ≡ option_map kind l
  pub alone : (s : Step) (w : Path) → v (s ∷ w) ≡ None

-- `IsNext n Seen p`: `p` is a path of `n`, and the paths of `n` that are before it are those with the property `Seen`
pub record IsNext (n : NodeMap) (Seen : Path → Type 0) (p : Path) : Type 0 where
  pub here : IsSome (n p)
  pub after : (w : Path) → Seen w → Before w p
  pub all : (w : Path) → IsSome (n w) → Before w p → Seen w

-- `Named n lists w`: one of the lists of tokens names the path `w` of `n`
abbrev pub Named : NodeMap → List (List Text) → Path → Type 0
Named n lists w = (ts : List Text) × Among lists ts × Names n ts w

-- `IsRow d ts l`: `l` is the line of the node of `d` that the tokens `ts` name, without its line feed
abbrev pub IsRow : Data → List Text → Text → Type 0
IsRow d ts l =
    (v : Data) × (field short : Text)
    × FindsValue d ts v × IsField (text ts) field × IsCompact (emptied v) short
    × (l ≡ field ++ 9 ∷ short)

-- `AreRows d lists ls`: `ls` are the lines of the nodes of `d` that the lists of tokens name, in this order
abbrev pub AreRows : Data → List (List Text) → List Text → Type 0
AreRows d [] [] = ⊤
AreRows d [] (l ∷ ls) = ⊥
AreRows d (ts ∷ lists) [] = ⊥
AreRows d (ts ∷ lists) (l ∷ ls) = IsRow d ts l × AreRows d lists ls
