-- Words of private clauses: an array or an object of which some children were read, one of them the wanted one.
use Rattle.std.specs.Prelude.{◌≡◌, ℕ, List, ◌∷◌, ◌++◌, Bool, true, false, Option, Some, All, ⊤}
use Rattle.json.specs.Json.{read_key}
use Rattle.json.specs.Lex.{tokens}
use Rattle.json.specs.Token.{Token}
use Rattle.serde_json.specs.Data.{Data}
use Rattle.jsonptr_text_search.specs.Search.{Choice}
use Rattle.jsonptr_text_check.specs.Alike.{AreAlike}
use Rattle.jsonptr_text_check.specs.Leading.{LeadsToText, Passes, PassesValues, PassesMembers, IsLastMember, LeadsAt}
use Rattle.jsonptr_text_check.specs.declared.wanted.Step.{Step}
use Rattle.jsonptr_text_check.specs.declared.wanted.Step.TheVariants.{Skip, Enter, Follow}

-- `IsStep done wanted s`: the step `s` at a child, which is the wanted one or not, after the wanted one was entered or not
abbrev pub IsStep : Bool → Bool → Step → Type 0
IsStep true wanted s = s ≡ Follow
IsStep false true s = s ≡ Enter
IsStep false false s = s ≡ Skip

-- `LeadsIf s cs value d`: if `d` is entered, the selectors `cs` lead from it to the value of the text
abbrev pub LeadsIf : Step → List Choice → List ℕ → Data → Type 0
LeadsIf Skip cs value d = ⊤
LeadsIf Enter cs value d = LeadsToText cs value d
LeadsIf Follow cs value d = ⊤

-- `ChildLeads child cs value`: there is such a child, and the selectors lead from it to the value of the text
abbrev pub ChildLeads : Option Data → List Choice → List ℕ → Type 0
ChildLeads child cs value = (d : Data) × (child ≡ Some d) × LeadsToText cs value d

-- `ChildLeadsIf done child cs value`: the same, if the child was read
abbrev pub ChildLeadsIf : Bool → Option Data → List Choice → List ℕ → Type 0
ChildLeadsIf true child cs value = ChildLeads child cs value
ChildLeadsIf false child cs value = ⊤

-- `Placed cs value old new tail rest`: the selectors `cs` lead from the tokens `old` to some that begin with those of the text
-- `value`. From there to `new`, they are those from `tail` to `rest`
pub record Placed (cs : List Choice) (value : List ℕ) (old new tail rest : List Token) : Type 0 where
  pub at : List Token
  pub leads : LeadsAt cs old at
  pub more : List Token
  pub begins : at ≡ tokens value ++ more
  pub alike : AreAlike at new tail rest

-- `PlacedIf s cs value old new tail rest`: the same if the value of `old` is entered. Before it, none of `tail` is read, and
-- after it, both tokens are the same
abbrev pub PlacedIf : Step → List Choice → List ℕ → List Token → List Token → List Token → List Token → Type 0
PlacedIf Skip cs value old new tail rest = tail ≡ rest
PlacedIf Enter cs value old new tail rest = Placed cs value old new tail rest
PlacedIf Follow cs value old new tail rest = AreAlike old new tail rest

-- `KeyIf done k tail rest`: the tokens `tail` are the key `k` and then `rest` if done, and the same as `rest` if not
abbrev pub KeyIf : Bool → List ℕ → List Token → List Token → Type 0
KeyIf true k tail rest = read_key tail ≡ Some (Some k, rest)
KeyIf false k tail rest = tail ≡ rest

-- `PlacesElement i cs value old new tail rest`: after `i` values of `old`, it is so
pub record PlacesElement (i : ℕ) (cs : List Choice) (value : List ℕ) (old new tail rest : List Token) : Type 0 where
  pub child : List Token
  pub before : PassesValues i old child
  pub placed : Placed cs value child new tail rest

-- `ElementsPlaced done count i cs value old new tail rest`: the same if done. If not, `count` values of `old` were read
abbrev pub ElementsPlaced : Bool → ℕ → ℕ → List Choice → List ℕ → List Token → List Token → List Token → List Token → Type 0
ElementsPlaced true count i cs value old new tail rest = PlacesElement i cs value old new tail rest
ElementsPlaced false count i cs value old new tail rest = PassesValues count old new × (tail ≡ rest)

-- `PlacesMember k cs value old new tail rest`: it is so in a member of `old` with the key `k`, and no later one has the key
pub record PlacesMember (k : List ℕ) (cs : List Choice) (value : List ℕ) (old new tail rest : List Token) : Type 0 where
  pub names : List (List ℕ)
  pub child : List Token
  pub before : PassesMembers names old (Token.key k ∷ child)
  pub next : List Token
  pub passes : Passes child next
  pub later : List (List ℕ)
  pub after : PassesMembers later next new
  pub last : All (λ name. name ≡ k → ⊥) later
  pub placed : Placed cs value child new tail rest

-- `MembersPlaced done k cs value old new tail rest`: the same if done. If not, some members of `old` were read
abbrev pub MembersPlaced : Bool → List ℕ → List Choice → List ℕ → List Token → List Token → List Token → List Token → Type 0
MembersPlaced true k cs value old new tail rest = PlacesMember k cs value old new tail rest
MembersPlaced false k cs value old new tail rest = (names : List (List ℕ)) × PassesMembers names old new × (tail ≡ rest)

-- `EndsMember k cs value old new tail rest`: the same as `PlacesMember` after the closing brace
abbrev pub EndsMember : List ℕ → List Choice → List ℕ → List Token → List Token → List Token → List Token → Type 0
EndsMember k cs value old new tail rest = (child : List Token) × IsLastMember k old child × Placed cs value child new tail rest
