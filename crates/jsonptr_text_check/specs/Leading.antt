-- The value that selectors lead to in a text, and where its own text is there.
use Rattle.std.specs.Prelude.{◌≡◌, ◌⊎◌, ℕ, zero, suc, List, [], ◌∷◌, ◌++◌, Some, All}
use Rattle.json.specs.Lex.{tokens}
use Rattle.json.specs.Token.{Token}
use Rattle.serde_json.specs.Data.{Data}
use Rattle.serde_json.specs.Read.{read}
use Rattle.jsonptr_text_search.specs.Reading.{ReadsTokens}
use Rattle.jsonptr_text_search.specs.Search.{Choice, follow}

-- `LeadsToText cs value d`: the selectors `cs` lead from `d` to the value of the text `value`
abbrev pub LeadsToText : List Choice → List ℕ → Data → Type 0
LeadsToText cs value d = (e : Data) × (read value ≡ Some e) × (follow cs d ≡ Some e)

-- `LeadsInText text cs value`: the same from the document of `text`
abbrev pub LeadsInText : List ℕ → List Choice → List ℕ → Type 0
LeadsInText text cs value = (d : Data) × (read text ≡ Some d) × LeadsToText cs value d

-- `Passes ts rest`: the tokens `ts` are those of one value, and then `rest`
abbrev pub Passes : List Token → List Token → Type 0
Passes ts rest = (depth : ℕ) × (d : Data) × ReadsTokens depth ts d rest

-- `PassesValues n ts rest`: they are those of `n` values, and then `rest`
abbrev pub PassesValues : ℕ → List Token → List Token → Type 0
PassesValues zero ts rest = ts ≡ rest
PassesValues (suc n) ts rest = (next : List Token) × Passes ts next × PassesValues n next rest

-- `PassesMembers ks ts rest`: they are those of members with the keys `ks`, and then `rest`
abbrev pub PassesMembers : List (List ℕ) → List Token → List Token → Type 0
PassesMembers [] ts rest = ts ≡ rest
PassesMembers (k ∷ ks) ts rest =
    (value next : List Token) × (ts ≡ Token.key k ∷ value) × Passes value next × PassesMembers ks next rest

-- `IsLastMember k first child`: of the members that are next in the tokens `first`, up to the closing brace, the last one with
-- the key `k` has the value with which the tokens `child` begin
pub record IsLastMember (k : List ℕ) (first child : List Token) : Type 0 where
  pub names : List (List ℕ)
  pub before : PassesMembers names first (Token.key k ∷ child)
  pub next : List Token
  pub value : Passes child next
  pub later : List (List ℕ)
  pub rest : List Token
  pub after : PassesMembers later next (Token.end_object ∷ rest)
  pub last : All (λ name. name ≡ k → ⊥) later

-- `LeadsToChild c ts child`: the tokens `ts` begin with an array or an object, and `child` with its child that `c` selects
abbrev pub LeadsToChild : Choice → List Token → List Token → Type 0
LeadsToChild c ts child =
    ((i : ℕ) × (first : List Token) × (c.1 ≡ Some i) × (ts ≡ Token.begin_array ∷ first) × PassesValues i first child)
    ⊎ ((first : List Token) × (ts ≡ Token.begin_object ∷ first) × IsLastMember c.0 first child)

-- `LeadsAt cs ts at`: the selectors `cs` lead from the value with which the tokens `ts` begin to that with which `at` begins
abbrev pub LeadsAt : List Choice → List Token → List Token → Type 0
LeadsAt [] ts at = ts ≡ at
LeadsAt (c ∷ cs) ts at = (child : List Token) × LeadsToChild c ts child × LeadsAt cs child at

-- `BeginsAt cs text piece tail`: the selectors `cs` lead in the tokens of `text` to those of the text `tail`, which begin with
-- the tokens of `piece`, one for one
pub record BeginsAt (cs : List Choice) (text piece tail : List ℕ) : Type 0 where
  pub leads : LeadsAt cs (tokens text) (tokens tail)
  pub rest : List Token
  pub begins : tokens tail ≡ tokens piece ++ rest
