-- Words of private clauses: reading an array or an object one child at a time.
use Rattle.std.specs.Prelude.{◌≡◌, ℕ, ◌≤◌, List, [], ◌∷◌, length, Option, Some, None, option_map}
use Rattle.json.specs.Token.{Token}
use Rattle.json.specs.Json.{items, members, value, parse_map}
use Rattle.serde_json.specs.Data.{Data, null, boolean, number, string, Items, item, Members, no_members}
use Rattle.serde_json.specs.Read.{number_of, of_items, of_members, converted}

-- `scalar_of t`: the value that the token `t` is on its own, if it is one
abbrev pub scalar_of : Token → Option Data
scalar_of Token.begin_object = None
scalar_of Token.end_object = None
scalar_of Token.begin_array = None
scalar_of Token.end_array = None
scalar_of (Token.key s) = None
scalar_of (Token.string s) = Some (string s)
scalar_of (Token.number s) = option_map number (number_of s)
scalar_of (Token.boolean b) = Some (boolean b)
scalar_of Token.null = Some null
scalar_of Token.bad = None

-- `with_items_before ds es` is the items `ds` and then `es`
abbrev pub with_items_before : List Data → Items → Items
with_items_before [] es = es
with_items_before (d ∷ ds) es = item d (with_items_before ds es)

-- `ItemsSoFar depth first now before`: an array that began at the tokens `first` goes on at `now`, after these items
pub record ItemsSoFar (depth : ℕ) (first now : List Token) (before : List Data) : Type 0 where
  pub turns : ℕ
  pub enough : length now ≤ turns
  pub goes_on : converted of_items (items (value depth) (length first) first) ≡ parse_map (with_items_before before) (converted of_items (items (value depth) turns now))

-- `MembersSoFar depth first now found`: an object that began at the tokens `first` goes on at `now`, after these members
pub record MembersSoFar (depth : ℕ) (first now : List Token) (found : Members) : Type 0 where
  pub turns : ℕ
  pub enough : length now ≤ turns
  pub goes_on : converted (λ ms. of_members ms no_members) (members (value depth) (length first) first) ≡ converted (λ ms. of_members ms found) (members (value depth) turns now)
