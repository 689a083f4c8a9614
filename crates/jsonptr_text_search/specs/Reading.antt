-- The values that tokens begin with, as `serde_json` reads them.
use Rattle.std.specs.Prelude.{◌≡◌, ℕ, List, length, Some, None}
use Rattle.json.specs.Token.{Token}
use Rattle.json.specs.Json.{items, members, value}
use Rattle.serde_json.specs.Data.{Data, Items, Members, no_members}
use Rattle.serde_json.specs.Read.{of_json, of_items, of_members, converted}

-- `ReadsTokens depth old d new`: the tokens `old` are those of the value `d`, which nests at most `depth` deep, and then `new`
abbrev pub ReadsTokens : ℕ → List Token → Data → List Token → Type 0
ReadsTokens depth old d new = converted of_json (value depth old) ≡ Some (d, new)

-- `Unreadable depth old`: the tokens `old` begin with no value that `serde_json` reads at this depth
abbrev pub Unreadable : ℕ → List Token → Type 0
Unreadable depth old = converted of_json (value depth old) ≡ None

-- `ReadsItems depth old ds new`: the same for the rest of an array, with its closing bracket
abbrev pub ReadsItems : ℕ → List Token → Items → List Token → Type 0
ReadsItems depth old ds new = converted of_items (items (value depth) (length old) old) ≡ Some (ds, new)

-- `UnreadableItems depth old`: the tokens `old` begin with no such rest
abbrev pub UnreadableItems : ℕ → List Token → Type 0
UnreadableItems depth old = converted of_items (items (value depth) (length old) old) ≡ None

-- `ReadsMembers depth old ms new`: the same for the rest of an object, with its closing bracket
abbrev pub ReadsMembers : ℕ → List Token → Members → List Token → Type 0
ReadsMembers depth old ms new = converted (λ es. of_members es no_members) (members (value depth) (length old) old) ≡ Some (ms, new)

-- `UnreadableMembers depth old`: the tokens `old` begin with no such rest
abbrev pub UnreadableMembers : ℕ → List Token → Type 0
UnreadableMembers depth old = converted (λ es. of_members es no_members) (members (value depth) (length old) old) ≡ None
