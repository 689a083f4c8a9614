-- The lines that list the nodes of a document.
use Rattle.std.specs.Prelude.{◌≡◌, ◌≤◌, ◌⊎◌, List, [], ◌∷◌, ◌++◌, All}
use Rattle.json.specs.Print.{quoted}
use Rattle.serde_json.specs.Data.{Data, null, boolean, number, string, array, object, no_items, no_members}
use Rattle.jsonptr.specs.Text.{Text, text}
use Rattle.jsonptr.specs.Json.{nodes, FindsValue}
use Rattle.jsonptr_value.specs.JsonText.{IsCompact}
use Rattle.jsonptr_text_paths.specs.Walking.{IsWalk}
use Rattle.jsonptr_text_paths.specs.declared.listing.Listed.{Listed}
use Rattle.jsonptr_text_paths.specs.declared.listing.Listed.TheVariants as listed

-- `emptied v`: `v` without its elements or members. A scalar stays as it is
abbrev pub emptied : Data → Data
emptied null = null
emptied (boolean b) = boolean b
emptied (number n) = number n
emptied (string s) = string s
emptied (array ds) = array no_items
emptied (object ms) = object no_members

-- `IsLeaf v`: `v` is a scalar, an empty array or an empty object
abbrev pub IsLeaf : Data → Type 0
IsLeaf v = emptied v ≡ v

-- `HasNoControl t`: no byte of `t` is below 32, so `t` has no control character
abbrev pub HasNoControl : Text → Type 0
HasNoControl t = All (λ b. 32 ≤ b) t

-- `IsField t field`: `field` is printed for the pointer with the text `t`: its text, or the JSON string of its text if the
-- text has a control character
abbrev pub IsField : Text → Text → Type 0
IsField t field = (HasNoControl t × (field ≡ t)) ⊎ ((HasNoControl t → ⊥) × (field ≡ quoted t))

-- `IsLineOf p v line`: `line` is the line of the node `v` at the pointer with the text `p`: the pointer, a tab, the value
-- without its elements or members, and a line feed
abbrev pub IsLineOf : Text → Data → Text → Type 0
IsLineOf p v line =
    (field short : Text) × IsField p field × IsCompact (emptied v) short
    × (line ≡ field ++ 9 ∷ (short ++ 10 ∷ []))

-- `IsShown which p v out`: `out` is printed for the node `v` at the pointer with the text `p`. If leaves alone are listed,
-- nothing is printed for any other node
abbrev pub IsShown : Listed → Text → Data → Text → Type 0
IsShown listed.AllNodes p v out = IsLineOf p v out
IsShown listed.Leaves p v out = (IsLeaf v × IsLineOf p v out) ⊎ ((IsLeaf v → ⊥) × (out ≡ []))

-- `AreShown which d lists out`: `out` is printed for the nodes of `d` that the lists of tokens name, in this order
abbrev pub AreShown : Listed → Data → List (List Text) → Text → Type 0
AreShown which d [] out = out ≡ []
AreShown which d (ts ∷ lists) out =
    (v : Data) × (one more : Text)
    × FindsValue d ts v
    × IsShown which (text ts) v one
    × AreShown which d lists more
    × (out ≡ one ++ more)

-- `Lists which d out`: `out` lists the nodes of `d`, or its leaves: a line for each, once, in document order
abbrev pub Lists : Listed → Data → Text → Type 0
Lists which d out = (lists : List (List Text)) × IsWalk (nodes d) lists × AreShown which d lists out
