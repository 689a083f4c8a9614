-- Following selectors in a value, and what a search returns.
use Rattle.std.specs.Prelude.{◌≡◌, ℕ, suc, List, [], ◌∷◌, ◌++◌, length, map, Bool, true, false, Option, Some, None, option_and_then, MatchOption, string_bytes}
use Rattle.serde_json.specs.Data.{Data, null, boolean, number, string, array, object, Items, no_items, item}
use Rattle.serde_json.specs.Find.{get_member, get_item}
use Rattle.serde_json.specs.View.{view}
use Rattle.jsonptr_text_search.specs.declared.selector.Selector.{Selector}
use Rattle.jsonptr_text_search.specs.declared.outcome.Kind.{Kind}
use Rattle.jsonptr_text_search.specs.declared.outcome.Kind.TheVariants as kind
use Rattle.jsonptr_text_search.specs.declared.outcome.Outcome.{Outcome}
use Rattle.jsonptr_text_search.specs.declared.outcome.Outcome.TheVariants.{Found, Stopped}

-- `Choice`: a selector as a pair, the key of a member, and the index of an element, if it selects one
abbrev pub Choice : Type 0
Choice = List ℕ × Option ℕ

-- `choice_of s` is the pair of the selector `s`
abbrev pub choice_of : Selector → Choice
choice_of s = (string_bytes s.key, s.index)

-- `choices ss` are the pairs of the selectors `ss`
abbrev pub choices : List Selector → List Choice
choices ss = map choice_of ss

-- `items_count ds` is how many items `ds` has
abbrev pub items_count : Items → ℕ
items_count no_items = 0
items_count (item d ds) = suc (items_count ds)

-- `element i ds` is the item at the index `i`, if `i` is one
abbrev pub element : Option ℕ → Items → Option Data
element i ds = option_and_then (λ n. get_item n ds) i

-- `chosen c d` is the child of `d` that `c` selects
abbrev pub chosen : Choice → Data → Option Data
chosen c null = None
chosen c (boolean b) = None
chosen c (number n) = None
chosen c (string s) = None
chosen c (array ds) = element c.1 ds
chosen c (object ms) = get_member c.0 ms

-- `follow cs d` is the value below `d` that the selectors `cs` lead to
abbrev pub follow : List Choice → Data → Option Data
follow [] d = Some d
follow (c ∷ cs) d = option_and_then (follow cs) (chosen c d)

-- `kind_of d`: whether `d` is a scalar, an array of how many elements, or an object
abbrev pub kind_of : Data → Kind
kind_of null = kind.Scalar
kind_of (boolean b) = kind.Scalar
kind_of (number n) = kind.Scalar
kind_of (string s) = kind.Scalar
kind_of (array ds) = kind.Array (items_count ds)
kind_of (object ms) = kind.Object

-- `Stops d cs left k`: a prefix of the selectors `cs` leads from `d` to a value of kind `k`, which lacks the child that the next
-- one selects; `left` selectors are left, with that one
pub record Stops (d : Data) (cs : List Choice) (left : ℕ) (k : Kind) : Type 0 where
  pub front : List Choice
  pub next : Choice
  pub rest : List Choice
  pub at : Data
  pub split : cs ≡ front ++ next ∷ rest
  pub leads : follow front d ≡ Some at
  pub lacks : chosen next at ≡ None
  pub kind_is : k ≡ kind_of at
  pub left_is : left ≡ length (next ∷ rest)

-- `IsOutcome d cs o`: `o` is the outcome of a search for the selectors `cs` in `d`
abbrev pub IsOutcome : Data → List Choice → Outcome → Type 0
IsOutcome d cs (Found v) = follow cs d ≡ Some (view v)
IsOutcome d cs (Stopped left k) = Stops d cs left k

-- ---- for private clauses

-- the same in a child, if there is one
abbrev pub IsChildOutcome : Option Data → List Choice → Option Outcome → Type 0
IsChildOutcome c cs found = MatchOption found (c ≡ None) (λ o. (e : Data) × (c ≡ Some e) × IsOutcome e cs o)

-- `Visits wanted d cs old new`: the outcome `new` is that of a search in `d` if `d` is wanted, and `old` if it is not
abbrev pub Visits : Bool → Data → List Choice → Option Outcome → Option Outcome → Type 0
Visits true d cs old new = (o : Outcome) × (new ≡ Some o) × IsOutcome d cs o
Visits false d cs old new = new ≡ old
