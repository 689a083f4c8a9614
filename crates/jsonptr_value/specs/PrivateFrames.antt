-- What is still to be written of the arrays and objects that are open, and how many tokens that is.
use Rattle.std.specs.Prelude.{◌≡◌, ℕ, ◌+◌, ◌≤◌, List, [], ◌∷◌, ◌++◌, Some}
use Rattle.std.specs.List.Sorted.{IsStrictlySortedBy}
use Rattle.std.specs.Map.{keys_of}
use Rattle.std.specs.String.{string_cmp}
use Rattle.json.specs.Token.{Token}
use Rattle.json.specs.Json as json
use Rattle.json.specs.Tree as tree
use Rattle.serde_json.specs.Data.{members_depth}
use Rattle.serde_json.specs.Read.{of_members}
use Rattle.serde_json.specs.View.{items_view, members_view}
use Rattle.serde_json.specs.Written.{members_outline, blank_members, WritesItems}
use Rattle.serde_json.specs.declared.value.Value.{Value}
use Rattle.serde_json.proofs.Views.{Entry}
use Rattle.jsonptr_value.specs.Lengths.{elements_length, members_length}
use Rattle.jsonptr_value.specs.declared.frame.Frame.{Frame}
use Rattle.jsonptr_value.specs.declared.frame.Frame.TheVariants.{Elements, Members}

-- `WritesElements vs old new`: `new` has, after `old`, the tokens of the elements `vs` and of the closing bracket
abbrev pub WritesElements : List Value → List Token → List Token → Type 0
WritesElements vs = WritesItems (items_view vs)

-- `WritesMembersLeft es old new`: the same of members. Put after members before them, with all keys in order, they are
-- read as all of these
abbrev pub WritesMembersLeft : List Entry → List Token → List Token → Type 0
WritesMembersLeft es old new =
    (ms : json.Members)
    × (new ≡ old ++ tree.members_tokens ms)
    × ((done : List Entry) → IsStrictlySortedBy string_cmp (keys_of (done ++ es))
    → of_members ms (members_view done) ≡ Some (members_view (done ++ es)))
    × (tree.members_depth ms ≤ members_depth (members_view es))
    × (blank_members ms ≡ members_outline (members_view es))

-- `WritesFrame frame old new`: the same of what is left of an open array or object
abbrev pub WritesFrame : Frame → List Token → List Token → Type 0
WritesFrame (Elements vs) = WritesElements vs.now
WritesFrame (Members es) = WritesMembersLeft es

-- `WritesStack frames old new`: the same of each of `frames`, the last one first
abbrev pub WritesStack : List Frame → List Token → List Token → Type 0
WritesStack [] old new = new ≡ old
WritesStack (f ∷ fs) old new = (middle : List Token) × WritesStack fs old middle × WritesFrame f middle new

-- how many tokens are written for what is left of an open array or object, and for that of all of them
abbrev pub frame_length : Frame → ℕ
frame_length (Elements vs) = elements_length vs.now
frame_length (Members es) = members_length es

abbrev pub stack_length : List Frame → ℕ
stack_length [] = 0
stack_length (f ∷ fs) = frame_length f + stack_length fs
