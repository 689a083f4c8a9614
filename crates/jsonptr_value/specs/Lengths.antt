-- How many tokens a value is printed as: the measure of a loop over it.
use Rattle.std.specs.Prelude.{ℕ, List, length}
use Rattle.json.specs.Tree as tree
use Rattle.serde_json.specs.Data.{Data}
use Rattle.serde_json.specs.View.{items_view, members_view}
use Rattle.serde_json.specs.Written.{outline, items_outline, members_outline}
use Rattle.serde_json.specs.declared.value.Value.{Value}
use Rattle.serde_json.proofs.Views.{Entry}

-- `token_count d`: the number of tokens of the value `d`
abbrev pub token_count : Data → ℕ
token_count d = length (tree.json_tokens (outline d))

-- `elements_length vs`: the number of tokens of the elements `vs` and of the bracket after them
abbrev pub elements_length : List Value → ℕ
elements_length vs = length (tree.items_tokens (items_outline (items_view vs)))

-- `members_length es`: the number of tokens of the members `es` and of the bracket after them
abbrev pub members_length : List Entry → ℕ
members_length es = length (tree.members_tokens (members_outline (members_view es)))
