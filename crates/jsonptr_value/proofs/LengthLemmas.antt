-- How many tokens a value is printed as, by its parts.
use Rattle.std.proofs.Common.{◌≡◌, ◌+◌, ◌<◌, List, ◌∷◌, arith}
use Rattle.std.proofs.lemmas.List.{length-append}
use Rattle.json.specs.Tree as tree
use Rattle.serde_json.specs.Data.{Data, null, boolean, number, string, array, object}
use Rattle.serde_json.specs.View.{view, items_view, members_view}
use Rattle.serde_json.specs.Written.{outline, items_outline, members_outline}
use Rattle.serde_json.specs.declared.value.Value.{Value}
use Rattle.serde_json.proofs.Views.{Entry}
use Rattle.jsonptr_value.specs.Lengths.{token_count, elements_length, members_length}

pub some_tokens : (d : Data) → 0 < token_count d
some_tokens null = omega arith
some_tokens (boolean b) = omega arith
some_tokens (number n) = omega arith
some_tokens (string s) = omega arith
some_tokens (array ds) = omega arith
some_tokens (object ms) = omega arith

pub elements_length-first : (v : Value) (vs : List Value) → elements_length (v ∷ vs) ≡ token_count (view v) + elements_length vs
elements_length-first v vs = length-append (tree.json_tokens (outline (view v))) (tree.items_tokens (items_outline (items_view vs)))

pub members_length-first : (e : Entry) (es : List Entry) → members_length (e ∷ es) ≡ 1 + token_count (view e.1) + members_length es
members_length-first e es =
    let rest = length-append (tree.json_tokens (outline (view e.1))) (tree.members_tokens (members_outline (members_view es))) in
    omega (arith, rest)
