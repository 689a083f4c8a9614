-- The keys of each object of a JSON value that is parsed are sorted.
use Rattle.std.proofs.Common.{◌≡◌, ℕ, List, Option, Some, IfSome, option_and_then, option_map, subst}
use Rattle.json.specs.Lex.{tokens}
use Rattle.json.specs.Json as json
use Rattle.serde_json.specs.Data.{Data, number, array, object, item, Members, no_members, put}
use Rattle.serde_json.specs.Read.{of_json, of_items, of_members, number_of, max_depth, read}
use Rattle.jsonptr_tree.specs.Json.{HasSortedKeys, ItemsHaveSortedKeys, MembersHaveSortedKeys}
use Rattle.jsonptr_tree.proofs.JsonOrderLemmas.{ascends_put}
use Rattle.jsonptr_value.proofs.OptionLemmas.{if_map, if_then, if_any}

mutual
  ascends-of_json : (j : json.Json) → IfSome (of_json j) HasSortedKeys
  ascends-of_json json.null = tt
  ascends-of_json (json.boolean b) = tt
  ascends-of_json (json.number s) = if_map (λ _. Unit {0}) HasSortedKeys number (λ n a. tt) (number_of s) (if_any (number_of s))
  ascends-of_json (json.string s) = tt
  ascends-of_json (json.array js) = if_map ItemsHaveSortedKeys HasSortedKeys array (λ ds a. a) (of_items js) (ascends-of_items js)
  ascends-of_json (json.object ms) = if_map MembersHaveSortedKeys HasSortedKeys object (λ ds a. a) (of_members ms no_members) (ascends-of_members ms no_members tt)

  ascends-of_items : (js : json.Items) → IfSome (of_items js) ItemsHaveSortedKeys
  ascends-of_items json.no_items = tt
  ascends-of_items (json.item j js) =
      if_then HasSortedKeys ItemsHaveSortedKeys (λ d. option_map (item d) (of_items js)) (λ d a. if_map ItemsHaveSortedKeys ItemsHaveSortedKeys (item d) (λ ds b. (a, b)) (of_items js) (ascends-of_items js)) (of_json j) (ascends-of_json j)

  ascends-of_members : (ms : json.Members) (found : Members) → MembersHaveSortedKeys found → IfSome (of_members ms found) MembersHaveSortedKeys
  ascends-of_members json.no_members found h = h
  ascends-of_members (json.member k j ms) found h =
      if_then HasSortedKeys MembersHaveSortedKeys (λ d. of_members ms (put k d found)) (λ d a. ascends-of_members ms (put k d found) (ascends_put k d found a h)) (of_json j) (ascends-of_json j)

ascends_then : (o : Option json.Json) → IfSome (option_and_then of_json o) HasSortedKeys
ascends_then o = if_then (λ _. Unit {0}) HasSortedKeys of_json (λ j a. ascends-of_json j) o (if_any o)

-- the keys of a parsed value are sorted
pub ascends_read : (text : List ℕ) (d : Data) → read text ≡ Some d → HasSortedKeys d
ascends_read text d e = subst (λ (o : Option Data). IfSome o HasSortedKeys) e (ascends_then (option_and_then (λ p. json.if_last p.0 p.1) (json.value max_depth (tokens text))))
