-- The TOML values that JSON values are, one after another.
use Rattle.std.proofs.Common.{◌≡◌, ℕ, ◌+◌, ◌<◌, ◌≤◌, List, [], ◌∷◌, ◌++◌, length, get_or, drop, String, Global, Less, Greater, nat_cmp, string_bytes, string_cmp, Option, Some, None, option_map, refl, sym, ap, ◌∙◌}
use Rattle.std.proofs.lemmas.Cmp.{nat_list_cmp_total}
use Rattle.std.proofs.lemmas.List.{drop_all, drop_more}
use Rattle.std.specs.Bool.{⊤}
use Rattle.std.specs.BTreeMap.{insert_entry}
use Rattle.std.specs.Cmp.Lexicographic.{slice_cmp}
use Rattle.std.specs.List.{AllByRecursion}
use Rattle.std.specs.List.Sorted.{IsStrictlySortedBy}
use Rattle.std.specs.Map.{keys_of}
use Rattle.std.specs.Ordering.{ordering_reverse}
use Rattle.serde_json.specs.Data as json
use Rattle.serde_json.specs.View.{view as json_view, items_view as json_items_view, members_view as json_members_view}
use Rattle.serde_json.specs.declared.value.Value.{Value as Json}
use Rattle.serde_json.proofs.Views.{Entry as JsonEntry}
use Rattle.toml.specs.Data.{Items, Members, item, member, no_items, no_members}
use Rattle.toml.specs.View.{view, items_view, members_view}
use Rattle.toml.specs.declared.value.Value.{Value}
use Rattle.toml.proofs.Views.{Entry}
use Rattle.jsonptr_c_calls.specs.TomlValues.{both, toml_items_of, toml_members_of, toml_value_of}

-- ---- Elements

-- `items_before vs es`: the elements `vs`, and after them `es`
abbrev pub items_before : List Value → Items → Items
items_before [] es = es
items_before (v ∷ vs) es = item (view v) (items_before vs es)

pub items_end : (vs : List Value) → items_before vs no_items ≡ items_view vs
items_end [] = refl
items_end (v ∷ vs) = ap (item (view v)) (items_end vs)

items_last : (vs : List Value) (v : Value) (es : Items) → items_before (vs ++ v ∷ []) es ≡ items_before vs (item (view v) es)
items_last [] v es = refl
items_last (w ∷ vs) v es = ap (item (view w)) (items_last vs v es)

pub json_rest : (vs : List Json) (i : ℕ) (d : Json) → i < length vs → json_items_view (drop i vs) ≡ json.item (json_view (get_or vs i d)) (json_items_view (drop (i + 1) vs))
json_rest vs i d h = rw (drop_more vs i d h)

-- an element that TOML has not
pub lacks_item : (d : json.Data) (ds : json.Items) (vs : List Value) → toml_value_of d ≡ None → option_map (items_before vs) (toml_items_of (json.item d ds)) ≡ None
lacks_item d ds vs h = rw h

-- one element more
pub has_item : (d : json.Data) (ds : json.Items) (vs : List Value) (v : Value) → Some (view v) ≡ toml_value_of d
    → option_map (items_before vs) (toml_items_of (json.item d ds)) ≡ option_map (items_before (vs ++ v ∷ [])) (toml_items_of ds)
has_item d ds vs v h = rw (← h) (of_rest (toml_items_of ds))
  where
    of_rest : (o : Option Items) → option_map (items_before vs) (both item (Some (view v)) o) ≡ option_map (items_before (vs ++ v ∷ [])) o
    of_rest None = refl
    of_rest (Some es) = ap Some (sym (items_last vs v es))

-- `Holds all vs xs i`: of the elements `all`, which TOML may have, it has `vs`, and those of `xs` from `i` on come after them
abbrev pub Holds : List Json → List Value → List Json → ℕ → Type 0
Holds all vs xs i = toml_items_of (json_items_view all) ≡ option_map (items_before vs) (toml_items_of (json_items_view (drop i xs)))

pub items_begin : (all xs : List Json) (vs : List Value) → vs ≡ [] → xs ≡ all → Holds all vs xs 0
items_begin all xs vs none same = rw (none, same) (of_none (toml_items_of (json_items_view all)))
  where
    of_none : (o : Option Items) → o ≡ option_map (items_before []) o
    of_none None = refl
    of_none (Some es) = refl

pub item_missing : (all xs : List Json) (vs : List Value) (i : ℕ) (x : Json) → Holds all vs xs i → i < length xs → x ≡ get_or xs i x → None ≡ toml_value_of (json_view x)
    → None ≡ toml_items_of (json_items_view all)
item_missing all xs vs i x holds lt at none =
    let rest = json_rest xs i x lt in
    let lacks : toml_value_of (json_view (get_or xs i x)) ≡ None = ap (λ (y : Json). toml_value_of (json_view y)) (sym at) ∙ sym none in
    sym (holds ∙ ap (λ (ds : json.Items). option_map (items_before vs) (toml_items_of ds)) rest
    ∙ lacks_item (json_view (get_or xs i x)) (json_items_view (drop (i + 1) xs)) vs lacks)

pub item_more : (all xs : List Json) (vs ws : List Value) (v : Value) (i : ℕ) (x : Json) → Holds all vs xs i → i < length xs → x ≡ get_or xs i x → Some (view v) ≡ toml_value_of (json_view x)
    → ws ≡ vs ++ v ∷ [] → Holds all ws xs (i + 1)
item_more all xs vs ws v i x holds lt at has more =
    let rest = json_rest xs i x lt in
    let is : Some (view v) ≡ toml_value_of (json_view (get_or xs i x)) = has ∙ ap (λ (y : Json). toml_value_of (json_view y)) at in
    let next = json_items_view (drop (i + 1) xs) in
    holds ∙ ap (λ (ds : json.Items). option_map (items_before vs) (toml_items_of ds)) rest
    ∙ has_item (json_view (get_or xs i x)) next vs v is
    ∙ ap (λ (us : List Value). option_map (items_before us) (toml_items_of next)) (sym more)

pub items_done : (all xs : List Json) (vs : List Value) (i : ℕ) → Holds all vs xs i → length xs ≤ i → Some (items_view vs) ≡ toml_items_of (json_items_view all)
items_done all xs vs i holds le =
    let none : drop i xs ≡ [] = drop_all i xs le in
    let end : option_map (items_before vs) (toml_items_of (json_items_view [])) ≡ Some (items_view vs) = ap Some (items_end vs) in
    sym (holds ∙ ap (λ (ys : List Json). option_map (items_before vs) (toml_items_of (json_items_view ys))) none ∙ end)

-- ---- Members

-- `members_before es ms`: the entries `es`, and after them the members `ms`
abbrev pub members_before : List Entry → Members → Members
members_before [] ms = ms
members_before (e ∷ es) ms = member (string_bytes e.0) (view e.1) (members_before es ms)

pub members_end : (es : List Entry) → members_before es no_members ≡ members_view es
members_end [] = refl
members_end (e ∷ es) = ap (member (string_bytes e.0) (view e.1)) (members_end es)

members_last : (es : List Entry) (e : Entry) (ms : Members) → members_before (es ++ e ∷ []) ms ≡ members_before es (member (string_bytes e.0) (view e.1) ms)
members_last [] e ms = refl
members_last (f ∷ es) e ms = ap (member (string_bytes f.0) (view f.1)) (members_last es e ms)

-- a member that TOML has not
pub lacks_member : (k : List ℕ) (d : json.Data) (ds : json.Members) (es : List Entry) → toml_value_of d ≡ None → option_map (members_before es) (toml_members_of (json.member k d ds)) ≡ None
lacks_member k d ds es h = rw h

-- one member more
pub has_member : (k : List ℕ) (d : json.Data) (ds : json.Members) (es : List Entry) (e : Entry) → k ≡ string_bytes e.0 → Some (view e.1) ≡ toml_value_of d
    → option_map (members_before es) (toml_members_of (json.member k d ds)) ≡ option_map (members_before (es ++ e ∷ [])) (toml_members_of ds)
has_member k d ds es e named h = rw (named, ← h) (of_rest (toml_members_of ds))
  where
    of_rest : (o : Option Members) → option_map (members_before es) (both (member (string_bytes e.0)) (Some (view e.1)) o) ≡ option_map (members_before (es ++ e ∷ [])) o
    of_rest None = refl
    of_rest (Some ms) = ap Some (sym (members_last es e ms))

-- `HaveSameKeys es fs`: the entries have the same keys, one by one
abbrev pub HaveSameKeys : List Entry → List JsonEntry → Type 0
HaveSameKeys [] [] = ⊤
HaveSameKeys (e ∷ es) (f ∷ fs) = (string_bytes e.0 ≡ string_bytes f.0) × HaveSameKeys es fs
HaveSameKeys es fs = ⊥

pub same_keys_last : (es : List Entry) (fs : List JsonEntry) (e : Entry) (f : JsonEntry) → HaveSameKeys es fs → string_bytes e.0 ≡ string_bytes f.0 → HaveSameKeys (es ++ e ∷ []) (fs ++ f ∷ [])
same_keys_last [] [] e f all same = (same, tt)
same_keys_last (x ∷ es) (y ∷ fs) e f all same = (all.0, same_keys_last es fs e f all.1 same)
same_keys_last [] (y ∷ fs) e f all same = absurd all
same_keys_last (x ∷ es) [] e f all same = absurd all

below_middle : (first : JsonEntry) (fs : List JsonEntry) (f : JsonEntry) (more : List JsonEntry) → AllByRecursion (λ y. string_cmp first.0 y ≡ Less) (keys_of (fs ++ f ∷ more)) → string_cmp first.0 f.0 ≡ Less
below_middle first [] f more h = h.0
below_middle first (x ∷ fs) f more h = below_middle first fs f more h.1

-- a key that is above those before it goes last
pub inserted_last : (es : List Entry) (fs : List JsonEntry) (f : JsonEntry) (more : List JsonEntry) (k : String Global) (v : Value) → HaveSameKeys es fs → string_bytes k ≡ string_bytes f.0
    → IsStrictlySortedBy string_cmp (keys_of (fs ++ f ∷ more)) → insert_entry string_cmp es k v ≡ es ++ (k, v) ∷ []
unfolding IsStrictlySortedBy
inserted_last [] fs f more k v all same h = refl
inserted_last (x ∷ es) [] f more k v all same h = absurd all
inserted_last (x ∷ es) (first ∷ fs) f more k v all same h =
    let above : slice_cmp nat_cmp (string_bytes f.0) (string_bytes first.0) ≡ Greater =
    nat_list_cmp_total.antisymm (string_bytes f.0) (string_bytes first.0) ∙ ap ordering_reverse (below_middle first fs f more h.0) in
    let here : string_cmp k x.0 ≡ Greater = rw (same, all.0) above in
    rw here (ap (λ t. x ∷ t) (inserted_last es fs f more k v all.1 same h.1))

pub members_begin : (ms : json.Members) (es : List Entry) → es ≡ [] → toml_members_of ms ≡ option_map (members_before es) (toml_members_of ms)
members_begin ms es none = rw none (of_none (toml_members_of ms))
  where
    of_none : (o : Option Members) → o ≡ option_map (members_before []) o
    of_none None = refl
    of_none (Some ns) = refl

-- `HoldMembers all es rest`: of the members `all`, which TOML may have, it has `es`, and `rest` come after them
abbrev pub HoldMembers : List JsonEntry → List Entry → List JsonEntry → Type 0
HoldMembers all es rest = toml_members_of (json_members_view all) ≡ option_map (members_before es) (toml_members_of (json_members_view rest))

pub member_missing : (all rest more : List JsonEntry) (es : List Entry) (f : JsonEntry) → HoldMembers all es rest → rest ≡ f ∷ more → None ≡ toml_value_of (json_view f.1) → None ≡ toml_members_of (json_members_view all)
member_missing all rest more es f holds steps none =
    sym (holds ∙ ap (λ (fs : List JsonEntry). option_map (members_before es) (toml_members_of (json_members_view fs))) steps
    ∙ lacks_member (string_bytes f.0) (json_view f.1) (json_members_view more) es (sym none))

pub member_more : (all rest more : List JsonEntry) (es ns : List Entry) (f : JsonEntry) (e : Entry) → HoldMembers all es rest → rest ≡ f ∷ more → string_bytes e.0 ≡ string_bytes f.0
    → Some (view e.1) ≡ toml_value_of (json_view f.1) → ns ≡ es ++ e ∷ [] → HoldMembers all ns more
member_more all rest more es ns f e holds steps named has added =
    let next = json_members_view more in
    holds ∙ ap (λ (fs : List JsonEntry). option_map (members_before es) (toml_members_of (json_members_view fs))) steps
    ∙ has_member (string_bytes f.0) (json_view f.1) next es e (sym named) has
    ∙ ap (λ (us : List Entry). option_map (members_before us) (toml_members_of next)) (sym added)

pub members_done : (all rest : List JsonEntry) (es : List Entry) → HoldMembers all es rest → rest ≡ [] → Some (members_view es) ≡ toml_members_of (json_members_view all)
members_done all rest es holds none =
    let end : option_map (members_before es) (toml_members_of (json_members_view [])) ≡ Some (members_view es) = ap Some (members_end es) in
    sym (holds ∙ ap (λ (fs : List JsonEntry). option_map (members_before es) (toml_members_of (json_members_view fs))) none ∙ end)
