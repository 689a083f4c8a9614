-- A node whose path has UTF-8 keys has one pointer, and the keys of Rust values are UTF-8.
use Rattle.std.proofs.Common.{◌≡◌, ℕ, zero, suc, Bool, true, false, cond, bytes_eq, true≢false, List, [], ◌∷◌, ◌++◌, Option, Some, None, IsSome, option_map, option_and_then, String, string_bytes, Global, refl, sym, ap, ◌∙◌, subst, rules}
use Rattle.std.specs.Prelude.{All, IsUtf8}
use lib.Utf8.{encode}
use Rattle.std.proofs.lemmas.List.Elements.{All-nil, All-cons, All-head, All-tail}
use Rattle.std.proofs.lemmas.Slice.Eq.{bytes_eq-Decides}
use Rattle.std.proofs.lemmas.Str.{IsUtf8-nil, IsUtf8-append, IsUtf8-string_bytes}
use Rattle.serde_json.specs.declared.value.Value as json
use Rattle.serde_json.specs.declared.value.Value.TheOpen.{Value-F as Json-F}
use Rattle.toml.specs.declared.value.Value as toml
use Rattle.toml.specs.declared.value.Value.TheOpen.{Value-F as Toml-F}
use Rattle.jsonptr.specs.Text.{Text, esc, text, tokens_of}
use Rattle.jsonptr_grammar.proofs.DecLemmas.{IsUtf8-dec}
use Rattle.jsonptr_grammar.proofs.EscapeLemmas.{IsUtf8-esc}
use Rattle.jsonptr_grammar.proofs.PointerLemmas.{IsPointer-text, tokens_of-text, text-tokens_of}
use Rattle.jsonptr.specs.Node.{Step, key, place, Path, Scalar, Label, an_object, an_array, a_leaf, NodeMap, sub, NamesStep, Names, IsTree}
use Rattle.jsonptr.specs.Content.{Content, scalar, array, object, get_item, get_member, label_of, child, content_at, map_of}
use Rattle.jsonptr_tree.proofs.NodeLemmas.{Names_one_list, IsTree-named}
use Rattle.jsonptr_tree.proofs.LevelLemmas.{items_by, members_by}
use Rattle.jsonptr_tree.proofs.JsonLemmas as of_json
use Rattle.jsonptr_tree.proofs.TomlLemmas as of_toml
use Rattle.jsonptr_laws.specs.OnePointer.{HasUtf8Keys, HasOnePointer}

-- ---- one pointer

-- the token of a step is UTF-8, if the key of the step is, where it has one
token_utf8 : (o : Option Label) (x : Text) (s : Step) (w : Path) → NamesStep o x s → HasUtf8Keys (s ∷ w) → IsUtf8 x × HasUtf8Keys w
token_utf8 None x s w h utf8 = absurd h
token_utf8 (Some an_object) x (key k) w h utf8 = (subst IsUtf8 h utf8.0, utf8.1)
token_utf8 (Some an_object) x (place i) w h utf8 = absurd h
token_utf8 (Some (an_array n)) x (key k) w h utf8 = absurd h
token_utf8 (Some (an_array n)) x (place i) w h utf8 = (subst IsUtf8 (sym h.1) (IsUtf8-dec i), utf8)
token_utf8 (Some (a_leaf v)) x s w h utf8 = absurd h

tokens_utf8 : (n : NodeMap) (ts : List Text) (w : Path) → Names n ts w → HasUtf8Keys w → All IsUtf8 ts
tokens_utf8 n [] w h utf8 = All-nil IsUtf8
tokens_utf8 n (x ∷ xs) [] h utf8 = absurd h
tokens_utf8 n (x ∷ xs) (s ∷ w) h utf8 =
    let first = token_utf8 (n []) x s w h.0 utf8 in
    All-cons IsUtf8 x xs first.0 (tokens_utf8 (sub n (s ∷ [])) xs w h.1 first.1)

slash_utf8 : IsUtf8 (47 ∷ [])
unfolding encode
slash_utf8 = (47 ∷ [], (refl, refl))

-- the text of UTF-8 tokens is UTF-8
text_utf8 : (ts : List Text) → All IsUtf8 ts → IsUtf8 (text ts)
text_utf8 [] utf8 = IsUtf8-nil
text_utf8 (t ∷ ts) utf8 =
    let first : IsUtf8 (esc t) = IsUtf8-esc t (All-head IsUtf8 t ts utf8) in
    IsUtf8-append (47 ∷ []) (esc t ++ text ts) slash_utf8 (IsUtf8-append (esc t) (text ts) first (text_utf8 ts (All-tail IsUtf8 t ts utf8)))

pub one_pointer : (n : NodeMap) → IsTree n → (w : Path) → IsSome (n w) → HasUtf8Keys w → HasOnePointer n w
one_pointer n tree w there utf8 =
    let named = IsTree-named n tree w there in
    let ts : List Text = named.0 in
    record {
      text = text ts;
      utf8 = text_utf8 ts (tokens_utf8 n ts w named.1 utf8);
      pointer = IsPointer-text ts;
      named = subst (λ (us : List Text). Names n us w) (sym (tokens_of-text ts)) named.1;
      only = λ s p h. sym (text-tokens_of p) ∙ ap text (Names_one_list n (tokens_of s) ts w h named.1);
    }

-- ---- the keys of Rust values

step_and : (s : Step) (w : Path) → HasUtf8Keys (s ∷ []) → HasUtf8Keys w → HasUtf8Keys (s ∷ w)
step_and (key k) w h utf8 = (h.0, utf8)
step_and (place i) w h utf8 = utf8

module _ {V : Type 0} (see : V → Content) where
  -- the value under a UTF-8 key, or at an index, has the property of some value
  abbrev pub IsWithin : Step → Content → Type 0
  IsWithin s c = HasUtf8Keys (s ∷ []) × ((u : V) × (c ≡ see u))

  no_child : (s : Step) (c : Content) → None ≡ Some c → IsWithin s c
  no_child s c h = let none : ⊥ = cc in absurd none

  item_within : (vs : List V) (i : ℕ) (c : Content) → get_item i (items_by see vs) ≡ Some c → (u : V) × (c ≡ see u)
  item_within [] i c h = let none : ⊥ = cc in absurd none
  item_within (v ∷ vs) zero c h = let same : c ≡ see v = cc in (v, same)
  item_within (v ∷ vs) (suc i) c h = item_within vs i c h

  member_within : (es : List (String Global × V)) (k : Text) (c : Content) → get_member k (members_by see es) ≡ Some c → IsUtf8 k × ((u : V) × (c ≡ see u))
  member_within [] k c h = let none : ⊥ = cc in absurd none
  member_within (e ∷ es) k c h = by_key (member_within es k c) (bytes_eq k (string_bytes e.0)) refl h
    where
      by_key : (get_member k (members_by see es) ≡ Some c → IsUtf8 k × ((u : V) × (c ≡ see u))) → (b : Bool) → bytes_eq k (string_bytes e.0) ≡ b → cond b (Some (see e.1)) (get_member k (members_by see es)) ≡ Some c → IsUtf8 k × ((u : V) × (c ≡ see u))
      by_key later true is g =
          let same : c ≡ see e.1 = cc in
          (subst IsUtf8 (sym ((bytes_eq-Decides k (string_bytes e.0)).0 is)) (IsUtf8-string_bytes e.0), (e.1, same))
      by_key later false is g = later g

  -- a scalar has no child, and the children of an array and of an object have the property
  pub scalar_within : (v : V) (x : Scalar) → see v ≡ scalar x → (s : Step) (c : Content) → child s (see v) ≡ Some c → IsWithin s c
  scalar_within v x is s c h = no_child s c (sym (ap (child s) is) ∙ h)

  pub array_within : (v : V) (vs : List V) → see v ≡ array (items_by see vs) → (s : Step) (c : Content) → child s (see v) ≡ Some c → IsWithin s c
  array_within v vs is (key k) c h = no_child (key k) c (sym (ap (child (key k)) is) ∙ h)
  array_within v vs is (place i) c h = (tt, item_within vs i c (sym (ap (child (place i)) is) ∙ h))

  pub object_within : (v : V) (es : List (String Global × V)) → see v ≡ object (members_by see es) → (s : Step) (c : Content) → child s (see v) ≡ Some c → IsWithin s c
  object_within v es is (key k) c h =
      let r = member_within es k c (sym (ap (child (key k)) is) ∙ h) in ((r.0, tt), r.1)
  object_within v es is (place i) c h = no_child (place i) c (sym (ap (child (place i)) is) ∙ h)

  -- if each child has the property, the keys on each path are UTF-8
  pub keys_utf8 : ((v : V) (s : Step) (c : Content) → child s (see v) ≡ Some c → IsWithin s c) → (w : Path) (v : V) → IsSome (map_of (see v) w) → HasUtf8Keys w
  keys_utf8 within [] v h = tt
  keys_utf8 within (s ∷ w) v h = by_child (λ u. keys_utf8 within w u) (child s (see v)) refl h
    where
      by_child : ((u : V) → IsSome (map_of (see u) w) → HasUtf8Keys w) → (o : Option Content) → child s (see v) ≡ o → IsSome (option_map label_of (option_and_then (content_at w) o)) → HasUtf8Keys (s ∷ w)
      by_child later None is g = absurd (true≢false (sym g))
      by_child later (Some c) is g =
          let r = within v s c is in
          step_and s w r.0 (later r.1.0 (subst (λ (d : Content). IsSome (map_of d w)) r.1.1 g))

-- by its content
json_within : (v : json.Value) (o : Json-F json.Value) → json.out-Value v ≡ o → (s : Step) (c : Content) → child s (of_json.content_of v) ≡ Some c → IsWithin of_json.content_of s c
json_within v Json-F.Null is =
    let same : v ≡ json.Null = search (rules, json.the_lemmas) in
    scalar_within of_json.content_of v _ (ap of_json.content_of same ∙ of_json.null_is)
json_within v (Json-F.Bool x) is =
    let same : v ≡ json.Bool x = search (rules, json.the_lemmas) in
    scalar_within of_json.content_of v _ (ap of_json.content_of same ∙ of_json.bool_is x)
json_within v (Json-F.Number x) is =
    let same : v ≡ json.Number x = search (rules, json.the_lemmas) in
    scalar_within of_json.content_of v _ (ap of_json.content_of same ∙ of_json.number_is x)
json_within v (Json-F.String x) is =
    let same : v ≡ json.String x = search (rules, json.the_lemmas) in
    scalar_within of_json.content_of v _ (ap of_json.content_of same ∙ of_json.string_is x)
json_within v (Json-F.Array x) is =
    let same : v ≡ json.Array x = search (rules, json.the_lemmas) in
    array_within of_json.content_of v x.items (ap of_json.content_of same ∙ of_json.array_is x)
json_within v (Json-F.Object x) is =
    let same : v ≡ json.Object x = search (rules, json.the_lemmas) in
    object_within of_json.content_of v x.entries (ap of_json.content_of same ∙ of_json.object_is x)

pub json_keys : (v : json.Value) (w : Path) → IsSome (map_of (of_json.content_of v) w) → HasUtf8Keys w
json_keys v w = keys_utf8 of_json.content_of (λ u. json_within u (json.out-Value u) refl) w v

toml_within : (v : toml.Value) (o : Toml-F toml.Value) → toml.out-Value v ≡ o → (s : Step) (c : Content) → child s (of_toml.content_of v) ≡ Some c → IsWithin of_toml.content_of s c
toml_within v (Toml-F.String x) is =
    let same : v ≡ toml.String x = search (rules, toml.the_lemmas) in
    scalar_within of_toml.content_of v _ (ap of_toml.content_of same ∙ of_toml.string_is x)
toml_within v (Toml-F.Integer x) is =
    let same : v ≡ toml.Integer x = search (rules, toml.the_lemmas) in
    scalar_within of_toml.content_of v _ (ap of_toml.content_of same ∙ of_toml.integer_is x)
toml_within v (Toml-F.Float x) is =
    let same : v ≡ toml.Float x = search (rules, toml.the_lemmas) in
    scalar_within of_toml.content_of v _ (ap of_toml.content_of same ∙ of_toml.float_is x)
toml_within v (Toml-F.Boolean x) is =
    let same : v ≡ toml.Boolean x = search (rules, toml.the_lemmas) in
    scalar_within of_toml.content_of v _ (ap of_toml.content_of same ∙ of_toml.boolean_is x)
toml_within v (Toml-F.Datetime x) is =
    let same : v ≡ toml.Datetime x = search (rules, toml.the_lemmas) in
    scalar_within of_toml.content_of v _ (ap of_toml.content_of same ∙ of_toml.datetime_is x)
toml_within v (Toml-F.Array x) is =
    let same : v ≡ toml.Array x = search (rules, toml.the_lemmas) in
    array_within of_toml.content_of v x.items (ap of_toml.content_of same ∙ of_toml.array_is x)
toml_within v (Toml-F.Table x) is =
    let same : v ≡ toml.Table x = search (rules, toml.the_lemmas) in
    object_within of_toml.content_of v x.entries (ap of_toml.content_of same ∙ of_toml.object_is x)

pub toml_keys : (v : toml.Value) (w : Path) → IsSome (map_of (of_toml.content_of v) w) → HasUtf8Keys w
toml_keys v w = keys_utf8 of_toml.content_of (λ u. toml_within u (toml.out-Value u) refl) w v
