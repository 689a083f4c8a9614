-- The text of a value that is expanded, and the value that it is read as.
use Rattle.std.proofs.Common.{◌≡◌, ℕ, zero, suc, ◌+◌, List, [], ◌∷◌, ◌++◌, Option, Some, None, option_map, option_and_then, Bool, true, false, cond, if◌then◌else◌, Result, Ok, Err, IfOk, IfSome, string_bytes, true≢false, refl, sym, ap, ◌∙◌, arith, append-nil}
use mathlib.Core.Path.{fun_ext}
use Rattle.std.specs.Prelude.{is_some}
use Rattle.std.specs.Str.{bytes_eq}
use Rattle.std.proofs.lemmas.Slice.Eq.{bytes_eq-Decides}
use Rattle.json.specs.Json as json
use Rattle.json.specs.Json.{Json, value, if_last}
use Rattle.json.specs.Lex.{tokens}
use Rattle.json.specs.Token.{Token}
use Rattle.json.specs.Tree.{json_tokens, depth}
use Rattle.json.proofs.Printed.Trees.{value-json_tokens}
use Rattle.json.proofs.Unique.Spelling.{value-json_tokens_back}
use Rattle.serde_json.specs.Data.{Data, array, object, no_items, item, no_members, put}
use Rattle.serde_json.specs.Read.{of_json, max_depth, read}
use Rattle.jsonptr.specs.Text.{Text}
use Rattle.jsonptr.specs.Node.{key, place, Path, an_object, an_array}
use Rattle.jsonptr.specs.Expansion.{is_append_index, with_one, expanded}
use Rattle.jsonptr.specs.Content.{label_of, content_at}
use Rattle.jsonptr.specs.Json.{content, nodes}
use Rattle.jsonptr_text_value.specs.Raw.{or_null, value_of_raw}
use Rattle.jsonptr_text_value.specs.declared.raw_value.RawValue.{RawValue}
use Rattle.jsonptr_text_layout.specs.declared.value_text.ValueText.{ValueText}
use Rattle.std.specs.declared.alloc.AllocError.{AllocError}
use Rattle.jsonptr_text_value.specs.Wrapping.{IsExpanded}
use Rattle.jsonptr_text_value.specs.Wrapping.{wrapped}

-- ---- the tokens

abbrev wrapped_json : List Text → Json → Json
wrapped_json [] j = j
wrapped_json (x ∷ xs) j = if is_append_index 0 x then json.array (json.item (wrapped_json xs j) json.no_items) else json.object (json.member x (wrapped_json xs j) json.no_members)

tokens_wrapped : (xs : List Text) (j : Json) → json_tokens (wrapped_json xs j) ≡ wrapped xs (json_tokens j)
tokens_wrapped [] j = refl
tokens_wrapped (x ∷ xs) j = at (tokens_wrapped xs j) (is_append_index 0 x)
  where
    at : json_tokens (wrapped_json xs j) ≡ wrapped xs (json_tokens j) → (b : Bool) → json_tokens (cond b (json.array (json.item (wrapped_json xs j) json.no_items)) (json.object (json.member x (wrapped_json xs j) json.no_members)))
        ≡ cond b (Token.begin_array ∷ (wrapped xs (json_tokens j) ++ Token.end_array ∷ [])) (Token.begin_object ∷ Token.key x ∷ (wrapped xs (json_tokens j) ++ Token.end_object ∷ []))
    at below true = ap (λ ts. Token.begin_array ∷ (ts ++ Token.end_array ∷ [])) below
    at below false = ap (λ ts. Token.begin_object ∷ Token.key x ∷ (ts ++ Token.end_object ∷ [])) below

-- the tokens of a value are those of no other
abbrev first_or : Json → Option (Json × List Token) → Json
first_or j None = j
first_or j (Some p) = p.0

one_json : (i j : Json) → json_tokens i ≡ json_tokens j → i ≡ j
one_json i j same = at (sym (value-json_tokens i d [] (omega arith)) ∙ ap (λ ts. value d (ts ++ [])) same ∙ value-json_tokens j d [] (omega arith))
  where
    d : ℕ
    d = depth i + depth j

    at : ◌≡◌ {A = Option (Json × List Token)} (Some (i, [])) (Some (j, [])) → i ≡ j
    at h = ap (first_or i) h

-- a text that is read has the tokens of one value
record IsRead (text : Text) (d : Data) : Type 0 where
  pub tree : Json
  pub spelled : tokens text ≡ json_tokens tree
  pub means : of_json tree ≡ Some d

is_read : (text : Text) (d : Data) → read text ≡ Some d → IsRead text d
is_read text d h = at (value max_depth (tokens text)) refl h
  where
    at : (o : Option (Json × List Token)) → value max_depth (tokens text) ≡ o → option_and_then of_json (option_and_then (λ p. if_last p.0 p.1) o) ≡ Some d → IsRead text d
    at None e g = absurd (cc)
    at (Some (j, [])) e g = record { tree = j; spelled = value-json_tokens_back max_depth (tokens text) [] j e ∙ append-nil (json_tokens j); means = g }
    at (Some (j, t ∷ ts)) e g = absurd (cc)

-- texts with the same tokens are read alike
pub read_same : (t u : Text) → tokens t ≡ tokens u → read t ≡ read u
read_same t u same = ap (λ (ts : List Token). option_and_then of_json (option_and_then (λ p. if_last p.0 p.1) (value max_depth ts))) same

-- ---- the value

pub same_data : (d e : Data) → Some d ≡ Some e → d ≡ e
same_data d e h = cc

one_element : (d : Data) → nodes (array (item d no_items)) ≡ with_one (an_array 1) (place 0) (nodes d)
one_element d = fun_ext at
  where
    at : (p : Path) → nodes (array (item d no_items)) p ≡ with_one (an_array 1) (place 0) (nodes d) p
    at [] = refl
    at (key k ∷ p) = refl
    at (place zero ∷ p) = refl
    at (place (suc i) ∷ p) = refl

not_key : (k l : Text) → bytes_eq k l ≡ false → bytes_eq l k ≡ false
not_key k l apart = at (bytes_eq l k) refl
  where
    at : (b : Bool) → bytes_eq l k ≡ b → b ≡ false
    at true e = absurd (true≢false (sym ((bytes_eq-Decides k l).1 (sym ((bytes_eq-Decides l k).0 e))) ∙ apart))
    at false e = refl

at_key : (d : Data) (p : Path) (b c : Bool) → b ≡ c → option_map label_of (option_and_then (content_at p) (cond b (Some (content d)) None)) ≡ cond c (nodes d p) None
at_key d p true true e = refl
at_key d p true false e = absurd (true≢false e)
at_key d p false true e = absurd (true≢false (sym e))
at_key d p false false e = refl

same_key : (k l : Text) → bytes_eq l k ≡ bytes_eq k l
same_key k l = at (bytes_eq k l) refl
  where
    at : (b : Bool) → bytes_eq k l ≡ b → bytes_eq l k ≡ b
    at true e = (bytes_eq-Decides l k).1 (sym ((bytes_eq-Decides k l).0 e))
    at false e = not_key k l e

one_member : (k : Text) (d : Data) → nodes (object (put k d no_members)) ≡ with_one an_object (key k) (nodes d)
one_member k d = fun_ext at
  where
    at : (p : Path) → nodes (object (put k d no_members)) p ≡ with_one an_object (key k) (nodes d) p
    at [] = refl
    at (place i ∷ p) = refl
    at (key l ∷ p) = at_key d p (bytes_eq l k) (bytes_eq k l) (same_key k l)

means_wrapped : (xs : List Text) (j : Json) (v e : Data) → of_json j ≡ Some v → of_json (wrapped_json xs j) ≡ Some e → nodes e ≡ expanded xs (nodes v)
means_wrapped [] j v e h g = ap nodes (same_data e v (sym g ∙ h))
means_wrapped (x ∷ xs) j v e h g = at (λ d is. means_wrapped xs j v d h is) (is_append_index 0 x) g
  where
    inner : Json
    inner = wrapped_json xs j

    Below : Type 0
    Below = (d : Data) → of_json inner ≡ Some d → nodes d ≡ expanded xs (nodes v)

    of_element : Below → (o : Option Data) → of_json inner ≡ o → option_map array (option_and_then (λ d. option_map (item d) (Some no_items)) o) ≡ Some e → nodes e ≡ with_one (an_array 1) (place 0) (expanded xs (nodes v))
    of_element below None is k = absurd (cc)
    of_element below (Some d) is k =
        let same : e ≡ array (item d no_items) = cc in
        ap nodes same ∙ one_element d ∙ ap (with_one (an_array 1) (place 0)) (below d is)

    of_member : Below → (o : Option Data) → of_json inner ≡ o → option_map object (option_and_then (λ d. Some (put x d no_members)) o) ≡ Some e → nodes e ≡ with_one an_object (key x) (expanded xs (nodes v))
    of_member below None is k = absurd (cc)
    of_member below (Some d) is k =
        let same : e ≡ object (put x d no_members) = cc in
        ap nodes same ∙ one_member x d ∙ ap (with_one an_object (key x)) (below d is)

    at : Below → (b : Bool) → of_json (cond b (json.array (json.item inner json.no_items)) (json.object (json.member x inner json.no_members))) ≡ Some e
        → nodes e ≡ cond b (with_one (an_array 1) (place 0) (expanded xs (nodes v))) (with_one an_object (key x) (expanded xs (nodes v)))
    at below true k = of_element below (of_json inner) refl k
    at below false k = of_member below (of_json inner) refl k

pub wrapped_means : (xs : List Text) (flat outer : Text) (v e : Data) → read flat ≡ Some v → read outer ≡ Some e → tokens outer ≡ wrapped xs (tokens flat) → nodes e ≡ expanded xs (nodes v)
wrapped_means xs flat outer v e h g same =
    let i = is_read flat v h in
    let o = is_read outer e g in
    let one : o.tree ≡ wrapped_json xs i.tree = one_json o.tree (wrapped_json xs i.tree) (sym o.spelled ∙ same ∙ ap (wrapped xs) i.spelled ∙ sym (tokens_wrapped xs i.tree)) in
    means_wrapped xs i.tree v e i.means (ap of_json (sym one) ∙ o.means)

-- the text of a raw value is read as its value
pub raw_reads : (raw : RawValue) → read (string_bytes raw.printed.flat) ≡ Some (value_of_raw raw)
raw_reads raw = at (read (string_bytes raw.printed.flat)) raw.is_json
  where
    at : (o : Option Data) → is_some o ≡ true → o ≡ Some (or_null o)
    at None h = absurd (true≢false (sym h))
    at (Some d) h = refl

pub expanded_if : (r : Result (Option ValueText) AllocError) (ts : List Text) (raw : RawValue) (flat : Text) → tokens flat ≡ wrapped ts (tokens (string_bytes raw.printed.flat))
    → IfOk r (λ o. IfSome o (λ t. tokens (string_bytes t.flat) ≡ tokens flat)) → IfOk r (λ o. IfSome o (λ t. (e : Data) × (read (string_bytes t.flat) ≡ Some e))) → IfOk r (λ o. IfSome o (IsExpanded ts (nodes (value_of_raw raw))))
expanded_if (Err e) ts raw flat same h g = h
expanded_if (Ok None) ts raw flat same h g = h
expanded_if (Ok (Some t)) ts raw flat same h g =
    (g.0, g.1, wrapped_means ts (string_bytes raw.printed.flat) (string_bytes t.flat) (value_of_raw raw) g.0 (raw_reads raw) g.1 (h ∙ same))

-- the tokens of a text that is laid out
pub tokens_if : (r : Result (Option ValueText) AllocError) (flat : Text) (ts : List Token) → tokens flat ≡ ts → IfOk r (λ o. IfSome o (λ t. tokens (string_bytes t.flat) ≡ tokens flat)) → IfOk r (λ o. IfSome o (λ t. tokens (string_bytes t.flat) ≡ ts))
tokens_if (Err e) flat ts same h = h
tokens_if (Ok None) flat ts same h = h
tokens_if (Ok (Some t)) flat ts same h = h ∙ same
