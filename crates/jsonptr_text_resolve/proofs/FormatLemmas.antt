-- A text that is read has no bad token, and is read by its tokens alone.
use Rattle.std.proofs.Common.{◌≡◌, ℕ, zero, suc, List, [], ◌∷◌, length, Option, Some, None, option_and_then, refl, sym, ap, ◌∙◌, subst}
use Rattle.json.specs.Token.{Token}
use Rattle.json.specs.Lex.{tokens}
use Rattle.json.specs.Json as json
use Rattle.json.specs.Json.{Json, Items, Members, Parse, parse_map, after_end_array, read_key, items_step, members_step, value_with}
use Rattle.json.proofs.Grammar.{left, left-parse_map, closed_array, key_token, read_key_is}
use Rattle.serde_json.specs.Data.{Data}
use Rattle.serde_json.specs.Read.{read, of_json, max_depth}
use Rattle.jsonptr.specs.Text.{Text}
use Rattle.jsonptr_text_resolve.specs.declared.format.Format.{Format}
use Rattle.jsonptr_text_resolve.specs.Format.{laid_out, IsFormatted, HasTokensOf}
use Rattle.jsonptr_text_resolve.specs.PrivateFormat.{HasBad}

-- `Leaves p`: a bad token before what `p` takes from some tokens is not in what it takes, so it is in the others
abbrev Leaves : {A : Type 0} → Parse A → Type 0
Leaves {A} p = (ts r : List Token) → left (p ts) ≡ Some r → HasBad ts → HasBad r

none : {P : Type 0} {A : Type 0} (a : A) → None ≡ Some a → P
none a e = let never : ⊥ = cc in absurd never

the_rest : (x r : List Token) → Some x ≡ Some r → HasBad x → HasBad r
the_rest x r e h = let same : x ≡ r = cc in subst HasBad same h

after_close : (ts r : List Token) → after_end_array ts ≡ Some r → HasBad ts → HasBad r
after_close ts r e h = subst HasBad (closed_array ts r e) h

after_key : (ts : List Token) (k : Option Text) (r : List Token) → read_key ts ≡ Some (k, r) → HasBad ts → HasBad r
after_key ts k r e h = by_key k (subst HasBad (read_key_is ts k r e) h)
  where
    by_key : (k : Option Text) → HasBad (key_token k ∷ r) → HasBad r
    by_key None h = h
    by_key (Some s) h = h

-- a value, and then more
then_more : {B : Type 0} (f : Json → B → B) (more : Parse B) (o : Option (Json × List Token)) (r : List Token) → Leaves more → ((x : List Token) → left o ≡ Some x → HasBad x)
    → left (option_and_then (λ q. parse_map (f q.0) (more q.1)) o) ≡ Some r → HasBad r
then_more f more None r again first e = none r e
then_more f more (Some q) r again first e = again q.1 r (sym (left-parse_map (f q.0) (more q.1)) ∙ e) (first q.1 refl)

module _ (p : Parse Json) (takes : Leaves p) where
  item_turn : (more : Parse Items) (ts r : List Token) (o : Option (List Token)) → Leaves more → after_end_array ts ≡ o → left (items_step p more ts o) ≡ Some r → HasBad ts → HasBad r
  item_turn more ts r (Some x) again e f h = the_rest x r f (after_close ts x e h)
  item_turn more ts r None again e f h = then_more json.item more (p ts) r again (λ x is. takes ts x is h) f

  leaves_items : (n : ℕ) → Leaves (json.items p n)
  unfolding json.items
  leaves_items zero ts r e h = none r e
  leaves_items (suc n) ts r e h = item_turn (json.items p n) ts r (after_end_array ts) (leaves_items n) refl e h

  member_turn : (more : Parse Members) (ts r : List Token) (o : Option (Option Text × List Token)) → Leaves more → read_key ts ≡ o
      → left (option_and_then (λ q. members_step p more q.0 q.1) o) ≡ Some r → HasBad ts → HasBad r
  member_turn more ts r None again e f h = none r f
  member_turn more ts r (Some (None, s)) again e f h = the_rest s r f (after_key ts None s e h)
  member_turn more ts r (Some (Some k, s)) again e f h = then_more (json.member k) more (p s) r again (λ x is. takes s x is (after_key ts (Some k) s e h)) f

  leaves_members : (n : ℕ) → Leaves (json.members p n)
  unfolding json.members
  leaves_members zero ts r e h = none r e
  leaves_members (suc n) ts r e h = member_turn (json.members p n) ts r (read_key ts) (leaves_members n) refl e h

leaves_with : (a : Parse Items) (o : Parse Members) → Leaves a → Leaves o → Leaves (value_with a o)
leaves_with a o p q [] r e h = none r e
leaves_with a o p q (Token.begin_object ∷ ts) r e h = q ts r (sym (left-parse_map json.object (o ts)) ∙ e) h
leaves_with a o p q (Token.end_object ∷ ts) r e h = none r e
leaves_with a o p q (Token.begin_array ∷ ts) r e h = p ts r (sym (left-parse_map json.array (a ts)) ∙ e) h
leaves_with a o p q (Token.end_array ∷ ts) r e h = none r e
leaves_with a o p q (Token.key s ∷ ts) r e h = none r e
leaves_with a o p q (Token.string s ∷ ts) r e h = the_rest ts r e h
leaves_with a o p q (Token.number s ∷ ts) r e h = the_rest ts r e h
leaves_with a o p q (Token.boolean b ∷ ts) r e h = the_rest ts r e h
leaves_with a o p q (Token.null ∷ ts) r e h = the_rest ts r e h
leaves_with a o p q (Token.bad ∷ ts) r e h = none r e

leaves_value : (depth : ℕ) → Leaves (json.value depth)
unfolding json.value
leaves_value zero = leaves_with (λ ts. None) (λ ts. None) (λ ts r e h. none r e) (λ ts r e h. none r e)
leaves_value (suc d) = leaves_with _ _ (λ ts. leaves_items (json.value d) (leaves_value d) (length ts) ts) (λ ts. leaves_members (json.value d) (leaves_value d) (length ts) ts)

pub read_has_no_bad : (text : Text) (d : Data) → read text ≡ Some d → HasBad (tokens text) → ⊥
read_has_no_bad text d e h = by_value (json.value max_depth (tokens text)) refl e
  where
    by_value : (o : Option (Json × List Token)) → json.value max_depth (tokens text) ≡ o → option_and_then of_json (option_and_then (λ p. json.if_last p.0 p.1) o) ≡ Some d → ⊥
    by_value None is e = none d e
    by_value (Some (j, [])) is e = leaves_value max_depth (tokens text) [] (ap left is) h
    by_value (Some (j, t ∷ ts)) is e = none d e

-- texts with the same tokens are read as the same document
pub read_by_tokens : (text new : Text) (d : Data) → tokens new ≡ tokens text → read text ≡ Some d → read new ≡ Some d
read_by_tokens text new d same is = ap (λ ts. option_and_then of_json (option_and_then (λ p. json.if_last p.0 p.1) (json.value max_depth ts))) same ∙ is

-- ---- a text that is laid out anew

pub never_bad : (text : Text) → ((d : Data) × (read text ≡ Some d)) → HasBad (tokens text) → ⊥
never_bad text is h = read_has_no_bad text is.0 is.1 h

-- a text with the tokens of one that is read is its form
pub is_form : (format : Format) (text new : Text) (d : Data) → read text ≡ Some d → HasTokensOf format text new → IsFormatted format text new
is_form format text new d is h =
    record { document = d; from = is; same = h.same; layout = h.layout; reads = read_by_tokens text new d h.same is }

pub has_tokens : (format : Format) (text new : Text) → new ≡ laid_out format (tokens text) → tokens (laid_out format (tokens text)) ≡ tokens text → HasTokensOf format text new
has_tokens format text new layout back = record { same = ap tokens layout ∙ back; layout = layout }

-- a text with a bad token is not read
pub not_read : (text : Text) → HasBad (tokens text) → read text ≡ None
not_read text h = by_outcome (read text) refl
  where
    by_outcome : (o : Option Data) → read text ≡ o → read text ≡ None
    by_outcome None is = is
    by_outcome (Some d) is = absurd (read_has_no_bad text d is h)
