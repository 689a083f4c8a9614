-- The tokens of a value that is read are good, all of them.
use Rattle.std.proofs.Common.{◌≡◌, ℕ, zero, suc, List, [], ◌∷◌, length, true, Option, Some, None, option_and_then, refl, sym, ◌∙◌, subst}
use Rattle.std.specs.Prelude.{⊤}
use Rattle.json.specs.Token.{Token}
use Rattle.json.specs.Json.{Json, array, object, Items, item, Members, member, Parse, parse_map, after_end_array, read_key, items_step, members_step, items, members, value_with, value}
use Rattle.json.specs.Align.{is_good}
use Rattle.json.proofs.Grammar.{left, left-parse_map, closed_array, key_token, read_key_is}

abbrev pub AreGood : List Token → Type 0
AreGood [] = ⊤
AreGood (t ∷ ts) = (is_good t ≡ true) × AreGood ts

abbrev Keeps : {A : Type 0} → Parse A → Type 0
Keeps {A} p = (ts r : List Token) → left (p ts) ≡ Some r → AreGood r → AreGood ts

not_found : {P : Type 0} (r : List Token) → None ≡ Some r → P
not_found r e = absurd (let wrong : ⊥ = cc in wrong)

same_rest : (x r : List Token) → Some x ≡ Some r → AreGood r → AreGood x
same_rest x r e g = let same : x ≡ r = cc in subst AreGood (sym same) g

then_more : {B : Type 0} (f : Json → B → B) (more : Parse B) (o : Option (Json × List Token)) (ts r : List Token) → Keeps more → ((x : List Token) → left o ≡ Some x → AreGood x → AreGood ts)
    → left (option_and_then (λ q. parse_map (f q.0) (more q.1)) o) ≡ Some r → AreGood r → AreGood ts
then_more f more None ts r again first e g = not_found r e
then_more f more (Some q) ts r again first e g = first q.1 refl (again q.1 r (sym (left-parse_map (f q.0) (more q.1)) ∙ e) g)

key_good : (k : Option (List ℕ)) → is_good (key_token k) ≡ true
key_good None = refl
key_good (Some k) = refl

module _ (p : Parse Json) (keeps : Keeps p) where
  item_turn : (more : Parse Items) (ts r : List Token) (o : Option (List Token)) → Keeps more → after_end_array ts ≡ o → left (items_step p more ts o) ≡ Some r → AreGood r → AreGood ts
  item_turn more ts r (Some x) again e f g = subst AreGood (sym (closed_array ts x e)) (refl, same_rest x r f g)
  item_turn more ts r None again e f g = then_more item more (p ts) ts r again (keeps ts) f g

  Keeps-items : (n : ℕ) → Keeps (items p n)
  unfolding items
  Keeps-items zero ts r e g = not_found r e
  Keeps-items (suc n) ts r e g = item_turn (items p n) ts r (after_end_array ts) (Keeps-items n) refl e g

  member_turn : (more : Parse Members) (ts r : List Token) (o : Option (Option (List ℕ) × List Token)) → Keeps more → read_key ts ≡ o
      → left (option_and_then (λ q. members_step p more q.0 q.1) o) ≡ Some r → AreGood r → AreGood ts
  member_turn more ts r None again e f g = not_found r f
  member_turn more ts r (Some (None, s)) again e f g = subst AreGood (sym (read_key_is ts None s e)) (refl, same_rest s r f g)
  member_turn more ts r (Some (Some k, s)) again e f g = subst AreGood (sym (read_key_is ts (Some k) s e)) (refl, then_more (member k) more (p s) s r again (keeps s) f g)

  Keeps-members : (n : ℕ) → Keeps (members p n)
  unfolding members
  Keeps-members zero ts r e g = not_found r e
  Keeps-members (suc n) ts r e g = member_turn (members p n) ts r (read_key ts) (Keeps-members n) refl e g

Keeps-value_with : (a : Parse Items) (o : Parse Members) → Keeps a → Keeps o → Keeps (value_with a o)
Keeps-value_with a o p q [] r e g = not_found r e
Keeps-value_with a o p q (Token.begin_object ∷ ts) r e g = (refl, q ts r (sym (left-parse_map object (o ts)) ∙ e) g)
Keeps-value_with a o p q (Token.end_object ∷ ts) r e g = not_found r e
Keeps-value_with a o p q (Token.begin_array ∷ ts) r e g = (refl, p ts r (sym (left-parse_map array (a ts)) ∙ e) g)
Keeps-value_with a o p q (Token.end_array ∷ ts) r e g = not_found r e
Keeps-value_with a o p q (Token.key s ∷ ts) r e g = not_found r e
Keeps-value_with a o p q (Token.string s ∷ ts) r e g = (refl, same_rest ts r e g)
Keeps-value_with a o p q (Token.number s ∷ ts) r e g = (refl, same_rest ts r e g)
Keeps-value_with a o p q (Token.boolean b ∷ ts) r e g = (refl, same_rest ts r e g)
Keeps-value_with a o p q (Token.null ∷ ts) r e g = (refl, same_rest ts r e g)
Keeps-value_with a o p q (Token.bad ∷ ts) r e g = not_found r e

pub value_good : (depth : ℕ) → Keeps (value depth)
unfolding value
value_good zero = Keeps-value_with (λ ts. None) (λ ts. None) (λ ts r e g. not_found r e) (λ ts r e g. not_found r e)
value_good (suc d) =
    Keeps-value_with (λ ts. items (value d) (length ts) ts) (λ ts. members (value d) (length ts) ts) (λ ts. Keeps-items (value d) (value_good d) (length ts) ts)
    (λ ts. Keeps-members (value d) (value_good d) (length ts) ts)
