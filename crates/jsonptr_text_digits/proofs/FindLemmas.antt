-- One token more.
use Rattle.std.proofs.Common.{◌≡◌, List, [], ◌∷◌, ◌++◌, refl, sym, ap, ◌∙◌, append_assoc}
use Rattle.json.specs.Token as spec
use Rattle.json.specs.Reads.{token_of}
use Rattle.json.specs.declared.token.Token.{Token}
use Rattle.json.specs.declared.token.Token.TheVariants.{BeginObject, EndObject, BeginArray, EndArray, Key, String, Number, Bool, Null, Bad}
use Rattle.jsonptr_text_digits.specs.Digits.{KeepsToken, AreKept}

kept_append : (xs : List spec.Token) (t : spec.Token) → AreKept xs → KeepsToken t → AreKept (xs ++ t ∷ [])
kept_append [] t h k = (k, tt)
kept_append (x ∷ xs) t h k = (h.0, kept_append xs t h.1 k)

-- the tokens up to here, and one more
pub one_kept : (all rest new : List spec.Token) (t : spec.Token) → rest ≡ t ∷ new → KeepsToken t
    → ((before : List spec.Token) × (all ≡ before ++ rest) × AreKept before)
    → (before : List spec.Token) × (all ≡ before ++ new) × AreKept before
one_kept all rest new t e k h =
    (h.0 ++ t ∷ [], h.1 ∙ ap (λ r. h.0 ++ r) e ∙ sym (append_assoc h.0 (t ∷ []) new), kept_append h.0 t h.2 k)

pub other_token : (t : Token) → ((s : _) → t ≡ Number s → ⊥) → KeepsToken (token_of t)
other_token BeginObject f = tt
other_token EndObject f = tt
other_token BeginArray f = tt
other_token EndArray f = tt
other_token (Key s) f = tt
other_token (String s) f = tt
other_token (Number s) f = absurd (f s refl)
other_token (Bool b) f = tt
other_token Null f = tt
other_token Bad f = tt
