-- A text that is not a pointer has one first fault, which is within it.
use Rattle.std.proofs.Common.{zero, suc, ◌-◌, ◌+◌, ◌≢◌, add-one, ◌≡◌, ℕ, ◌<◌, ◌⊎◌, [], ◌∷◌, length, get_or, refl, sym, ◌∙◌, subst, inl, inr, ⊎_elim, arith}
use Rattle.std.specs.Prelude.{All}
use Rattle.std.proofs.lemmas.Bool.{cases_lt}
use Rattle.jsonptr_grammar.specs.Text.{Text}
use Rattle.jsonptr_grammar.specs.Grammar.{IsPointer}
use Rattle.jsonptr_grammar.specs.FirstFault.{LacksSlash, IsTildeFault, IsSlashAt, EndsEscape, IsLooseTilde, IsLastSlash, IsFirst}
use Rattle.jsonptr_grammar.proofs.FaultLemmas.{pointer_or_fault, IsTildeFault_one}
use Rattle.jsonptr_base.specs.declared.token.EncodingError.{EncodingError}
use Rattle.jsonptr_base.specs.declared.token.InvalidEncoding.{InvalidEncoding as Source}
use Rattle.jsonptr_base.specs.declared.token.InvalidEncoding.TheVariants.{Tilde, Slash}
use Rattle.jsonptr_base.specs.Token.{IsEncodingCause, IsEncodingErrorOf}
use Rattle.jsonptr_grammar.proofs.ScanLemmas.{past_end}
use Rattle.jsonptr_syntax.specs.ParseError.{IsParseErrorOf, pointer_offset_of, source_offset_of}
use Rattle.jsonptr_syntax.specs.declared.parse_error.ParseError.{ParseError}
use Rattle.jsonptr_syntax.specs.declared.parse_error.ParseError.TheVariants.{NoLeadingSlash, InvalidEncoding}

-- an empty text does not lack a slash, and a tilde is within the text
pub fault_inside : (s : Text) (e : ParseError) → IsParseErrorOf s e → pointer_offset_of e + source_offset_of e < length s
fault_inside [] NoLeadingSlash lacks = absurd (lacks.some refl)
fault_inside (b ∷ s) NoLeadingSlash lacks = omega arith
fault_inside s (InvalidEncoding p source) fault =
    ⊎_elim
    (λ below. below)
    (λ beyond. let none = past_end s (p + source.offset) 126 beyond fault.0.tilde.here.here in omega (arith, none))
    (cases_lt (p + source.offset) (length s))

pub fault_some : (s : Text) → IsPointer s ⊎ ((e : ParseError) × IsParseErrorOf s e)
fault_some s =
    ⊎_elim
    (λ pointer. inl pointer)
    (λ fault.
    inr
    (⊎_elim
    (λ (lacks : LacksSlash s). (NoLeadingSlash, lacks))
    (λ (t : (p : ℕ) × (o : ℕ) × IsTildeFault s p o). (InvalidEncoding t.0 record { offset = t.1; source = Tilde }, (t.2, refl)))
    fault))
    (pointer_or_fault s)

same_encoding : (e f : EncodingError) → e.offset ≡ f.offset → e.source ≡ Tilde → f.source ≡ Tilde → e ≡ f
same_encoding e f o a b = let s : e.source ≡ f.source = a ∙ sym b in λ j. record { offset = o j; source = s j }

pub fault_one : (s : Text) (e f : ParseError) → IsParseErrorOf s e → IsParseErrorOf s f → e ≡ f
fault_one s NoLeadingSlash NoLeadingSlash h k = refl
fault_one s NoLeadingSlash (InvalidEncoding p e) h k = absurd (h.no_slash k.0.slash)
fault_one s (InvalidEncoding p e) NoLeadingSlash h k = absurd (k.no_slash h.0.slash)
fault_one s (InvalidEncoding p e) (InvalidEncoding q f) h k =
    let places = IsTildeFault_one s p e.offset q f.offset h.0 k.0 in
    let same : e ≡ f = same_encoding e f places.1 h.1 k.1 in
    let place : p ≡ q = places.0 in
    cc

-- ---- the fault of a token and of the pointer of that token

module _ (t : Text) (o : ℕ) (no_slash : All (λ b. b ≢ 47) t) where
  -- there is no slash at any offset, the end included
  nowhere : (k : ℕ) → get_or t k 0 ≢ 47
  nowhere k is = ⊎_elim (λ below. no_slash k 0 below is) (λ past. let e = past_end t k 47 past is in omega (arith, e)) (cases_lt k (length t))

  -- a loose tilde after the slash ends an escape in the token
  ends_escape : (k : ℕ) → IsLooseTilde (47 ∷ t) k → EndsEscape t k
  ends_escape zero loose = absurd (omega (arith, loose.here))
  ends_escape (suc k) loose = record {
    inside = omega arith;
    after_tilde = let same : suc k - 1 ≡ k = omega arith in subst (λ (j : ℕ). get_or t j 0 ≡ 126) (sym same) loose.here;
    no_zero = λ is. loose.no_zero (at_next k 48 is);
    no_one = λ is. loose.no_one (at_next k 49 is);
    no_slash = nowhere (suc k);
  }
    where
      at_next : (k c : ℕ) → get_or t (suc k) 0 ≡ c → get_or (47 ∷ t) (suc k + 1) 0 ≡ c
      at_next k c is = rw add-one is

  -- and back
  bad_escape : (k : ℕ) → EndsEscape t k → IsLooseTilde (47 ∷ t) k
  bad_escape zero ends = absurd (omega (arith, ends.inside))
  bad_escape (suc k) ends = record {
    here = let same : suc k - 1 ≡ k = omega arith in subst (λ (j : ℕ). get_or t j 0 ≡ 126) same ends.after_tilde;
    no_zero = λ is. ends.no_zero (rw add-one at is);
    no_one = λ is. ends.no_one (rw add-one at is);
  }

  -- the slash is the last one before any offset of the token
  last_slash : 0 < o → IsLastSlash (47 ∷ t) o 0
  last_slash above = record {
    below = above;
    here = refl;
    after = behind;
  }
    where
      behind : (k : ℕ) → 0 < k → k < o → get_or (47 ∷ t) k 0 ≢ 47
      behind zero low high is = omega (arith, low)
      behind (suc k) low high is = nowhere k is

  pub source_is : EndsEscape t o → ((k : ℕ) → k < o → (IsSlashAt t k ⊎ EndsEscape t k) → ⊥) → IsTildeFault (47 ∷ t) 0 o
  source_is ends before =
      let same : o ≡ 0 + o = omega arith in
      record {
        slash = refl;
        tilde = subst (λ (k : ℕ). IsFirst (IsLooseTilde (47 ∷ t)) k) same record { here = bad_escape o ends; before = λ k below loose. before k below (inr (ends_escape k loose)) };
        last_slash = subst (λ (k : ℕ). IsLastSlash (47 ∷ t) k 0) same (last_slash ends.inside);
      }

pub source_law : (t : Text) (e : EncodingError) → All (λ b. b ≢ 47) t → IsEncodingErrorOf t e → IsParseErrorOf (47 ∷ t) (InvalidEncoding 0 e)
source_law t e no_slash fault =
    ⊎_elim
    (λ slash. absurd (nowhere t e.offset no_slash e.offset slash))
    (λ (ends : EndsEscape t e.offset). (source_is t e.offset no_slash ends fault.place.before, cause_is t e.offset e.source ends fault.cause))
    fault.place.here
  where
    cause_is : (t : Text) (o : ℕ) (source : Source) → EndsEscape t o → IsEncodingCause t o source → source ≡ Tilde
    cause_is t o Tilde ends cause = refl
    cause_is t o Slash ends cause = absurd (ends.no_slash cause)
