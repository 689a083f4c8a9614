-- The first fault of a text, and what the passes that look for it know.
use Rattle.std.specs.Prelude.{MatchOption, IsSome}
use Rattle.jsonptr_grammar.specs.Text.{text, tokens_of, Text}
use Rattle.jsonptr_grammar.proofs.PointerLemmas.{text-tokens_of}
use Rattle.std.proofs.Common.{◌≡◌, ℕ, ◌+◌, ◌-◌, ◌<◌, Option, Some, None, [], ◌∷◌, length, get_or, take, drop, refl, sym, ap, ◌∙◌, subst, ⊎_elim, arith}
use Rattle.std.proofs.lemmas.List.{get_or-take, length-take-le, get_or-drop, length-drop}
use Rattle.std.proofs.lemmas.Bool.{cases_lt, cases_eq, eqb-true, eq-eqb}
use Rattle.memchr.specs.Find.{IsLastByte, is_byte}
use Rattle.jsonptr_grammar.specs.Grammar.{IsPointer, root}
use Rattle.jsonptr_grammar.specs.FirstFault.{IsFirst, IsLooseTilde, IsLastSlash, IsTildeFault}
use Rattle.jsonptr_grammar.proofs.FaultLemmas.{no_lack-IsPointer, no_tilde_fault-IsPointer}
use Rattle.jsonptr_grammar.proofs.ScanLemmas.{past_end}
use Rattle.jsonptr_syntax.specs.Private.{HasLooseTildeBefore, NoLooseTildeBefore}
use Rattle.jsonptr_syntax.specs.ParseError.{IsParseErrorOf}
use Rattle.jsonptr_syntax.specs.declared.parse_error.ParseError.{ParseError}
use Rattle.jsonptr_syntax.specs.declared.parse_error.ParseError.TheVariants.{NoLeadingSlash, InvalidEncoding}

-- ---- the last slash before a loose tilde

module _ (s : Text) (i : ℕ) (slash : get_or s 0 0 ≡ 47) (tilde : IsFirst (IsLooseTilde s) i) where
  inside : i < length s
  inside = ⊎_elim (λ below. below) (λ over. let e = past_end s i 126 over tilde.here.here in absurd (omega (arith, e))) (cases_lt i (length s))

  above : 0 < i
  above = ⊎_elim (λ zero. let e : get_or s 0 0 ≡ 126 = subst (λ (k : ℕ). get_or s k 0 ≡ 126) zero tilde.here.here in absurd (omega (arith, e, slash))) (λ other. omega arith) (cases_eq i 0)

  front_length : length (take i s) ≡ i
  front_length = length-take-le i s (omega (arith, inside))

  at_front : (k : ℕ) → k < i → get_or (take i s) k 0 ≡ get_or s k 0
  at_front k below = get_or-take i s k 0 below

  pub some_slash : (r : Option ℕ) → IsLastByte (is_byte 47) (take i s) r → IsSome r
  some_slash (Some p) h = refl
  some_slash None h = absurd (h 0 (omega arith) (omega (arith, above, front_length)) (eq-eqb _ _ (at_front 0 above ∙ slash)))

  pub tilde_fault_is : (p : ℕ) → IsLastByte (is_byte 47) (take i s) (Some p) → IsTildeFault s p (i - p)
  tilde_fault_is p h =
      let before : p < i = omega (arith, h.0.high, front_length) in
      let same : i ≡ p + (i - p) = omega arith in
      record {
        slash = slash;
        tilde = subst (λ (k : ℕ). IsFirst (IsLooseTilde s) k) same tilde;
        last_slash = subst (λ (k : ℕ). IsLastSlash s k p) same record {
          below = before;
          here = sym (at_front p before) ∙ eqb-true _ _ h.1;
          after = λ k low high is. h.0.after k (omega arith) (omega (arith, front_length)) (eq-eqb _ _ (at_front k high ∙ is));
        };
      }

-- ---- blocks with no loose tilde

-- m bytes from i on
module _ (s : Text) (i m : ℕ) where
  abbrev block : Text
  block = take m (drop i s)

  in_block : (j k : ℕ) → j < m → i + j ≡ k → get_or block j 0 ≡ get_or s k 0
  in_block j k below e = get_or-take m (drop i s) j 0 below ∙ get_or-drop i s j 0 ∙ ap (λ (x : ℕ). get_or s x 0) e

  loose_in_block : (j k : ℕ) → j + 1 < m → i + j ≡ k → IsLooseTilde s k → IsLooseTilde block j
  loose_in_block j k below e loose =
      let next = in_block (j + 1) (k + 1) (omega arith) (omega arith) in
      record {
        here = in_block j k (omega arith) e ∙ loose.here;
        no_zero = λ is. loose.no_zero (sym next ∙ is);
        no_one = λ is. loose.no_one (sym next ∙ is);
      }

  -- if they have no loose tilde before their last, the text has none before that offset
  pub sound_block : (n : ℕ) → NoLooseTildeBefore s i → (HasLooseTildeBefore block (length block - 1) → ⊥) → m ≡ n + 1 → i + n < length s → NoLooseTildeBefore s (i + n)
  sound_block n before none more inside k below loose =
      let whole : length block ≡ m = let left = length-drop i s in length-take-le m (drop i s) (omega arith) in
      ⊎_elim (λ early. before k early loose) (λ late. none (k - i, omega (arith, whole), loose_in_block (k - i) k (omega arith) (omega arith) loose)) (cases_lt k i)

-- ---- faults and pointers

pub nil_pointer : (s : Text) → length s < 1 → IsPointer s
nil_pointer [] h = root
nil_pointer (b ∷ bs) h = absurd (omega arith)

-- a text with a first fault is not a pointer
pub fault_no_pointer : (s : Text) (e : ParseError) → IsParseErrorOf s e → IsPointer s → ⊥
fault_no_pointer s NoLeadingSlash f p = no_lack-IsPointer p f
fault_no_pointer s (InvalidEncoding offset source) f p = no_tilde_fault-IsPointer offset source.offset p f.0

-- what the pass over a text's bytes returns holds of the text
module _ (s bytes : Text) (r : Option ParseError) (same : bytes ≡ s) (h : MatchOption r (IsPointer bytes) (IsParseErrorOf bytes)) where
  pub pointer_or_not : MatchOption r (IsPointer s) (λ _. IsPointer s → ⊥)
  pointer_or_not = by_answer r h
    where
      by_answer : (q : Option ParseError) → MatchOption q (IsPointer bytes) (IsParseErrorOf bytes) → MatchOption q (IsPointer s) (λ _. IsPointer s → ⊥)
      by_answer None k = subst IsPointer same k
      by_answer (Some f) k = λ p. fault_no_pointer bytes f k (subst IsPointer (sym same) p)

  pub valid_or_told : MatchOption r (text (tokens_of s) ≡ s) (IsParseErrorOf s)
  valid_or_told = by_answer r h
    where
      by_answer : (q : Option ParseError) → MatchOption q (IsPointer bytes) (IsParseErrorOf bytes) → MatchOption q (text (tokens_of s) ≡ s) (IsParseErrorOf s)
      by_answer None k = text-tokens_of (subst IsPointer same k)
      by_answer (Some f) k = subst (λ (x : Text). IsParseErrorOf x f) same k
