-- What the code reads.
use Rattle.std.proofs.Common.{◌≡◌, ℕ, ◌+◌, ◌<◌, [], ◌∷◌, ◌++◌, length, sym, ap, ◌∙◌, subst}
use Rattle.std.specs.Str.{IsUtf8, IsValidUpTo}
use Rattle.percent_encoding.specs.Percent.{percent_decode}
use Rattle.jsonptr.specs.Types.ParseError.{ParseError}
use Rattle.jsonptr.specs.ParseError.{IsParseErrorOf, pointer_offset_of, source_offset_of}
use Rattle.jsonptr.specs.Text.{Text}
use Rattle.jsonptr_syntax.proofs.FaultLaws.{fault_inside}
use Rattle.jsonptr_fragment.specs.Fragment.{Encodes}
use Rattle.jsonptr_fragment.specs.FragmentError.{Reaches, IsFragmentErrorOf}
use Rattle.jsonptr_fragment.specs.declared.error.FragmentError.TheVariants.{NotUtf8, NotPointer}
use Rattle.jsonptr_fragment.proofs.EncodingLemmas.{decode_encoded}

-- the bytes in the buffer are those that the text encodes
pub buffer_encodes : (s bs slice items empty more : Text) → Encodes s bs → slice ≡ items → items ≡ empty ++ more → empty ≡ [] → more ≡ percent_decode s → Encodes s slice
buffer_encodes s bs slice items empty more p e f g h =
    subst (λ (t : Text). Encodes s t) (sym (e ∙ f ∙ ap (λ (t : Text). t ++ more) g ∙ h ∙ decode_encoded p)) p

-- what `offset_of` returns
abbrev pub IsOffsetOf : Text → ℕ → ℕ → Type 0
IsOffsetOf s k offset =
    (bs cs back : Text) × Reaches (35 ∷ s) bs offset back × Encodes back cs × (percent_decode s ≡ bs ++ cs) × (length bs ≡ k)

module _ (s decoded : Text) (p : Encodes s decoded) where
  pub decodes : Encodes s (percent_decode s)
  decodes = subst (λ (t : Text). Encodes s t) (sym (decode_encoded p)) p

  pub inside : (k n : ℕ) → k ≡ n → n < length decoded → k < length (percent_decode s)
  inside k n same within =
      subst (λ (m : ℕ). m < length (percent_decode s)) (sym same) (subst (λ (t : Text). n < length t) (sym (decode_encoded p)) within)

  pub fault_within : (t : Text) (e : ParseError) (k : ℕ) → t ≡ decoded → IsParseErrorOf t e → k ≡ pointer_offset_of e + source_offset_of e → k < length (percent_decode s)
  fault_within t e k is fault at = inside k _ at (subst (λ (u : Text). pointer_offset_of e + source_offset_of e < length u) is (fault_inside t e fault))

  module _ (k offset : ℕ) (found : IsOffsetOf s k offset) where
    all_bytes : decoded ≡ found.0 ++ found.1
    all_bytes = sym (decode_encoded p) ∙ found.5

    pub read_not_utf8 : (n : ℕ) → k ≡ n → IsValidUpTo decoded n → IsFragmentErrorOf (35 ∷ s) (NotUtf8 offset)
    read_not_utf8 n same valid = (
      found.0,
      found.1,
      found.2,
      found.3,
      found.4,
      subst (λ (m : ℕ). IsValidUpTo (found.0 ++ found.1) m) (sym (found.6 ∙ same)) (subst (λ (t : Text). IsValidUpTo t n) all_bytes valid),
    )

    pub read_not_pointer : (t : Text) (e : ParseError) → t ≡ decoded → IsUtf8 decoded → IsParseErrorOf t e → k ≡ pointer_offset_of e + source_offset_of e → IsFragmentErrorOf (35 ∷ s) (NotPointer offset e)
    read_not_pointer t e is utf8 fault at = (
      found.0,
      found.1,
      found.2,
      found.3,
      found.4,
      subst (λ (u : Text). IsUtf8 u) all_bytes utf8,
      subst (λ (u : Text). IsParseErrorOf u e) (is ∙ all_bytes) fault,
      found.6 ∙ at,
    )
