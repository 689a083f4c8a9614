-- Two pointers' texts cut where they part.
use Rattle.jsonptr_syntax.specs.Private.{BeginsSegment, AgreeUpTo, IsBoundary, IsCommonBoundary, IsSplit}
use Rattle.jsonptr_syntax.proofs.CutBetween.{split_front_valid, split_tokens, seam_reads}
use Rattle.std.proofs.Common.{◌≡◌, ◌≢◌, ℕ, ◌<◌, ◌≤◌, Some, [], ◌∷◌, ◌++◌, length, get_or, take, drop, sym, ap, ◌∙◌, subst, ⊎_elim, inl, inr, arith, take-append-drop, add-zero, List, append-nil}
use Rattle.std.proofs.lemmas.List.{get_or-take, get_or-drop, length-take-le, drop_all}
use Rattle.std.proofs.lemmas.Bool.{cases_lt, cases_eq, eqb-true, eq-eqb}
use Rattle.memchr.specs.Find.{Nowhere, Passes, IsLastByte, is_byte}
use Rattle.jsonptr_grammar.specs.Text.{Text, esc, text, tokens_of}
use Rattle.jsonptr_syntax.proofs.CutFirst.{begins_valid}
use Rattle.std.proofs.Math.Seq.{take-append_seam}
use Rattle.std.proofs.lemmas.List.Prefix.{front_fits, front_reads, front_from_reads}
use Rattle.jsonptr_grammar.proofs.PointerLemmas.{BeginsSegment-text, text-append, length-text-cons}
use Rattle.jsonptr_syntax.specs.Parts.{IsLongestCommonPrefix}

module _ (s u : Text) (n : ℕ) (agree : AgreeUpTo s u n) where
  -- they agree no further
  no_further : (m : ℕ) → m ≤ length s → m ≤ length u → ((k : ℕ) → k < m → get_or s k 0 ≡ get_or u k 0) → m ≤ n
  no_further m in_s in_u same =
      ⊎_elim
      (λ (over : n < m). absurd (agree.apart (omega (arith, over, in_s)) (omega (arith, over, in_u)) (same n over)))
      (λ (under : m ≤ n). under)
      (cases_lt n m)

  pub seam_at : IsBoundary s n → IsBoundary u n → IsCommonBoundary s u n
  seam_at first second = record {
    within_first = agree.within_first;
    within_second = agree.within_second;
    same = agree.same;
    first = first;
    second = second;
    last = λ m in_s in_u same _ _. no_further m in_s in_u same;
  }

  module _ (within : IsBoundary s n → IsBoundary u n → ⊥) where
    front_length : length (take n s) ≡ n
    front_length = length-take-le n s agree.within_first

    -- an offset where both may be cut has a slash
    slash_below : (m : ℕ) → m ≤ length s → m ≤ length u → ((k : ℕ) → k < m → get_or s k 0 ≡ get_or u k 0) → IsBoundary s m → IsBoundary u m → (m < n) × (get_or (take n s) m 0 ≡ 47)
    slash_below m in_s in_u same first second =
        let upto = no_further m in_s in_u same in
        ⊎_elim
        (λ (e : m ≡ n). absurd (within (subst (λ (k : ℕ). IsBoundary s k) e first) (subst (λ (k : ℕ). IsBoundary u k) e second)))
        (λ (ne : m ≢ n).
        let below : m < n = omega (arith, upto, ne) in
        (below, get_or-take n s m 0 below ∙ ⊎_elim (λ slash. slash) (λ (end : m ≡ length s). absurd (omega (arith, below, end, agree.within_first))) first))
        (cases_eq m n)

    pub seam_none : BeginsSegment s → BeginsSegment u → Nowhere (Passes (is_byte 47) (take n s)) 0 (length (take n s)) → IsCommonBoundary s u 0
    seam_none begins other none = record {
      within_first = omega arith;
      within_second = omega arith;
      same = λ k low. absurd (omega arith);
      first = ⊎_elim (λ slash. inl slash) (λ (e : s ≡ []). inr (sym (ap length e))) begins;
      second = ⊎_elim (λ slash. inl slash) (λ (e : u ≡ []). inr (sym (ap length e))) other;
      last = λ m in_s in_u same first second.
          let at = slash_below m in_s in_u same first second in
          absurd (none m (omega arith) (omega (arith, at.0, front_length)) (eq-eqb _ _ at.1));
    }

    pub seam_some : (i : ℕ) → IsLastByte (is_byte 47) (take n s) (Some i) → IsCommonBoundary s u i
    seam_some i h =
        let below : i < n = omega (arith, h.0.high, front_length) in
        let slash : get_or s i 0 ≡ 47 = sym (get_or-take n s i 0 below) ∙ eqb-true _ _ h.1 in
        record {
          within_first = omega (arith, below, agree.within_first);
          within_second = omega (arith, below, agree.within_second);
          same = λ k low. agree.same k (omega (arith, low, below));
          first = inl slash;
          second = inl (sym (agree.same i below) ∙ slash);
          last = λ m in_s in_u same first second.
              let at = slash_below m in_s in_u same first second in
              ⊎_elim
              (λ (over : i < m). absurd (h.0.after m (omega (arith, over)) (omega (arith, at.0, front_length)) (eq-eqb _ _ at.1)))
              (λ (under : m ≤ i). under)
              (cases_lt i m);
        }

-- ---- the longest common prefix

-- of two prefixes of one list, the one with the longer text is the longer
longer_front : (l r c d : List Text) → l ++ r ≡ c ++ d → length (text l) ≤ length (text c) → length l ≤ length c
longer_front [] r c d e h = omega arith
longer_front (x ∷ l) r [] d e h = absurd (omega arith)
longer_front (x ∷ l) r (y ∷ c) d e h =
    let same : (x ≡ y) × (l ++ r ≡ c ++ d) = (cc, cc) in
    let more = longer_front l r c d same.1 (omega (arith, h, length-text-cons x l, length-text-cons y c, ap (λ (z : Text). length (esc z)) same.0)) in
    omega (arith, more)

split_at_seam : (s : Text) (n : ℕ) → IsBoundary s n → IsSplit s (take n s) (drop n s)
split_at_seam s n seam = record {
  split = sym (take-append-drop n s);
  begins = ⊎_elim (λ slash. inl (get_or-drop n s 0 0 ∙ ap (λ (k : ℕ). get_or s k 0) (add-zero n) ∙ slash)) (λ (end : n ≡ length s). inr (ap (λ (k : ℕ). drop k s) end ∙ drop_all (length s) s (omega arith))) seam;
}

seam_of_text : (s front rest : Text) → s ≡ front ++ rest → BeginsSegment rest → IsBoundary s (length front)
seam_of_text s front rest e b = ⊎_elim (λ slash. inl (seam_reads s front rest e ∙ slash)) (λ (empty : rest ≡ []). inr (sym (ap length (e ∙ ap (λ (x : Text). front ++ x) empty ∙ append-nil front)))) b

module _ (s u : Text) (n : ℕ) (valid : text (tokens_of s) ≡ s) (other : text (tokens_of u) ≡ u) (seam : IsCommonBoundary s u n) where
  pub common_valid : text (tokens_of (take n s)) ≡ take n s
  common_valid = split_front_valid s (take n s) (drop n s) valid (split_at_seam s n seam.first)

  same_front : take n u ≡ take n s
  same_front =
      let short : length (take n s) ≡ n = length-take-le n s seam.within_first in
      let whole = front_from_reads 0 u (take n s) (omega (arith, short, seam.within_second)) (λ i low. sym (seam.same i (omega (arith, low, short))) ∙ sym (get_or-take n s i 0 (omega (arith, low, short)))) in
      subst (λ (k : ℕ). take k u ≡ take n s) short (ap (λ (x : Text). take (length (take n s)) x) whole ∙ take-append_seam (take n s) (drop (length (take n s)) u))

  upto : (l a b : List Text) → tokens_of s ≡ l ++ a → tokens_of u ≡ l ++ b → length (text l) ≤ n
  upto l a b e f =
      let in_s : s ≡ text l ++ text a = sym valid ∙ ap text e ∙ text-append l a in
      let in_u : u ≡ text l ++ text b = sym other ∙ ap text f ∙ text-append l b in
      seam.last (length (text l)) (front_fits s (text l) (text a) in_s) (front_fits u (text l) (text b) in_u)
      (λ k low. front_reads 0 s (text l) (text a) in_s k low ∙ sym (front_reads 0 u (text l) (text b) in_u k low))
      (seam_of_text s (text l) (text a) in_s (BeginsSegment-text a)) (seam_of_text u (text l) (text b) in_u (BeginsSegment-text b))

  pub common_front : IsLongestCommonPrefix (tokens_of s) (tokens_of u) (tokens_of (take n s))
  common_front =
      let first = split_tokens s (take n s) (drop n s) valid (split_at_seam s n seam.first) in
      let second = split_tokens u (take n u) (drop n u) other (split_at_seam u n seam.second) in
      record {
        first = (tokens_of (drop n s), first);
        second = (tokens_of (drop n u), second ∙ ap (λ (x : Text). tokens_of x ++ tokens_of (drop n u)) same_front);
        longest = λ l a b.
            longer_front l a.0 (tokens_of (take n s)) (tokens_of (drop n s)) (sym a.1 ∙ first)
            (omega (arith, upto l a.0 b.0 a.1 b.1, ap length common_valid, length-take-le n s seam.within_first));
      }

-- the same for bytes that are the texts', and for a prefix that is known by an equation
module _ (s u bytes others front : Text) (n : ℕ) (valid : text (tokens_of s) ≡ s) (other : text (tokens_of u) ≡ u) (same_s : bytes ≡ s) (same_u : others ≡ u) (seam : IsCommonBoundary bytes others n) (cut : front ≡ take n s) where
  seam_here : IsCommonBoundary s u n
  seam_here = subst (λ (x : Text). IsCommonBoundary s x n) same_u (subst (λ (x : Text). IsCommonBoundary x others n) same_s seam)

  pub common_valid_at : text (tokens_of front) ≡ front
  common_valid_at = rw cut (common_valid s u n valid other seam_here)

  pub common_front_at : IsLongestCommonPrefix (tokens_of s) (tokens_of u) (tokens_of front)
  common_front_at = rw cut (common_front s u n valid other seam_here)

-- a pointer's bytes are empty or begin with a slash
pub begins_bytes : (s bytes : Text) → bytes ≡ s → text (tokens_of s) ≡ s → BeginsSegment bytes
begins_bytes s bytes same valid = subst BeginsSegment (sym same) (begins_valid s valid)
