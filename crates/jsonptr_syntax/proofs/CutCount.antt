-- A pointer's text cut after its first tokens, by their count.
use Rattle.std.proofs.Common.{◌≡◌, ℕ, ◌+◌, ◌-◌, ◌<◌, ◌≤◌, List, [], ◌∷◌, ◌++◌, length, take, drop, refl, sym, ap, ◌∙◌, subst, inl, arith, length-append, append_assoc}
use Rattle.std.proofs.Math.Seq.{take-append_seam, drop-append_seam}
use Rattle.jsonptr_grammar.specs.Text.{Text, unesc, text, tokens_of}
use Rattle.jsonptr_grammar.proofs.PointerLemmas.{tokens_of-last}
use Rattle.jsonptr_syntax.specs.Private.{IsCut, IsSplit, IsEndOf}
use Rattle.jsonptr_syntax.proofs.CutFirst.{begins_valid}
use Rattle.jsonptr_syntax.proofs.CutBetween.{split_front_valid, split_rest_valid, split_tokens}

-- rest is what follows the first n tokens of s
pub record Skipped (s rest : Text) (n : ℕ) : Type 0 where
  pub front : Text
  pub cut : IsSplit s front rest
  pub count : length (tokens_of front) ≡ n

module _ (s : Text) (valid : text (tokens_of s) ≡ s) where
  pub skipped_none : Skipped s s 0
  skipped_none = record { front = []; cut = record { split = refl; begins = begins_valid s valid }; count = refl }

  pub skipped_begins : (rest : Text) (n : ℕ) (h : Skipped s rest n) → text (tokens_of rest) ≡ rest
  skipped_begins rest n h = split_rest_valid s h.front rest valid h.cut

  pub skipped_more : (rest first after : Text) (n : ℕ) → Skipped s rest n → IsCut rest first after → Skipped s after (n + 1)
  skipped_more rest first after n h cut =
      let longer : IsSplit s (h.front ++ 47 ∷ first) after = record {
        split = h.cut.split ∙ ap (λ (x : Text). h.front ++ x) cut.split ∙ sym (append_assoc h.front (47 ∷ first) after);
        begins = cut.begins;
      } in
      let one = tokens_of-last first cut.no_slash in
      let both = split_tokens (h.front ++ 47 ∷ first) h.front (47 ∷ first) (split_front_valid s (h.front ++ 47 ∷ first) after valid longer) record { split = refl; begins = inl refl } in
      record {
        front = h.front ++ 47 ∷ first;
        cut = longer;
        count = ap length both ∙ length-append (tokens_of h.front) (tokens_of (47 ∷ first)) ∙ more_one (tokens_of h.front) (tokens_of (47 ∷ first)) (unesc first) n h.count one;
      }
    where
      more_one : (ts us : List Text) (t : Text) (n : ℕ) → length ts ≡ n → us ≡ t ∷ [] → length ts + length us ≡ n + 1
      more_one ts us t n e f = let g = ap length f in omega (arith, e, g)

  pub skipped_few : (rest : Text) (i n : ℕ) → Skipped s rest i → rest ≡ [] → i < n → length (tokens_of s) < n
  skipped_few rest i n h empty below =
      let both = split_tokens s h.front rest valid h.cut in
      let none : length (tokens_of rest) ≡ 0 = ap (λ (x : Text). length (tokens_of x)) empty in
      omega (arith, below, none, h.count, ap length both, length-append (tokens_of h.front) (tokens_of rest))

pub skipped_shorter : (s rest : Text) (n : ℕ) → Skipped s rest n → length rest ≤ length s
skipped_shorter s rest n h = let whole = ap length h.cut.split ∙ length-append h.front rest in omega (arith, whole)

pub skipped_end : (s rest : Text) (n : ℕ) → Skipped s rest n → IsEndOf s n (length s - length rest)
skipped_end s rest n h =
    let whole : length s ≡ length h.front + length rest = ap length h.cut.split ∙ length-append h.front rest in
    let at : length h.front ≡ length s - length rest = omega (arith, whole) in
    let front : take (length h.front) s ≡ h.front = ap (λ (x : Text). take (length h.front) x) h.cut.split ∙ take-append_seam h.front rest in
    let back : drop (length h.front) s ≡ rest = ap (λ (x : Text). drop (length h.front) x) h.cut.split ∙ drop-append_seam h.front rest in
    subst (λ (k : ℕ). IsEndOf s n k) at record {
      cut = rw (front, back) h.cut;
      within = omega (arith, whole);
      count = ap (λ (x : Text). length (tokens_of x)) front ∙ h.count;
    }

pub skipped_all : (s rest : Text) (i n : ℕ) → Skipped s rest i → i ≡ n → IsEndOf s n (length s - length rest)
skipped_all s rest i n h e = subst (λ (k : ℕ). IsEndOf s k (length s - length rest)) e (skipped_end s rest i h)

-- ---- the tokens before that offset and from it on

split_lists : (ts us vs : List Text) (n : ℕ) → ts ≡ us ++ vs → length us ≡ n → (n ≤ length ts) × (us ≡ take n ts) × (vs ≡ drop n ts)
split_lists ts us vs n e same =
    let whole = ap length e ∙ length-append us vs in (
      omega (arith, whole, same),
      subst (λ (k : ℕ). us ≡ take k ts) same (sym (ap (λ (l : List Text). take (length us) l) e ∙ take-append_seam us vs)),
      subst (λ (k : ℕ). vs ≡ drop k ts) same (sym (ap (λ (l : List Text). drop (length us) l) e ∙ drop-append_seam us vs)),
    )

module _ (s front rest : Text) (n at : ℕ) (valid : text (tokens_of s) ≡ s) (end : IsEndOf s n at) (front_is : front ≡ take at s) (rest_is : rest ≡ drop at s) where
  cut_here : IsSplit s front rest
  cut_here = rw (front_is, rest_is) end.cut

  pub count_front : text (tokens_of front) ≡ front
  count_front = split_front_valid s front rest valid cut_here

  pub count_rest : text (tokens_of rest) ≡ rest
  count_rest = split_rest_valid s front rest valid cut_here

  pub count_tokens : (n ≤ length (tokens_of s)) × (tokens_of front ≡ take n (tokens_of s)) × (tokens_of rest ≡ drop n (tokens_of s))
  count_tokens = split_lists (tokens_of s) (tokens_of front) (tokens_of rest) n (split_tokens s front rest valid cut_here) (ap (λ (x : Text). length (tokens_of x)) front_is ∙ end.count)
