-- The order of texts by bytes.
use Rattle.std.proofs.Common.{◌≡◌, ℕ, Bool, true, List, [], ◌∷◌, ◌++◌, refl, sym, ap, ap₂, ◌∙◌, arith}
use Rattle.std.proofs.lemmas.Bool.Decides.{nat_tests}
use Rattle.std.proofs.lemmas.Slice.Eq.{bytes_eq-Decides}
use Rattle.std.specs.Prelude.{◌↔◌}
use Rattle.std.proofs.lemmas.Cmp.{tied_itself}
use Rattle.std.specs.Cmp.Lexicographic.{slice_cmp, nat_list_cmp_total, texts_ties}
use Rattle.std.specs.Ordering.{is_eq, nat_cmp}
use Rattle.std.specs.Str.{bytes_eq}
use Rattle.std.specs.declared.cmp.Ordering.TheVariants.{Less, Equal}
use Rattle.jsonptr_grammar.specs.Text.{Text, esc, text, tokens_of}
use Rattle.jsonptr_grammar.proofs.PointerLemmas.{text-append, text_one}

same_byte : (b : ℕ) → nat_cmp b b ≡ Equal
same_byte b = grind (arith, nat_tests)

-- a text is less than one that goes on after it
pub front_less : (s : Text) (b : ℕ) (r : Text) → slice_cmp nat_cmp s (s ++ b ∷ r) ≡ Less
front_less [] b r = refl
front_less (c ∷ s) b r = rw (same_byte c) (front_less s b r)

-- and so are the texts of pointers, by their tokens
pub front_text_less : (s u : Text) (t : Text) (rest : List Text) → text (tokens_of s) ≡ s → text (tokens_of u) ≡ u → tokens_of u ≡ tokens_of s ++ t ∷ rest → slice_cmp nat_cmp s u ≡ Less
front_text_less s u t rest valid other e =
    let whole : u ≡ s ++ text (t ∷ rest) = sym other ∙ ap text e ∙ text-append (tokens_of s) (t ∷ rest) ∙ ap (λ (x : Text). x ++ text (t ∷ rest)) valid in
    ap (λ (x : Text). slice_cmp nat_cmp s x) whole ∙ front_less s 47 (esc t ++ text rest)

pub text_less : (ts rest : List Text) (t : Text) → slice_cmp nat_cmp (text ts) (text (ts ++ t ∷ rest)) ≡ Less
text_less ts rest t = rw (text-append ts (t ∷ rest)) (front_less (text ts) 47 (esc t ++ text rest))

-- comparing two pointers' texts decides whether the lists of tokens are equal
pub equal_text : (ts us : List Text) (r : Bool) → r ≡ bytes_eq (text ts) (text us) → (r ≡ true → ts ≡ us) × (ts ≡ us → r ≡ true)
equal_text ts us r e =
    let d = bytes_eq-Decides (text ts) (text us) in
    (λ yes. text_one ts us (d.0 (sym e ∙ yes)), λ same. e ∙ d.1 (ap text same))

-- the texts of two lists tie where the lists are equal
pub ties : (ts us : List Text) → (slice_cmp nat_cmp (text ts) (text us) ≡ Equal) ↔ (ts ≡ us)
ties ts us = (
  λ tied. (equal_text ts us _ refl).0 (texts_ties (text ts) (text us) ∙ ap is_eq tied),
  λ same. ap (λ (l : List Text). slice_cmp nat_cmp (text ts) (text l)) (sym same) ∙ tied_itself nat_list_cmp_total (text ts),
)

-- and so do the texts of two pointers
pub pointers_tie : (s u : Text) → text (tokens_of s) ≡ s → text (tokens_of u) ≡ u → (slice_cmp nat_cmp s u ≡ Equal) ↔ (tokens_of s ≡ tokens_of u)
pointers_tie s u valid other =
    let same_order : slice_cmp nat_cmp (text (tokens_of s)) (text (tokens_of u)) ≡ slice_cmp nat_cmp s u = ap₂ (λ (x y : Text). slice_cmp nat_cmp x y) valid other in (
      λ tied. (ties (tokens_of s) (tokens_of u)).0 (same_order ∙ tied),
      λ same. sym same_order ∙ (ties (tokens_of s) (tokens_of u)).1 same,
    )
