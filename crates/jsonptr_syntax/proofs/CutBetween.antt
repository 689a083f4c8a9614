-- A pointer's text cut between two tokens, and its list of tokens cut there.
use Rattle.jsonptr_syntax.specs.Private.{BeginsSegment, IsSplit}
use Rattle.std.proofs.Common.{◌≡◌, ◌≢◌, ℕ, List, [], ◌∷◌, ◌++◌, length, get_or, refl, sym, ap, ap₂, ◌∙◌, ⊎_elim, arith, add-zero}
use Rattle.std.proofs.lemmas.List.{get_or-append-add}
use Rattle.std.proofs.lemmas.List.Elements.{All-head, All-tail}
use Rattle.std.specs.List.{All}
use Rattle.jsonptr_grammar.specs.Text.{Text, esc, text, tokens_of}
use Rattle.jsonptr_grammar.proofs.EscapeLemmas.{no_slash-esc}
use Rattle.jsonptr_grammar.proofs.PointerLemmas.{BeginsSegment-text, tokens_of-text, text-append}
use Rattle.jsonptr_syntax.proofs.CutFirst.{begins_valid}
use Rattle.jsonptr_syntax.specs.Parts.{BeginsWith, EndsWith, SplitsAt}

-- ---- where a list's text is cut before a segment, the list is

over_token : (x tail f rest : Text) → All (λ b. b ≢ 47) x → BeginsSegment rest → x ++ tail ≡ f ++ rest → (g : Text) × (f ≡ x ++ g) × (tail ≡ g ++ rest)
over_token [] tail f rest h b e = (f, refl, e)
over_token (c ∷ x) tail [] rest h b e =
    absurd (⊎_elim (λ (slash : get_or rest 0 0 ≡ 47). All-head (λ b. b ≢ 47) c x h (ap (λ (z : Text). get_or z 0 0) e ∙ slash)) (λ (empty : rest ≡ []). cc) b)
over_token (c ∷ x) tail (d ∷ f) rest h b e =
    let same : (c ≡ d) × (x ++ tail ≡ f ++ rest) = (cc, cc) in
    let more = over_token x tail f rest (All-tail (λ b. b ≢ 47) c x h) b same.1 in
    (more.0, ap₂ (λ (p : ℕ) (q : Text). p ∷ q) (sym same.0) more.1, more.2)

record SplitList (ts : List Text) (front rest : Text) : Type 0 where
  before : List Text
  after : List Text
  list : ts ≡ before ++ after
  front_text : text before ≡ front
  rest_text : text after ≡ rest

one_more : (t : Text) (c : ℕ) (before : List Text) (rest front : Text) → 47 ≡ c → text before ≡ rest → front ≡ esc t ++ rest → text (t ∷ before) ≡ c ∷ front
one_more t c before rest front first same e = rw (same, e, ← first)

cons_split : (t : Text) (ts before after : List Text) → ts ≡ before ++ after → t ∷ ts ≡ (t ∷ before) ++ after
cons_split t ts before after e = ap (λ (l : List Text). t ∷ l) e

split_list : (ts : List Text) (front rest : Text) → text ts ≡ front ++ rest → BeginsSegment rest → SplitList ts front rest
split_list ts [] rest e b = record { before = []; after = ts; list = refl; front_text = refl; rest_text = e }
split_list [] (c ∷ front) rest e b = absurd (cc)
split_list (t ∷ ts) (c ∷ front) rest e b =
    let first : 47 ≡ c = cc in
    let over = over_token (esc t) (text ts) front rest (no_slash-esc t) b (cc) in
    let more = split_list ts over.0 rest over.2 b in
    record {
      before = t ∷ more.before;
      after = more.after;
      list = cons_split t ts more.before more.after more.list;
      front_text = one_more t c more.before over.0 front first more.front_text over.1;
      rest_text = more.rest_text;
    }

-- a pointer's text cut between tokens is two pointers, with its tokens in two
module _ (s front rest : Text) (valid : text (tokens_of s) ≡ s) (cut : IsSplit s front rest) where
  parts : SplitList (tokens_of s) front rest
  parts = split_list (tokens_of s) front rest (valid ∙ cut.split) cut.begins

  before_is : tokens_of front ≡ parts.before
  before_is = ap tokens_of (sym parts.front_text) ∙ tokens_of-text parts.before

  after_is : tokens_of rest ≡ parts.after
  after_is = ap tokens_of (sym parts.rest_text) ∙ tokens_of-text parts.after

  pub split_front_valid : text (tokens_of front) ≡ front
  split_front_valid = ap text before_is ∙ parts.front_text

  pub split_rest_valid : text (tokens_of rest) ≡ rest
  split_rest_valid = ap text after_is ∙ parts.rest_text

  pub split_tokens : tokens_of s ≡ tokens_of front ++ tokens_of rest
  split_tokens = parts.list ∙ ap₂ (λ (x y : List Text). x ++ y) (sym before_is) (sym after_is)

-- a prefix of a pointer's tokens is a prefix of its text
pub seam_of_front : (s u : Text) → text (tokens_of s) ≡ s → text (tokens_of u) ≡ u → (b : BeginsWith (tokens_of s) (tokens_of u)) → IsSplit s u (text b.0)
seam_of_front s u valid other b = record {
  split = sym valid ∙ ap text b.1 ∙ text-append (tokens_of u) b.0 ∙ ap (λ (x : Text). x ++ text b.0) other;
  begins = BeginsSegment-text b.0;
}

-- ---- a suffix of the tokens

-- a suffix of a pointer's tokens is a suffix of its text
pub text_of_end : (s u : Text) → text (tokens_of s) ≡ s → text (tokens_of u) ≡ u → (b : EndsWith (tokens_of s) (tokens_of u)) → s ≡ text b.0 ++ u
text_of_end s u valid other b = sym valid ∙ ap text b.1 ∙ text-append b.0 (tokens_of u) ∙ ap (λ (x : Text). text b.0 ++ x) other

-- a text in two parts, the second of which is a pointer
pub split_before_pointer : (s front u : Text) → text (tokens_of u) ≡ u → s ≡ front ++ u → IsSplit s front u
split_before_pointer s front u other e = record { split = e; begins = begins_valid u other }

-- ---- an offset in the text

pub seam_reads : (s front rest : Text) → s ≡ front ++ rest → get_or s (length front) 0 ≡ get_or rest 0 0
seam_reads s front rest e =
    ap (λ (x : Text). get_or x (length front) 0) e ∙ ap (λ (k : ℕ). get_or (front ++ rest) k 0) (sym (add-zero (length front))) ∙ get_or-append-add front rest 0 0

pub splits_at : (s front rest : Text) (offset : ℕ) → text (tokens_of s) ≡ s → IsSplit s front rest → length front ≡ offset → get_or rest 0 0 ≡ 47 → SplitsAt (tokens_of s) offset (tokens_of front) (tokens_of rest)
splits_at s front rest offset valid cut place slash = record {
  split = split_tokens s front rest valid cut;
  place = ap length (split_front_valid s front rest valid cut) ∙ place;
  shorter = λ none.
      let empty : rest ≡ [] = sym (split_rest_valid s front rest valid cut) ∙ ap text none in
      let zero_is : 0 ≡ 47 = ap (λ (x : Text). get_or x 0 0) (sym empty) ∙ slash in
      omega (arith, zero_is);
}

begins_some : (ts : List Text) → ts ≢ [] → get_or (text ts) 0 0 ≡ 47
begins_some [] some = absurd (some refl)
begins_some (t ∷ ts) some = refl

pub splits_nowhere : (s : Text) (offset : ℕ) → text (tokens_of s) ≡ s → get_or s offset 0 ≢ 47 → (front rest : List Text) → SplitsAt (tokens_of s) offset front rest → ⊥
splits_nowhere s offset valid other front rest at =
    let whole : s ≡ text front ++ text rest = sym valid ∙ ap text at.split ∙ text-append front rest in
    other (ap (λ (k : ℕ). get_or s k 0) (sym at.place) ∙ seam_reads s (text front) (text rest) whole ∙ begins_some rest at.shorter)
