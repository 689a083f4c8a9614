-- Where a comment begins, or a closing bracket stands after a comma, there is something to blank.
use Rattle.std.proofs.Common.{◌≡◌, ℕ, ◌+◌, ◌<◌, List, [], ◌∷◌, ◌++◌, Bool, true, false, ◌||◌, ◌==◌, Option, Some, length, slice_index, get_or, drop, refl, sym, ap, ◌∙◌, subst, append_assoc, arith, inl, inr, ◌⊎◌}
use Rattle.std.proofs.lemmas.Bool.{true≢false, false_from_ne_true, or_cases, eqb-true}
use Rattle.std.proofs.lemmas.List.{get_or_at}
use Rattle.json.specs.Word.{is_space}
use Rattle.jsonptr_comments.specs.Comments.{Piece, string, comment, other, Pieces, value_after, closes, all_without, NothingToBlank, IsPlain}
use Rattle.jsonptr_comments.specs.PrivateScanning.{value_at, Done}
use Rattle.jsonptr_comments.proofs.PieceLemmas.{all_without-append}
use Rattle.jsonptr_comments.proofs.UnchangedLemmas.{kept}
use Rattle.jsonptr_comments.proofs.FirstLemmas.{begins}
use Rattle.jsonptr_comments.proofs.StepLemmas.{first_byte, next_byte}

later_plain : (b : Bool) (ps more : List Piece) → NothingToBlank b (ps ++ more) → NothingToBlank (value_at b ps) more
later_plain b [] more h = h
later_plain b (string s ∷ ps) more h = later_plain true ps more h
later_plain b (comment s ∷ ps) more h = absurd h
later_plain b (other x ∷ ps) more h = later_plain (value_after b (other x)) ps more h.1

-- a text that begins with `//` or `/*` begins with a comment
comment_first : (b : Bool) (more : List Piece) (rest : List ℕ) (y : ℕ) → (y ≡ 47) ⊎ (y ≡ 42) → slice_index rest 0 ≡ y → Pieces (47 ∷ rest) more [] → NothingToBlank b more → ⊥
comment_first b [] rest y m e h n = let wrong = h in cc
comment_first b (string s ∷ more) rest y m e h n = omega (arith, ap (λ t. slice_index t 0) h.1)
comment_first b (comment s ∷ more) rest y m e h n = n
comment_first b (other x ∷ more) rest y (inl is) e h n =
    let marks = h.2.1 (sym (ap (λ t. slice_index t 0) h.1)) in
    let same : rest ≡ h.0 = let whole = h.1 in cc in
    marks.0 (ap (λ t. slice_index t 0) (sym same) ∙ e ∙ is)
comment_first b (other x ∷ more) rest y (inr is) e h n =
    let marks = h.2.1 (sym (ap (λ t. slice_index t 0) h.1)) in
    let same : rest ≡ h.0 = let whole = h.1 in cc in
    marks.1 (ap (λ t. slice_index t 0) (sym same) ∙ e ∙ is)

pub stops_at_comment : (t : List ℕ) (i : ℕ) (v : Bool) (comma : Option ℕ) → i < length t → get_or t i 0 ≡ 47 → (get_or t (i + 1) 0 ≡ 47) ⊎ (get_or t (i + 1) 0 ≡ 42) → Done t t i v comma → IsPlain t → ⊥
stops_at_comment t i v comma l x m d p =
    let h = begins t d.ps p.0 (drop i t) d.pieces p.1 in
    let plain = later_plain false d.ps h.0 (subst (λ (qs : List Piece). NothingToBlank false qs) h.1 p.2) in
    comment_first (value_at false d.ps) h.0 (drop (i + 1) t) (get_or t (i + 1) 0) m (next_byte t i) (subst (λ (r : List ℕ). Pieces r h.0 []) (first_byte t i 47 l x) h.2) plain

no_space : (x : ℕ) → ((x == 93) || (x == 125)) ≡ true → is_space x ≡ false
no_space x e =
    false_from_ne_true (is_space x)
    (λ s. elim (or_cases (x == 93) (x == 125) e) [
      | inl f ↦ true≢false (sym s ∙ ap is_space (eqb-true x 93 f))
      | inr f ↦ true≢false (sym s ∙ ap is_space (eqb-true x 125 f))
    ])

-- a text that begins with a closing bracket has it as its first piece
bracket_first : (x : ℕ) (rest : List ℕ) (more : List Piece) → ((x == 93) || (x == 125)) ≡ true → Pieces (x ∷ rest) more [] → closes more false ≡ true
bracket_first x rest [] c h = let wrong = h in cc
bracket_first x rest (string s ∷ more) c h = absurd (true≢false (sym c ∙ ap (λ t. (slice_index t 0 == 93) || (slice_index t 0 == 125)) h.1))
bracket_first x rest (comment s ∷ more) c h = absurd (true≢false (sym c ∙ ap (λ t. (slice_index t 0 == 93) || (slice_index t 0 == 125)) h.1))
bracket_first x rest (other y ∷ more) c h =
    let same : x ≡ y = ap (λ t. slice_index t 0) h.1 in
    let closing : ((y == 93) || (y == 125)) ≡ true = subst (λ (z : ℕ). ((z == 93) || (z == 125)) ≡ true) same c in
    let space = no_space y closing in
    rw (space, closing) refl

pub stops_at_bracket : (t : List ℕ) (i k : ℕ) (v : Bool) → i < length t → ((get_or t i 0 == 93) || (get_or t i 0 == 125)) ≡ true → Done t t i v (Some k) → IsPlain t → ⊥
stops_at_bracket t i k v l c d p =
    let h = begins t d.ps p.0 (drop i t) d.pieces p.1 in
    let x = get_or t i 0 in
    let more = h.0 in
    let closing = bracket_first x (drop (i + 1) t) more c (subst (λ (r : List ℕ). Pieces r more []) (first_byte t i x l refl) h.2) in
    let a = d.pends.0 in
    let b = d.pends.1 in
    let z = all_without (value_at false d.ps) more false in
    let as_kept : all_without false p.0 false ≡ t = kept false p.0 t p.1 p.2 in
    let blank : t ≡ a ++ 32 ∷ (b ++ z) =
    sym as_kept ∙ ap (λ qs. all_without false qs false) h.1 ∙ all_without-append false d.ps more false ∙ ap (λ e. all_without false d.ps e ++ z) closing ∙ ap (λ r. r ++ z) d.pends.4 ∙ append_assoc a (32 ∷ b) z in
    let comma : t ≡ a ++ 44 ∷ (b ++ drop i t) = d.left ∙ ap (λ r. r ++ drop i t) d.pends.3 ∙ append_assoc a (44 ∷ b) (drop i t) in
    let one : get_or t (length a) 0 ≡ 32 = ap (λ r. get_or r (length a) 0) blank ∙ get_or_at a 32 (b ++ z) 0 (length a) refl in
    let two : get_or t (length a) 0 ≡ 44 = ap (λ r. get_or r (length a) 0) comma ∙ get_or_at a 44 (b ++ drop i t) 0 (length a) refl in
    omega (arith, one, two)
