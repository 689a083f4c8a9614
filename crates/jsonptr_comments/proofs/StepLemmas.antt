-- The pieces of a text, as the code finds them.
use Rattle.std.proofs.Common.{◌≡◌, ◌≢◌, ℕ, ◌+◌, ◌-◌, ◌<◌, ◌≤◌, List, [], ◌∷◌, ◌++◌, Bool, true, false, ◌||◌, ◌==◌, not, Option, Some, None, length, map, take, drop, get_or, slice_index, refl, sym, ap, ◌∙◌, subst, append_assoc, length-append, length-drop, arith, inl, inr, ◌⊎◌, IsUtf8, IsCharBoundary, eqb-true, ne_eqb, take_at, take-append-drop, get_or-drop, add-zero}
use Rattle.std.proofs.lemmas.Bool.{or_cases}
use Rattle.std.proofs.lemmas.List.{drop_more, length-map, length-take-le, get_or_at}
use Rattle.std.proofs.lemmas.Str.{IsCharBoundary-before_ascii, IsCharBoundary-after_ascii, IsCharBoundary-end}
use Rattle.json.specs.Word.{is_space}
use Rattle.jsonptr_comments.specs.Comments.{Piece, string, comment, other, spelled, IsWhole, Pieces, IsLineEnd, IsUnterminated, value_after, closes, without, blank, is_break}
use Rattle.jsonptr_comments.specs.PrivateScanning.{after_string, after_line, after_block, Done, blanked_comma}
use Rattle.jsonptr_comments.proofs.ScanningLemmas.{after_string-is, after_line-is, after_block-some, after_block-none}
use Rattle.jsonptr_comments.proofs.PieceLemmas.{same_length}
use Rattle.jsonptr_comments.proofs.DoneLemmas.{done_kept, done_blank, done_comma, done_closing, utf8_replaced, blanks_ascii}

-- the byte at i, and what follows it
pub first_byte : (t : List ℕ) (i x : ℕ) → i < length t → get_or t i 0 ≡ x → drop i t ≡ x ∷ drop (i + 1) t
first_byte t i x l e = drop_more t i 0 l ∙ ap (λ y. y ∷ drop (i + 1) t) e

pub two_bytes : (t : List ℕ) (i x y : ℕ) → i + 1 < length t → get_or t i 0 ≡ x → get_or t (i + 1) 0 ≡ y → drop i t ≡ x ∷ y ∷ drop (i + 2) t
two_bytes t i x y l e f =
    let n : i + 1 + 1 ≡ i + 2 = omega arith in
    first_byte t i x (omega arith) e ∙ ap (λ r. x ∷ r) (first_byte t (i + 1) y l f ∙ ap (λ m. y ∷ drop m t) n)

-- where the text goes on at j, s reaches from i to j
length_le : (t : List ℕ) (i j : ℕ) (s : List ℕ) → i ≤ length t → j ≤ length t → drop i t ≡ s ++ drop j t → length t - i ≡ length s + (length t - j)
length_le t i j s l m e = sym (length-drop i t) ∙ ap length e ∙ length-append s (drop j t) ∙ ap (λ n. length s + n) (length-drop j t)

spans : (t : List ℕ) (i j : ℕ) (s : List ℕ) → i ≤ length t → j ≤ length t → drop i t ≡ s ++ drop j t → j ≡ i + length s
spans t i j s l m e = omega (arith, ap length e, length-drop i t, length-drop j t, length-append s (drop j t), length_le t i j s l m e)

-- ---- bytes that stand for themselves

pub done_string : (all t : List ℕ) (i j : ℕ) (v : Bool) (comma : Option ℕ) → i < length t → get_or t i 0 ≡ 34 → drop j t ≡ after_string (drop (i + 1) t) → j ≤ length t
    → Done all t i v comma → Done all t j true None
done_string all t i j v comma l x e m d =
    let h = after_string-is (drop (i + 1) t) in
    let s = h.0 in
    let is : drop i t ≡ (34 ∷ s) ++ drop j t = first_byte t i 34 l x ∙ ap (λ r. 34 ∷ r) (h.1 ∙ ap (λ r. s ++ r) (sym e)) in
    done_kept all t i v comma d (string s) (drop j t) is (subst (λ (r : List ℕ). IsWhole (string s) r) (sym e) h.2) (λ c. refl) (λ c. refl) j
    (spans t i j (34 ∷ s) (omega arith) m is) true refl

pub done_late_comma : (all t : List ℕ) (i : ℕ) (comma : Option ℕ) → i < length t → get_or t i 0 ≡ 44 → Done all t i true comma → Done all t (i + 1) false (Some i)
done_late_comma all t i comma l x d = done_comma all t i comma d (drop (i + 1) t) (first_byte t i 44 l x)

pub done_early_comma : (all t : List ℕ) (i : ℕ) (comma : Option ℕ) → i < length t → get_or t i 0 ≡ 44 → Done all t i false comma → Done all t (i + 1) false None
done_early_comma all t i comma l x d =
    done_kept all t i false comma d (other 44) (drop (i + 1) t) (first_byte t i 44 l x) (λ e. omega (arith, e), λ e. absurd (omega (arith, e))) (λ c. refl) (λ c. refl) (i + 1) refl false refl

closing_at : (all t : List ℕ) (i : ℕ) (v : Bool) (comma : Option ℕ) (x : ℕ) → i < length t → get_or t i 0 ≡ x → (x ≡ 93) ⊎ (x ≡ 125) → Done all t i v comma → Done all (blanked_comma comma t) (i + 1) true None
closing_at all t i v comma x l e (inl f) d =
    done_closing all t i v comma d 93 (drop (i + 1) t) (first_byte t i 93 l (e ∙ f)) (λ g. omega (arith, g), λ g. absurd (omega (arith, g))) (λ c. refl) (λ c. refl) refl
closing_at all t i v comma x l e (inr f) d =
    done_closing all t i v comma d 125 (drop (i + 1) t) (first_byte t i 125 l (e ∙ f)) (λ g. omega (arith, g), λ g. absurd (omega (arith, g))) (λ c. refl) (λ c. refl) refl

pub which : (x : ℕ) → ((x == 93) || (x == 125)) ≡ true → (x ≡ 93) ⊎ (x ≡ 125)
which x h = elim (or_cases (x == 93) (x == 125) h) [ inl e ↦ inl (eqb-true x 93 e) | inr e ↦ inr (eqb-true x 125 e) ]

pub done_bracket : (all t : List ℕ) (i : ℕ) (v : Bool) (comma : Option ℕ) → i < length t → ((get_or t i 0 == 93) || (get_or t i 0 == 125)) ≡ true → Done all t i v comma → Done all (blanked_comma comma t) (i + 1) true None
done_bracket all t i v comma l h d = closing_at all t i v comma (get_or t i 0) l refl (which (get_or t i 0) h) d

pub space_at : (all t : List ℕ) (i : ℕ) (v : Bool) (comma : Option ℕ) (x : ℕ) → i < length t → get_or t i 0 ≡ x → x ≢ 34 → x ≢ 47 → x ≢ 44 → is_space x ≡ true → Done all t i v comma → Done all t (i + 1) v comma
space_at all t i v comma x l e q s c b d =
    let no = ne_eqb x 44 c in
    let keeps : (a : Bool) → without v (other x) a ≡ x ∷ [] = λ a. rw no refl in
    let passes : (a : Bool) → closes (other x ∷ []) a ≡ a = λ a. rw b refl in
    let same : v ≡ value_after v (other x) = rw b refl in
    let is = first_byte t i x l e in
    done_blank all t i v comma d (other x) (drop (i + 1) t) (x ∷ []) is (q, λ f. absurd (s f)) passes keeps refl
    t (sym (ap (λ r. take i t ++ r) (sym is) ∙ take-append-drop i t)) d.utf8 (i + 1) refl same

pub not_not : (b : Bool) → not (not b) ≡ b
not_not true = refl
not_not false = refl

pub plain_at : (all t : List ℕ) (i : ℕ) (v : Bool) (comma : Option ℕ) (x : ℕ) (w : Bool) → i < length t → get_or t i 0 ≡ x → x ≢ 34 → x ≢ 44 → is_space x ≡ false → ((x == 93) || (x == 125)) ≡ false → ((x == 58) || (x == 91) || (x == 123)) ≡ not w
    → (x ≡ 47 → (slice_index (drop (i + 1) t) 0 ≢ 47) × (slice_index (drop (i + 1) t) 0 ≢ 42)) → Done all t i v comma → Done all t (i + 1) w None
plain_at all t i v comma x w l e q c space closing opens s d =
    let no = ne_eqb x 44 c in
    let keeps : (a : Bool) → without v (other x) a ≡ x ∷ [] = λ a. rw no refl in
    let stops : (a : Bool) → closes (other x ∷ []) a ≡ false = λ a. rw (space, closing) refl in
    let value : w ≡ value_after v (other x) = rw (space, no, opens) (sym (not_not w)) in
    done_kept all t i v comma d (other x) (drop (i + 1) t) (first_byte t i x l e) (q, s) stops keeps (i + 1) refl w value

pub next_byte : (t : List ℕ) (i : ℕ) → slice_index (drop (i + 1) t) 0 ≡ get_or t (i + 1) 0
next_byte t i = get_or-drop (i + 1) t 0 0 ∙ ap (λ n. get_or t n 0) (add-zero (i + 1))

-- a slash that begins no comment
pub done_slash : (all t : List ℕ) (i : ℕ) (v : Bool) (comma : Option ℕ) → i < length t → get_or t i 0 ≡ 47 → get_or t (i + 1) 0 ≢ 47 → get_or t (i + 1) 0 ≢ 42 → Done all t i v comma → Done all t (i + 1) true None
done_slash all t i v comma l x n m d =
    plain_at all t i v comma 47 true l x (λ e. omega (arith, e)) (λ e. omega (arith, e)) refl refl refl (λ _. (λ e. n (sym (next_byte t i) ∙ e), λ e. m (sym (next_byte t i) ∙ e))) d

-- ---- comments

commented : (all t : List ℕ) (i j : ℕ) (v : Bool) (comma : Option ℕ) (p : Piece) → i < length t → j ≤ length t → get_or t i 0 ≡ 47 → drop i t ≡ spelled p ++ drop j t → IsWhole p (drop j t)
    → ((c : Bool) → closes (p ∷ []) c ≡ c) → ((c : Bool) → without v p c ≡ map blank (spelled p)) → v ≡ value_after v p → IsCharBoundary t j
    → Done all t i v comma → Done all (take i t ++ (map blank (take (j - i) (drop i t)) ++ drop j t)) j v comma
commented all t i j v comma p l m x is stands cl wo same to d =
    let front = take i t in
    let after = drop j t in
    let len = spans t i j (spelled p) (omega arith) m is in
    let middle : take (j - i) (drop i t) ≡ spelled p = ap (λ r. take (j - i) r) is ∙ take_at (spelled p) after (j - i) (omega arith) in
    let whole : t ≡ front ++ (spelled p ++ after) = sym (ap (λ r. front ++ r) (sym is) ∙ take-append-drop i t) in
    let front_len : length front ≡ i = length-take-le i t (omega arith) in
    let mid_len : length (front ++ spelled p) ≡ j = length-append front (spelled p) ∙ ap (λ n. n + length (spelled p)) front_len ∙ sym len in
    let from : IsCharBoundary t i = IsCharBoundary-before_ascii t i l (omega (arith, x)) in
    let u : IsUtf8 (front ++ (map blank (spelled p) ++ after)) =
    utf8_replaced front (spelled p) (map blank (spelled p)) after (subst (λ (r : List ℕ). IsUtf8 r) whole d.utf8)
    (subst (λ (n : ℕ). IsCharBoundary (front ++ (spelled p ++ after)) n) (sym front_len) (subst (λ (r : List ℕ). IsCharBoundary r i) whole from))
    (subst (λ (n : ℕ). IsCharBoundary (front ++ (spelled p ++ after)) n) (sym mid_len) (subst (λ (r : List ℕ). IsCharBoundary r j) whole to)) (blanks_ascii (spelled p)) in
    subst (λ (w : List ℕ). Done all (front ++ (map blank w ++ after)) j v comma) (sym middle)
    (done_blank all t i v comma d p after (map blank (spelled p)) is stands cl wo (length-map (spelled p) blank) (front ++ (map blank (spelled p) ++ after)) refl u j len same)

break_small : (x : ℕ) → is_break x ≡ true → x < 128
break_small x e = elim (or_cases (x == 10) (x == 13) e) [ inl h ↦ omega (arith, eqb-true x 10 h) | inr h ↦ omega (arith, eqb-true x 13 h) ]

line_boundary : (t r : List ℕ) (j : ℕ) → j ≤ length t → drop j t ≡ r → IsLineEnd r → IsCharBoundary t j
line_boundary t [] j l e h = subst (λ (n : ℕ). IsCharBoundary t n) (omega (arith, ap length e, length-drop j t)) (IsCharBoundary-end t)
line_boundary t (x ∷ r) j l e h =
    let within : j < length t = omega (arith, ap length e, length-drop j t) in
    let is : get_or t j 0 ≡ x = let same = sym (drop_more t j 0 within) ∙ e in cc in
    IsCharBoundary-before_ascii t j within (omega (arith, is, break_small x h))

pub done_line : (all t : List ℕ) (i j : ℕ) (v : Bool) (comma : Option ℕ) → i + 1 < length t → get_or t i 0 ≡ 47 → get_or t (i + 1) 0 ≡ 47 → drop j t ≡ after_line (drop (i + 2) t) → j ≤ length t
    → Done all t i v comma → Done all (take i t ++ (map blank (take (j - i) (drop i t)) ++ drop j t)) j v comma
done_line all t i j v comma l x y e m d =
    let h = after_line-is (drop (i + 2) t) in
    let s = h.0 in
    let is : drop i t ≡ (47 ∷ 47 ∷ s) ++ drop j t = two_bytes t i 47 47 l x y ∙ ap (λ r. 47 ∷ 47 ∷ r) (h.1 ∙ ap (λ r. s ++ r) (sym e)) in
    commented all t i j v comma (comment (47 ∷ s)) (omega arith) m x is (s, inl (refl, h.2, subst IsLineEnd (sym e) h.3)) (λ c. refl) (λ c. refl) refl
    (line_boundary t (after_line (drop (i + 2) t)) j m e h.3) d

block_boundary : (t : List ℕ) (i j : ℕ) (s : List ℕ) → i ≤ length t → j ≤ length t → drop i t ≡ 47 ∷ 42 ∷ (s ++ 42 ∷ 47 ∷ drop j t) → IsUtf8 t → IsCharBoundary t j
block_boundary t i j s l m is u =
    let p = 47 ∷ 42 ∷ (s ++ 42 ∷ []) in
    let k = length p in
    let e : drop i t ≡ p ++ (47 ∷ drop j t) = is ∙ ap (λ r. 47 ∷ 42 ∷ r) (sym (append_assoc s (42 ∷ []) (47 ∷ drop j t))) in
    let byte : get_or t (i + k) 0 ≡ 47 = sym (get_or-drop i t k 0) ∙ ap (λ r. get_or r k 0) e ∙ get_or_at p 47 (drop j t) 0 k refl in
    let len : length t - i ≡ k + (1 + (length t - j)) =
    sym (length-drop i t) ∙ ap length e ∙ length-append p (47 ∷ drop j t) ∙ ap (λ n. k + n) (omega (arith, length-drop j t)) in
    let last : i + k + 1 ≡ j = omega arith in
    subst (λ (n : ℕ). IsCharBoundary t n) last (IsCharBoundary-after_ascii t (i + k) u (omega arith) (omega (arith, byte)))

pub done_block : (all t : List ℕ) (i j : ℕ) (v : Bool) (comma : Option ℕ) → i + 1 < length t → get_or t i 0 ≡ 47 → get_or t (i + 1) 0 ≡ 42 → after_block (drop (i + 2) t) ≡ Some (drop j t) → i + 2 + 2 ≤ j → j ≤ length t
    → Done all t i v comma → Done all (take i t ++ (map blank (take (j - i) (drop i t)) ++ drop j t)) j v comma
done_block all t i j v comma l x y e k m d =
    let h = after_block-some (drop (i + 2) t) (drop j t) e in
    let s = h.0 in
    let after = drop j t in
    let is : drop i t ≡ (47 ∷ 42 ∷ (s ++ 42 ∷ 47 ∷ [])) ++ after = two_bytes t i 47 42 l x y ∙ ap (λ r. 47 ∷ 42 ∷ r) (h.1 ∙ sym (append_assoc s (42 ∷ 47 ∷ []) after)) in
    let plain : drop i t ≡ 47 ∷ 42 ∷ (s ++ 42 ∷ 47 ∷ after) = two_bytes t i 47 42 l x y ∙ ap (λ r. 47 ∷ 42 ∷ r) h.1 in
    commented all t i j v comma (comment (42 ∷ (s ++ 42 ∷ 47 ∷ []))) (omega arith) m x is (s, inr (refl, h.2)) (λ c. refl) (λ c. refl) refl (block_boundary t i j s (omega arith) m plain d.utf8) d

pub open_block : (all t : List ℕ) (i : ℕ) (v : Bool) (comma : Option ℕ) → i + 1 < length t → get_or t i 0 ≡ 47 → get_or t (i + 1) 0 ≡ 42 → after_block (drop (i + 2) t) ≡ None → Done all t i v comma → IsUnterminated all i
open_block all t i v comma l x y e d =
    let is = two_bytes t i 47 42 l x y in
    let inside = drop (i + 2) t in
    let pieces : Pieces all d.ps (47 ∷ 42 ∷ inside) = subst (λ (r : List ℕ). Pieces all d.ps r) is d.pieces in
    record {
      ps = d.ps;
      inside = inside;
      pieces = pieces;
      endless = after_block-none inside e;
      offset = ap (λ n. n + length (47 ∷ 42 ∷ inside)) (sym d.at) ∙ same_length false false all d.ps (47 ∷ 42 ∷ inside) pieces;
    }
