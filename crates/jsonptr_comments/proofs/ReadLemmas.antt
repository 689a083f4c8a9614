-- What is read up to one offset of a text is read up to the next one.
use Rattle.std.proofs.Common.{◌≡◌, ◌≢◌, ℕ, ◌+◌, ◌-◌, ◌<◌, ◌≤◌, List, [], ◌∷◌, ◌++◌, Bool, true, false, not, ◌||◌, ◌==◌, Option, Some, None, length, map, take, drop, get_or, refl, sym, ap, ap₂, ◌∙◌, subst, append_assoc, append-nil, length-append, length-drop, length-take-le, arith, inl, inr, ◌⊎◌, IsUtf8, eqb-true, ne_eqb, get_or-drop}
use Rattle.std.proofs.lemmas.Bool.{true≢false, cases_eq, or_cases}
use Rattle.std.proofs.lemmas.List.{get_or_at, get_or-set_other, get_or_append_left, get_or-append_right, get_or-take, get_or-map, length-map, drop_all}
use Rattle.json.specs.Word.{is_space}
use Rattle.jsonptr_comments.specs.Comments.{EndsString, IsPlain, IsUnterminated, IsWithoutComments, Pieces, all_without, blank, is_break}
use Rattle.jsonptr_comments.specs.PrivateScanning.{after_string, after_line, after_block, Done, blanked_comma}
use Rattle.jsonptr_comments.specs.PrivateStepping.{Back, Read}
use Rattle.jsonptr_comments.proofs.BackLemmas.{Agrees, IsWhite, back_first, back_white, back_solid, back_late, back_early}
use Rattle.jsonptr_comments.proofs.ScanningLemmas.{after_string-is}
use Rattle.jsonptr_comments.proofs.StepLemmas.{done_string, done_late_comma, done_early_comma, done_bracket, done_slash, done_line, done_block, open_block, space_at, plain_at, first_byte, not_not, which}
use Rattle.jsonptr_comments.proofs.StopLemmas.{stops_at_comment, stops_at_bracket}

pub read_first : (t : List ℕ) → IsUtf8 t → Read t t 0
read_first t u = record {
  value = false;
  comma = None;
  done = record { ps = []; pieces = refl; left = refl; at = refl; pends = refl; value_is = refl; utf8 = u };
  back = λ l. back_first t;
}

pub read_all : (all t : List ℕ) (i : ℕ) → length t ≤ i → Read all t i → IsWithoutComments all t
read_all all t i l r =
    let none = drop_all i t l in
    let d = r.done in
    (d.ps, subst (λ (s : List ℕ). Pieces all d.ps s) none d.pieces, d.left ∙ ap (λ s. all_without false d.ps false ++ s) none ∙ append-nil (all_without false d.ps false))

-- ---- strings

-- a string that something follows ends with a quote
last_quote : (s after : List ℕ) → EndsString s after → 0 < length after → (front : List ℕ) × (s ≡ front ++ 34 ∷ [])
last_quote [] after h l = absurd (omega (arith, ap length h, l))
last_quote (x ∷ []) after (inl e) l = ([], ap (λ y. y ∷ []) e)
last_quote (x ∷ []) after (inr e) l = absurd (omega (arith, ap length e, l))
last_quote (x ∷ y ∷ s) after (inl h) l = let k = last_quote s after h.1 l in (x ∷ y ∷ k.0, ap (λ r. x ∷ y ∷ r) k.1)
last_quote (x ∷ y ∷ s) after (inr h) l = let k = last_quote (y ∷ s) after h.2 l in (x ∷ k.0, ap (λ r. x ∷ r) k.1)

quote_at : (t : List ℕ) (i j : ℕ) → i < length t → get_or t i 0 ≡ 34 → drop j t ≡ after_string (drop (i + 1) t) → i < j → j < length t → (n : ℕ) × (j ≡ n + 1) × (get_or t n 0 ≡ 34)
quote_at t i j l x e f m =
    let h = after_string-is (drop (i + 1) t) in
    let after = drop j t in
    let some : 0 < length after = omega (arith, length-drop j t, m) in
    let k = last_quote h.0 after (subst (λ (r : List ℕ). EndsString h.0 r) (sym e) h.2) some in
    let front = 34 ∷ k.0 in
    let is : drop i t ≡ front ++ 34 ∷ after =
    first_byte t i 34 l x ∙ ap (λ r. 34 ∷ r) (h.1 ∙ ap₂ (λ r s. r ++ s) k.1 (sym e) ∙ append_assoc k.0 (34 ∷ []) after) in
    let n = i + length front in
    let len : length t - i ≡ length front + (1 + (length t - j)) =
    sym (length-drop i t) ∙ ap length is ∙ length-append front (34 ∷ after) ∙ ap (λ r. length front + r) (omega (arith, length-drop j t)) in
    (n, omega (arith, len, l, m), sym (get_or-drop i t (length front) 0) ∙ ap (λ r. get_or r (length front) 0) is ∙ get_or_at front 34 after 0 (length front) refl)

pub read_string : (all t : List ℕ) (i j : ℕ) → i < length t → get_or t i 0 ≡ 34 → drop j t ≡ after_string (drop (i + 1) t) → i < j → j ≤ length t → Read all t i → Read all t j
read_string all t i j l x e f m r = record {
  value = true;
  comma = None;
  done = done_string all t i j r.value r.comma l x e m r.done;
  back = λ n. let q = quote_at t i j l x e f n in back_solid t q.0 j 34 true q.1 q.2 refl (λ c. omega (arith, c)) refl;
}

-- ---- bytes that stand for themselves

same_white : (t : List ℕ) (i x : ℕ) → get_or t i 0 ≡ x → is_space x ≡ true → IsWhite t i (i + 1)
same_white t i x is e = λ n g h. ap (λ m. is_space (get_or t m 0)) (let same : n ≡ i = omega (arith, g, h) in same) ∙ ap is_space is ∙ e

other_at : (all t : List ℕ) (i : ℕ) (v : Bool) (comma : Option ℕ) (x : ℕ) (space : Bool) → i < length t → get_or t i 0 ≡ x → x ≢ 34 → x ≢ 47 → ((x == 93) || (x == 125)) ≡ false → is_space x ≡ space → (x ≡ 44) ⊎ (x ≢ 44)
    → Done all t i v comma → Back t i v comma → Read all t (i + 1)
other_at all t i v comma x true l is q s c e (inr n) d b = record {
  value = v;
  comma = comma;
  done = space_at all t i v comma x l is q s n e d;
  back = λ _. back_white t t i (i + 1) v comma (λ m h. refl) (same_white t i x is e) (omega arith) b;
}
other_at all t i v comma x true l is q s c e (inl f) d b = absurd (true≢false (sym e ∙ ap is_space f))
other_at all t i true comma x false l is q s c e (inl f) d b = record {
  value = false;
  comma = Some i;
  done = done_late_comma all t i comma l (is ∙ f) d;
  back = λ _. back_late t i (i + 1) comma refl (is ∙ f) b;
}
other_at all t i false comma x false l is q s c e (inl f) d b = record {
  value = false;
  comma = None;
  done = done_early_comma all t i comma l (is ∙ f) d;
  back = λ _. back_early t i (i + 1) comma refl (is ∙ f) b;
}
other_at all t i v comma x false l is q s c e (inr n) d b =
    let w = not ((x == 58) || (x == 91) || (x == 123)) in
    let no = ne_eqb x 44 n in
    record {
      value = w;
      comma = None;
      done = plain_at all t i v comma x w l is q n e c (sym (not_not _)) (λ f. absurd (s f)) d;
      back = λ _. back_solid t i (i + 1) x w refl is e n (rw no refl);
    }

pub read_other : (all t : List ℕ) (i : ℕ) → i < length t → get_or t i 0 ≢ 34 → get_or t i 0 ≢ 47 → ((get_or t i 0 == 93) || (get_or t i 0 == 125)) ≡ false → Read all t i → Read all t (i + 1)
read_other all t i l q s c r = other_at all t i r.value r.comma (get_or t i 0) (is_space (get_or t i 0)) l refl q s c refl (cases_eq (get_or t i 0) 44) r.done (r.back l)

pub read_slash : (all t : List ℕ) (i : ℕ) → i < length t → get_or t i 0 ≡ 47 → get_or t (i + 1) 0 ≢ 47 → get_or t (i + 1) 0 ≢ 42 → Read all t i → Read all t (i + 1)
read_slash all t i l x n m r = record {
  value = true;
  comma = None;
  done = done_slash all t i r.value r.comma l x n m r.done;
  back = λ _. back_solid t i (i + 1) 47 true refl x refl (λ c. omega (arith, c)) refl;
}

-- ---- closing brackets

comma_before : (all t : List ℕ) (i : ℕ) (v : Bool) (comma : Option ℕ) → Done all t i v comma → get_or (blanked_comma comma t) i 0 ≡ get_or t i 0
comma_before all t i v None d = refl
comma_before all t i v (Some k) d =
    let h = d.pends in
    get_or-set_other t k i 32 0 (λ e. omega (arith, e, d.at, ap length h.3, length-append h.0 (44 ∷ h.1), h.2))

bracket_solid : (t : List ℕ) (i x : ℕ) → get_or t i 0 ≡ x → (x ≡ 93) ⊎ (x ≡ 125) → Back t (i + 1) true None
bracket_solid t i x is (inl e) = back_solid t i (i + 1) 93 true refl (is ∙ e) refl (λ c. omega (arith, c)) refl
bracket_solid t i x is (inr e) = back_solid t i (i + 1) 125 true refl (is ∙ e) refl (λ c. omega (arith, c)) refl

pub read_bracket : (all t : List ℕ) (i : ℕ) (found : Option ℕ) → i < length t → ((get_or t i 0 == 93) || (get_or t i 0 == 125)) ≡ true → ((v : Bool) (c : Option ℕ) → Back t i v c → found ≡ c) → Read all t i → Read all (blanked_comma found t) (i + 1)
read_bracket all t i found l h f r =
    let same = f r.value r.comma (r.back l) in
    subst (λ (c : Option ℕ). Read all (blanked_comma c t) (i + 1)) (sym same) (record {
      value = true;
      comma = None;
      done = done_bracket all t i r.value r.comma l h r.done;
      back = λ _. bracket_solid (blanked_comma r.comma t) i (get_or t i 0) (comma_before all t i r.value r.comma r.done) (which (get_or t i 0) h);
    })

-- ---- comments

blank_white : (b : Bool) (x : ℕ) → is_break x ≡ b → is_space (blank x) ≡ true
blank_white true x e = elim (or_cases (x == 10) (x == 13) e) [
  | inl h ↦ ap (λ y. is_space (blank y)) (eqb-true x 10 h)
  | inr h ↦ ap (λ y. is_space (blank y)) (eqb-true x 13 h)
]
blank_white false x e = rw e refl

blanked_at : (front w after : List ℕ) (n : ℕ) → length front ≤ n → n < length front + length w → is_space (get_or (front ++ (map blank w ++ after)) n 0) ≡ true
blanked_at front w after n g h =
    let k = n - length front in
    let in_w : k < length w = omega (arith, g, h) in
    ap is_space
    (get_or-append_right front (map blank w ++ after) (length front) n 0 refl g ∙ get_or_append_left (map blank w) after 0 k (omega (arith, in_w, length-map w blank)) ∙ get_or-map blank w k 0 0 in_w)
    ∙ blank_white (is_break (get_or w k 0)) (get_or w k 0) refl

abbrev pub blanked : List ℕ → ℕ → ℕ → List ℕ
blanked t i j = take i t ++ (map blank (take (j - i) (drop i t)) ++ drop j t)

blanked_agrees : (t : List ℕ) (i j : ℕ) → i ≤ length t → Agrees t (blanked t i j) i
blanked_agrees t i j l = λ n h.
    sym (get_or_append_left (take i t) (map blank (take (j - i) (drop i t)) ++ drop j t) 0 n (omega (arith, h, length-take-le i t l)) ∙ get_or-take i t n 0 h)

blanked_white : (t : List ℕ) (i j : ℕ) → i ≤ j → j ≤ length t → IsWhite (blanked t i j) i j
blanked_white t i j l m = λ n g h.
    let front = length-take-le i t (omega (arith, l, m)) in
    let middle : length (take (j - i) (drop i t)) ≡ j - i = length-take-le (j - i) (drop i t) (omega (arith, length-drop i t, l, m)) in
    blanked_at (take i t) (take (j - i) (drop i t)) (drop j t) n (omega (arith, g, front)) (omega (arith, h, front, middle, g))

commented : (all t : List ℕ) (i j : ℕ) (r : Read all t i) → i < length t → i ≤ j → j ≤ length t → Done all (blanked t i j) j r.value r.comma → Read all (blanked t i j) j
commented all t i j r l f m d = record {
  value = r.value;
  comma = r.comma;
  done = d;
  back = λ _. back_white t (blanked t i j) i j r.value r.comma (blanked_agrees t i j (omega (arith, l))) (blanked_white t i j f m) f (r.back l);
}

pub read_line : (all t : List ℕ) (i j : ℕ) → i + 1 < length t → get_or t i 0 ≡ 47 → get_or t (i + 1) 0 ≡ 47 → drop j t ≡ after_line (drop (i + 2) t) → i ≤ j → j ≤ length t → Read all t i → Read all (blanked t i j) j
read_line all t i j l x y e f m r = commented all t i j r (omega (arith, l)) f m (done_line all t i j r.value r.comma l x y e m r.done)

pub read_block : (all t : List ℕ) (i j : ℕ) → i + 1 < length t → get_or t i 0 ≡ 47 → get_or t (i + 1) 0 ≡ 42 → after_block (drop (i + 2) t) ≡ Some (drop j t) → i + 2 + 2 ≤ j → j ≤ length t → Read all t i → Read all (blanked t i j) j
read_block all t i j l x y e k m r = commented all t i j r (omega (arith, l)) (omega (arith, k)) m (done_block all t i j r.value r.comma l x y e k m r.done)

pub open_at : (all t : List ℕ) (i : ℕ) → i + 1 < length t → get_or t i 0 ≡ 47 → get_or t (i + 1) 0 ≡ 42 → after_block (drop (i + 2) t) ≡ None → Read all t i → IsUnterminated all i
open_at all t i l x y e r = open_block all t i r.value r.comma l x y e r.done

-- ---- where something becomes a space

pub comment_stops : (t : List ℕ) (i : ℕ) → i < length t → get_or t i 0 ≡ 47 → (get_or t (i + 1) 0 ≡ 47) ⊎ (get_or t (i + 1) 0 ≡ 42) → Read t t i → IsPlain t → ⊥
comment_stops t i l x m r p = stops_at_comment t i r.value r.comma l x m r.done p

pub bracket_stops : (t : List ℕ) (i k : ℕ) → i < length t → ((get_or t i 0 == 93) || (get_or t i 0 == 125)) ≡ true → ((v : Bool) (c : Option ℕ) → Back t i v c → Some k ≡ c) → Read t t i → IsPlain t → ⊥
bracket_stops t i k l h f r p = stops_at_bracket t i k r.value l h (subst (λ (c : Option ℕ). Done t t i r.value c) (sym (f r.value r.comma (r.back l))) r.done) p
