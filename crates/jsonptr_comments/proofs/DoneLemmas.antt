-- Each piece takes what is known at one place of the text to the next place.
use Rattle.std.proofs.Common.{◌≡◌, ℕ, suc, zero, ◌+◌, ◌<◌, List, [], ◌∷◌, ◌++◌, Bool, true, false, ◌==◌, Option, Some, None, length, map, take, drop, set, get_or, refl, sym, ap, ap₂, ◌∙◌, subst, subst₂, append_assoc, length-append, arith, inl, inr, IsUtf8, IsAscii, IsCharBoundary, eqb-true, drop_at, take_at}
use Rattle.std.proofs.lemmas.Bool.{cond_both, or_cases}
use Rattle.std.proofs.lemmas.List.{set_at, get_or_at}
use Rattle.std.proofs.lemmas.Str.{IsUtf8-append, IsUtf8-take, IsUtf8-drop, IsUtf8-from_ascii, IsCharBoundary-before_ascii, IsCharBoundary-after_ascii}
use Rattle.jsonptr_comments.specs.Comments.{Piece, other, spelled, IsWhole, Pieces, value_after, closes, without, all_without, blank, is_break}
use Rattle.jsonptr_comments.specs.PrivateScanning.{Pends, Done, blanked_comma}
use Rattle.jsonptr_comments.proofs.PieceLemmas.{pieces_more, value_at-more, all_without-more}

-- ---- UTF-8

-- whole characters are replaced by ASCII
pub utf8_replaced : (a m n z : List ℕ) → IsUtf8 (a ++ (m ++ z)) → IsCharBoundary (a ++ (m ++ z)) (length a) → IsCharBoundary (a ++ (m ++ z)) (length (a ++ m)) → IsAscii n → IsUtf8 (a ++ (n ++ z))
utf8_replaced a m n z u from to h =
    let front : IsUtf8 a = subst (λ (t : List ℕ). IsUtf8 t) (take_at a (m ++ z) (length a) refl) (IsUtf8-take (a ++ (m ++ z)) (length a) u from) in
    let back : IsUtf8 z =
    subst (λ (t : List ℕ). IsUtf8 t) (ap (λ t. drop (length (a ++ m)) t) (sym (append_assoc a m z)) ∙ drop_at (a ++ m) z (length (a ++ m)) refl)
    (IsUtf8-drop (a ++ (m ++ z)) (length (a ++ m)) u to) in
    IsUtf8-append a (n ++ z) front (IsUtf8-append n z (IsUtf8-from_ascii n h) back)

blank_small : (x : ℕ) → blank x < 128
blank_small x =
    cond_both (is_break x) x 32 (λ y. y < 128)
    (λ e. elim (or_cases (x == 10) (x == 13) e) [ inl h ↦ omega (arith, eqb-true x 10 h) | inr h ↦ omega (arith, eqb-true x 13 h) ]) (λ e. omega arith)

pub blanks_ascii : (s : List ℕ) → IsAscii (map blank s)
blanks_ascii [] i = omega arith
blanks_ascii (x ∷ s) zero = blank_small x
blanks_ascii (x ∷ s) (suc i) = blanks_ascii s i

-- ---- one piece

pub appended : (all text : List ℕ) (i : ℕ) (value : Bool) (comma : Option ℕ) (d : Done all text i value comma) (p : Piece) (c e : Bool) (w : List ℕ) → closes (p ∷ []) c ≡ e → without value p c ≡ w
    → all_without false d.ps e ++ w ≡ all_without false (d.ps ++ p ∷ []) c
appended all text i value comma d p c e w h k =
    sym (all_without-more false d.ps p c ∙ ap₂ (λ b t. all_without false d.ps b ++ t) h (ap (λ v. without v p c) (sym d.value_is) ∙ k))

pub done_next : (all text : List ℕ) (i : ℕ) (value : Bool) (comma : Option ℕ) (d : Done all text i value comma) (p : Piece) (after : List ℕ) → drop i text ≡ spelled p ++ after → IsWhole p after
    → (new : List ℕ) (j : ℕ) (next : Option ℕ) (open_text closed : List ℕ) → open_text ≡ all_without false (d.ps ++ p ∷ []) false → closed ≡ all_without false (d.ps ++ p ∷ []) true
    → new ≡ open_text ++ after → length open_text ≡ j → Pends next open_text closed → IsUtf8 new → (w : Bool) → w ≡ value_after value p → Done all new j w next
done_next all text i value comma d p after e s new j next open_text closed o c n len h u w v =
    let rest : drop j new ≡ after = ap (λ t. drop j t) n ∙ drop_at open_text after j len in
    record {
      ps = d.ps ++ p ∷ [];
      pieces = subst (λ (r : List ℕ). Pieces all (d.ps ++ p ∷ []) r) (sym rest) (pieces_more all d.ps (drop i text) p after d.pieces e s);
      left = n ∙ ap₂ (λ x y. x ++ y) o (sym rest);
      at = ap length (sym o) ∙ len;
      pends = subst₂ (λ (x y : List ℕ). Pends next x y) o c h;
      value_is = v ∙ ap (λ b. value_after b p) d.value_is ∙ sym (value_at-more false d.ps p);
      utf8 = u;
    }

pends_more : (comma : Option ℕ) (x y w : List ℕ) → Pends comma x y → Pends comma (x ++ w) (y ++ w)
pends_more None x y w h = ap (λ t. t ++ w) h
pends_more (Some k) x y w h =
    (h.0, h.1 ++ w, h.2, ap (λ t. t ++ w) h.3 ∙ append_assoc h.0 (44 ∷ h.1) w, ap (λ t. t ++ w) h.4 ∙ append_assoc h.0 (32 ∷ h.1) w)

-- a piece that stays, and is neither a comment nor white space nor a closing bracket
pub done_kept : (all text : List ℕ) (i : ℕ) (value : Bool) (comma : Option ℕ) (d : Done all text i value comma) (p : Piece) (after : List ℕ) → drop i text ≡ spelled p ++ after → IsWhole p after
    → ((c : Bool) → closes (p ∷ []) c ≡ false) → ((c : Bool) → without value p c ≡ spelled p)
    → (j : ℕ) → j ≡ i + length (spelled p) → (w : Bool) → w ≡ value_after value p → Done all text j w None
done_kept all text i value comma d p after e s cl wo j len w v =
    let here = all_without false d.ps false ++ spelled p in
    done_next all text i value comma d p after e s text j None here here
    (appended all text i value comma d p false false (spelled p) (cl false) (wo false)) (appended all text i value comma d p true false (spelled p) (cl true) (wo true))
    (d.left ∙ ap (λ t. all_without false d.ps false ++ t) e ∙ sym (append_assoc (all_without false d.ps false) (spelled p) after))
    (length-append (all_without false d.ps false) (spelled p) ∙ ap (λ n. n + length (spelled p)) d.at ∙ sym len) refl d.utf8 w v

-- white space and comments
pub done_blank : (all text : List ℕ) (i : ℕ) (value : Bool) (comma : Option ℕ) (d : Done all text i value comma) (p : Piece) (after w : List ℕ) → drop i text ≡ spelled p ++ after → IsWhole p after
    → ((c : Bool) → closes (p ∷ []) c ≡ c) → ((c : Bool) → without value p c ≡ w) → length w ≡ length (spelled p)
    → (new : List ℕ) → new ≡ take i text ++ (w ++ after) → IsUtf8 new → (j : ℕ) → j ≡ i + length (spelled p) → value ≡ value_after value p → Done all new j value comma
done_blank all text i value comma d p after w e s cl wo same new n u j len v =
    let front : take i text ≡ all_without false d.ps false = ap (λ t. take i t) d.left ∙ take_at (all_without false d.ps false) (drop i text) i d.at in
    done_next all text i value comma d p after e s new j comma (all_without false d.ps false ++ w) (all_without false d.ps true ++ w)
    (appended all text i value comma d p false false w (cl false) (wo false)) (appended all text i value comma d p true true w (cl true) (wo true))
    (n ∙ ap (λ t. t ++ (w ++ after)) front ∙ sym (append_assoc (all_without false d.ps false) w after))
    (length-append (all_without false d.ps false) w ∙ ap₂ (λ m n. m + n) d.at same ∙ sym len)
    (pends_more comma (all_without false d.ps false) (all_without false d.ps true) w d.pends) u value v

-- a comma after a value
pub done_comma : (all text : List ℕ) (i : ℕ) (comma : Option ℕ) (d : Done all text i true comma) (after : List ℕ) → drop i text ≡ 44 ∷ after → Done all text (i + 1) false (Some i)
done_comma all text i comma d after e =
    let here = all_without false d.ps false in
    done_next all text i true comma d (other 44) after e (λ f. omega (arith, f), λ f. absurd (omega (arith, f))) text (i + 1) (Some i) (here ++ 44 ∷ []) (here ++ 32 ∷ [])
    (appended all text i true comma d (other 44) false false (44 ∷ []) refl refl) (appended all text i true comma d (other 44) true false (32 ∷ []) refl refl)
    (d.left ∙ ap (λ t. here ++ t) e ∙ sym (append_assoc here (44 ∷ []) after))
    (length-append here (44 ∷ []) ∙ ap (λ n. n + 1) d.at) (here, [], d.at, refl, refl) d.utf8 false refl

ascii_space : IsAscii (32 ∷ [])
ascii_space zero = omega arith
ascii_space (suc i) = omega arith

same_lengths : (comma : Option ℕ) (x y : List ℕ) → Pends comma x y → length y ≡ length x
same_lengths None x y h = ap length h
same_lengths (Some k) x y h = ap length h.4 ∙ length-append h.0 (32 ∷ h.1) ∙ sym (ap length h.3 ∙ length-append h.0 (44 ∷ h.1))

one_blank : (a b : List ℕ) (k : ℕ) → length a ≡ k → IsUtf8 (a ++ 44 ∷ b) → IsUtf8 (a ++ 32 ∷ b)
one_blank a b k len u =
    let small : get_or (a ++ 44 ∷ b) (length a) 0 ≡ 44 = get_or_at a 44 b 0 (length a) refl in
    let within : length a < length (a ++ 44 ∷ b) = omega (arith, length-append a (44 ∷ b)) in
    let next : length (a ++ 44 ∷ []) ≡ length a + 1 = length-append a (44 ∷ []) in
    utf8_replaced a (44 ∷ []) (32 ∷ []) b u (IsCharBoundary-before_ascii (a ++ 44 ∷ b) (length a) within (omega arith))
    (subst (λ (n : ℕ). IsCharBoundary (a ++ 44 ∷ b) n) (sym next) (IsCharBoundary-after_ascii (a ++ 44 ∷ b) (length a) u within (omega arith))) ascii_space

closed_text : (all text : List ℕ) (i : ℕ) (value : Bool) (comma : Option ℕ) (d : Done all text i value comma) (open_text closed : List ℕ) → text ≡ open_text ++ drop i text → Pends comma open_text closed → IsUtf8 text
    → (blanked_comma comma text ≡ closed ++ drop i text) × IsUtf8 (blanked_comma comma text)
closed_text all text i value None d open_text closed l h u = (l ∙ ap (λ t. t ++ drop i text) (sym h), u)
closed_text all text i value (Some k) d open_text closed l h u =
    let r = drop i text in
    let a = h.0 in
    let b = h.1 in
    let was : text ≡ a ++ 44 ∷ (b ++ r) = l ∙ ap (λ t. t ++ r) h.3 ∙ append_assoc a (44 ∷ b) r in
    let made : set text k 32 ≡ a ++ 32 ∷ (b ++ r) = ap (λ t. set t k 32) was ∙ set_at a 44 (b ++ r) 32 k h.2 in (
      made ∙ sym (ap (λ t. t ++ r) h.4 ∙ append_assoc a (32 ∷ b) r),
      subst (λ (t : List ℕ). IsUtf8 t) (sym made) (one_blank a (b ++ r) k h.2 (subst (λ (t : List ℕ). IsUtf8 t) was u)),
    )

-- a closing bracket
pub done_closing : (all text : List ℕ) (i : ℕ) (value : Bool) (comma : Option ℕ) (d : Done all text i value comma) (x : ℕ) (after : List ℕ) → drop i text ≡ x ∷ after
    → IsWhole (other x) after → ((c : Bool) → closes (other x ∷ []) c ≡ true) → ((c : Bool) → without value (other x) c ≡ x ∷ []) → value_after value (other x) ≡ true
    → Done all (blanked_comma comma text) (i + 1) true None
done_closing all text i value comma d x after e s cl wo v =
    let there = all_without false d.ps true in
    let made = closed_text all text i value comma d (all_without false d.ps false) there d.left d.pends d.utf8 in
    let same : length there ≡ i = same_lengths comma (all_without false d.ps false) there d.pends ∙ d.at in
    done_next all text i value comma d (other x) after e s (blanked_comma comma text) (i + 1) None (there ++ x ∷ []) (there ++ x ∷ [])
    (appended all text i value comma d (other x) false true (x ∷ []) (cl false) (wo false)) (appended all text i value comma d (other x) true true (x ∷ []) (cl true) (wo true))
    (made.0 ∙ ap (λ t. there ++ t) e ∙ sym (append_assoc there (x ∷ []) after))
    (length-append there (x ∷ []) ∙ ap (λ n. n + 1) same) refl made.1 true (sym v)
