-- Texts that are written piece by piece: what is written, and the characters that are still to come.
use Rattle.std.proofs.Common.{◌≡◌, ℕ, suc, ◌+◌, ◌<◌, List, [], ◌∷◌, ◌++◌, length, length-append, append_assoc, replicate, drop, get_or, Bool, true, false, if◌then◌else◌, arith, sym, ap, subst, ◌∙◌, IsUtf8, chars, encode_utf8_all, zero-add, add-one, Result, Ok, Err, OnOk}
use Rattle.std.proofs.lemmas.List.{append-nil, replicate-append-replicate, nil_from_length}
use Rattle.std.proofs.Math.Seq.{drop-cons}
use Rattle.std.proofs.lemmas.Str.{encodes-append, chars_past_char, chars-nil, length-encode}
use Rattle.std.specs.List.{flat_map}
use Rattle.std.specs.Char.{encode_utf8, len_utf8}
use Rattle.jsonptr_grammar.specs.Text.{Text}
use Rattle.jsonptr_diagnostic.specs.Diagnostic.{Mark}
use Rattle.jsonptr_diagnostic.specs.PrivateRendering.{AppendsCharacters}
use Rattle.jsonptr_diagnostic.specs.Rendering.{shown_for, shown, columns, column, carets, label_line, drawn}

-- one character more
pub Adds-push : (c : ℕ) (a b : Text) → b ≡ a ++ encode_utf8 c → AppendsCharacters (c ∷ []) a b
Adds-push c a b e = e ∙ ap (λ (x : Text). a ++ x) (sym (append-nil (encode_utf8 c)))

pub Adds-append : (xs ys : List ℕ) (a b c : Text) → AppendsCharacters xs a b → AppendsCharacters ys b c → AppendsCharacters (xs ++ ys) a c
Adds-append xs ys a b c e f =
    f ∙ ap (λ (x : Text). x ++ encode_utf8_all ys) e
    ∙ append_assoc a (encode_utf8_all xs) (encode_utf8_all ys)
    ∙ ap (λ (x : Text). a ++ x) (sym (encodes-append xs ys))

-- some of the characters that are still to come are written
pub step : (xs ys : List ℕ) (a b all : Text) → AppendsCharacters xs a b → a ++ encode_utf8_all (xs ++ ys) ≡ all → b ++ encode_utf8_all ys ≡ all
step xs ys a b all e f =
    ap (λ (x : Text). x ++ encode_utf8_all ys) e
    ∙ append_assoc a (encode_utf8_all xs) (encode_utf8_all ys)
    ∙ ap (λ (x : Text). a ++ x) (sym (encodes-append xs ys))
    ∙ f

-- none are still to come
pub finish : (ys : List ℕ) (b all : Text) → ys ≡ [] → b ++ encode_utf8_all ys ≡ all → b ≡ all
finish ys b all e f = sym (append-nil b) ∙ ap (λ (x : List ℕ). b ++ encode_utf8_all x) (sym e) ∙ f

-- one character more is read: what is shown for it is written
pub text_step : (bs rest : Text) (c : ℕ) (a b all : Text) → IsUtf8 bs → bs ≡ encode_utf8 c ++ rest → AppendsCharacters (shown_for c) a b → a ++ encode_utf8_all (shown (chars bs)) ≡ all → b ++ encode_utf8_all (shown (chars rest)) ≡ all
text_step bs rest c a b all u e t f =
    step (shown_for c) (shown (chars rest)) a b all t
    (ap (λ (cs : List ℕ). a ++ encode_utf8_all (shown cs)) (sym (chars_past_char bs rest c u e)) ∙ f)

chars-none : (bs : Text) → length bs ≡ 0 → chars bs ≡ []
chars-none bs z = ap chars (nil_from_length bs z) ∙ chars-nil

-- all is read
pub text_end : (bs b all : Text) → length bs ≡ 0 → b ++ encode_utf8_all (shown (chars bs)) ≡ all → b ≡ all
text_end bs b all z f = finish (shown (chars bs)) b all (ap shown (chars-none bs z)) f

-- where the next character begins
pub next_place : (bs rest : Text) (c at next len : ℕ) → bs ≡ encode_utf8 c ++ rest → next ≡ at + length (encode_utf8 c) → at + length bs ≡ len → (next ≡ at + len_utf8 c) × (next + length rest ≡ len)
next_place bs rest c at next len e n f =
    let w = length-encode c in
    let l : length bs ≡ length (encode_utf8 c) + length rest = ap length e ∙ length-append (encode_utf8 c) rest in
    (omega arith, omega arith)

columns_of : (p : ℕ → ℕ → Bool) (bs rest : Text) (c at next : ℕ) (d : Bool) → IsUtf8 bs → bs ≡ encode_utf8 c ++ rest → next ≡ at + len_utf8 c → p at next ≡ d → columns p at (chars bs) ≡ (if d then length (shown_for c) else 0) + columns p next (chars rest)
columns_of p bs rest c at next d u e n t =
    ap (columns p at) (chars_past_char bs rest c u e)
    ∙ ap (λ (m : ℕ). (if p at m then length (shown_for c) else 0) + columns p m (chars rest)) (sym n)
    ∙ ap (λ (x : Bool). (if x then length (shown_for c) else 0) + columns p next (chars rest)) t

-- one character more is read, and it is of the part: its marks are written
pub marks_step : (p : ℕ → ℕ → Bool) (mark : ℕ) (bs rest : Text) (c at next : ℕ) (a b all : Text) → IsUtf8 bs → bs ≡ encode_utf8 c ++ rest → next ≡ at + len_utf8 c → p at next ≡ true → AppendsCharacters (replicate (length (shown_for c)) mark) a b → a ++ encode_utf8_all (replicate (columns p at (chars bs)) mark) ≡ all → b ++ encode_utf8_all (replicate (columns p next (chars rest)) mark) ≡ all
marks_step p mark bs rest c at next a b all u e n t w f =
    step (replicate (length (shown_for c)) mark) (replicate (columns p next (chars rest)) mark) a b all w
    (ap (λ (x : List ℕ). a ++ encode_utf8_all x) (
    replicate-append-replicate (length (shown_for c)) (columns p next (chars rest)) mark
    ∙ ap (λ (k : ℕ). replicate k mark) (sym (columns_of p bs rest c at next true u e n t))
    ) ∙ f)

-- one character more is read, and it is not of the part
pub marks_skip : (p : ℕ → ℕ → Bool) (mark : ℕ) (bs rest : Text) (c at next : ℕ) (a all : Text) → IsUtf8 bs → bs ≡ encode_utf8 c ++ rest → next ≡ at + len_utf8 c → p at next ≡ false → a ++ encode_utf8_all (replicate (columns p at (chars bs)) mark) ≡ all → a ++ encode_utf8_all (replicate (columns p next (chars rest)) mark) ≡ all
marks_skip p mark bs rest c at next a all u e n t f =
    ap (λ (k : ℕ). a ++ encode_utf8_all (replicate k mark)) (sym (columns_of p bs rest c at next false u e n t ∙ zero-add (columns p next (chars rest)))) ∙ f

-- all is read
pub marks_end : (p : ℕ → ℕ → Bool) (mark : ℕ) (bs : Text) (at : ℕ) (b all : Text) → length bs ≡ 0 → b ++ encode_utf8_all (replicate (columns p at (chars bs)) mark) ≡ all → b ≡ all
marks_end p mark bs at b all z f =
    finish (replicate (columns p at (chars bs)) mark) b all (ap (λ (cs : List ℕ). replicate (columns p at cs) mark) (chars-none bs z)) f

-- one label more: its line feed and its line are written
pub label_step : (f : Mark → List ℕ) (ms : List Mark) (i : ℕ) (m : Mark) (a b all : Text) → i < length ms → m ≡ get_or ms i m → AppendsCharacters (f m) a b → a ++ encode_utf8_all (flat_map f (drop i ms)) ≡ all → b ++ encode_utf8_all (flat_map f (drop (i + 1) ms)) ≡ all
label_step f ms i m a b all l is w g =
    let cut : drop i ms ≡ m ∷ drop (i + 1) ms =
    drop-cons ms i m l ∙ ap (λ (x : Mark). x ∷ drop (suc i) ms) (sym is) ∙ ap (λ (k : ℕ). m ∷ drop k ms) (sym (add-one i)) in
    step (f m) (flat_map f (drop (i + 1) ms)) a b all w
    (ap (λ (x : List Mark). a ++ encode_utf8_all (flat_map f x)) (sym cut) ∙ g)

-- what a test of the code says about the offsets that the loop keeps
pub tested : (p : ℕ → ℕ → Bool) (begin len at next : ℕ) (c : ℕ) (d : Bool) → d ≡ p begin (begin + len) → begin ≡ at → len ≡ len_utf8 c → next ≡ at + len_utf8 c → p at next ≡ d
tested p begin len at next c d e b l n = cc

-- a fact about what is written after the last call, if that succeeds
pub OnOk-from : {T E P Q : Type 0} (r : Result T E) → (P → Q) → OnOk r P → OnOk r Q
OnOk-from (Ok v) f h = f h
OnOk-from (Err e) f h = tt

-- the parts of a label's line, one after the other
pub label_written : (cs : List ℕ) (m : Mark) (o n : ℕ) (t a b c d e : Text) → o ≡ m.offset → n ≡ m.len → t ≡ m.text → AppendsCharacters (replicate (column o cs) 32) a b → AppendsCharacters (replicate (carets o n cs) 94) b c → d ≡ c ++ encode_utf8 32 → AppendsCharacters (shown (chars t)) d e → AppendsCharacters (label_line cs m) a e
label_written cs m o n t a b c d e eo en et spaces marks space words =
    let spaces' : AppendsCharacters (replicate (column m.offset cs) 32) a b = subst (λ (k : ℕ). AppendsCharacters (replicate (column k cs) 32) a b) eo spaces in
    let marks' : AppendsCharacters (replicate (carets m.offset m.len cs) 94) b c = subst (λ (k : ℕ). AppendsCharacters (replicate (carets k m.len cs) 94) b c) eo (subst (λ (k : ℕ). AppendsCharacters (replicate (carets o k cs) 94) b c) en marks) in
    let words' : AppendsCharacters (shown (chars m.text)) d e = subst (λ (x : Text). AppendsCharacters (shown (chars x)) d e) et words in
    Adds-append (replicate (column m.offset cs) 32) (replicate (carets m.offset m.len cs) 94 ++ 32 ∷ shown (chars m.text)) a b e spaces'
    (Adds-append (replicate (carets m.offset m.len cs) 94) (32 ∷ shown (chars m.text)) b c e marks'
    (Adds-append (32 ∷ []) (shown (chars m.text)) c d e (Adds-push 32 c d space) words'))

-- the whole text, from an empty one on
pub drawn_whole : (cs : List ℕ) (ms : List Mark) (a b c : Text) → a ≡ [] → AppendsCharacters (shown cs) a b → AppendsCharacters (flat_map (λ m. 10 ∷ label_line cs m) ms) b c → c ≡ encode_utf8_all (drawn cs ms)
drawn_whole cs ms a b c z top below =
    Adds-append (shown cs) (flat_map (λ m. 10 ∷ label_line cs m) ms) a b c top below
    ∙ ap (λ (x : Text). x ++ encode_utf8_all (drawn cs ms)) z
