-- Laws of how a report is drawn: what is shown is printable, and where a label's carets are.
use Rattle.std.proofs.Common.{◌≡◌, ◌⊎◌, inl, inr, ℕ, ◌+◌, ◌<◌, ◌≤◌, ◌%◌, ◌/◌, List, [], ◌∷◌, ◌++◌, length, length-append, Bool, true, false, if◌then◌else◌, nat_lt, nat_le, min, max, All, arith, refl, sym, ap, ◌∙◌, chars, encode_utf8_all, Option, zero-add, add-zero, add_assoc}
use Rattle.std.proofs.lemmas.Bool.{cond_both, lt-ltb, le-ltb, le-leb, lt-leb}
use Rattle.std.proofs.lemmas.Bool.Decides.{nat_tests}
use Rattle.std.proofs.lemmas.List.Elements.{All-nil, All-cons, All-head, All-tail, All-append, All-replicate}
use Rattle.std.proofs.lemmas.Str.{length-encode, len_utf8_bounds}
use Rattle.std.specs.List.{flat_map}
use Rattle.std.specs.Char.{encode_utf8, len_utf8, digit_char}
use Rattle.std.specs.Char.Escape.{escape_unicode, hex_digit_at}
use Rattle.jsonptr_grammar.specs.Text.{Text}
use Rattle.jsonptr_diagnostic.specs.Diagnostic.{Mark}
use Rattle.jsonptr_diagnostic.specs.Rendering.{is_unprintable, IsPrintable, shown_for, shown, size, columns, column, carets, label_line, drawn, marks_of, IsRendered}

-- ---- what is shown is printable

ascii_printable : (c : ℕ) → 32 ≤ c → c < 127 → is_unprintable c ≡ false
ascii_printable c l h = grind (arith, nat_tests)

digit_printable : (d : ℕ) → d < 16 → is_unprintable (digit_char d) ≡ false
digit_printable d h = cond_both (nat_lt d 10) (48 + d) (87 + d) (λ x. is_unprintable x ≡ false) (λ e. ascii_printable (48 + d) (omega arith) (omega arith)) (λ e. ascii_printable (87 + d) (omega arith) (omega arith))

hex_printable : (p c : ℕ) → is_unprintable (hex_digit_at p c) ≡ false
hex_printable p c = digit_printable (c / p % 16) (omega arith)

one : (c : ℕ) (cs : List ℕ) → IsPrintable c → All IsPrintable cs → All IsPrintable (c ∷ cs)
one c cs h t = All-cons IsPrintable c cs h t

end : All IsPrintable (125 ∷ [])
end = one 125 [] refl (All-nil IsPrintable)

begin : (cs : List ℕ) → All IsPrintable cs → All IsPrintable (92 ∷ 117 ∷ 123 ∷ cs)
begin cs h = one 92 (117 ∷ 123 ∷ cs) refl (one 117 (123 ∷ cs) refl (one 123 cs refl h))

-- the last hex digits of a code, and what closes it
abbrev ending1 : ℕ → List ℕ
ending1 c = hex_digit_at 1 c ∷ 125 ∷ []

abbrev ending2 : ℕ → List ℕ
ending2 c = hex_digit_at 0x10 c ∷ ending1 c

abbrev ending3 : ℕ → List ℕ
ending3 c = hex_digit_at 0x100 c ∷ ending2 c

abbrev ending4 : ℕ → List ℕ
ending4 c = hex_digit_at 0x1000 c ∷ ending3 c

abbrev ending5 : ℕ → List ℕ
ending5 c = hex_digit_at 0x1_0000 c ∷ ending4 c

abbrev ending6 : ℕ → List ℕ
ending6 c = hex_digit_at 0x10_0000 c ∷ ending5 c

code_printable : (c : ℕ) → All IsPrintable (escape_unicode c)
code_printable c =
    cond_both (nat_lt c 0x10) _ _ (All IsPrintable) (λ _. begin (ending1 c) d1) (λ _.
    cond_both (nat_lt c 0x100) _ _ (All IsPrintable) (λ _. begin (ending2 c) d2) (λ _.
    cond_both (nat_lt c 0x1000) _ _ (All IsPrintable) (λ _. begin (ending3 c) d3) (λ _.
    cond_both (nat_lt c 0x1_0000) _ _ (All IsPrintable) (λ _. begin (ending4 c) d4) (λ _.
    cond_both (nat_lt c 0x10_0000) _ _ (All IsPrintable) (λ _. begin (ending5 c) d5) (λ _. begin (ending6 c) d6)))))
  where
    digit : (p : ℕ) (cs : List ℕ) → All IsPrintable cs → All IsPrintable (hex_digit_at p c ∷ cs)
    digit p cs h = one (hex_digit_at p c) cs (hex_printable p c) h

    d1 : All IsPrintable (ending1 c)
    d1 = digit 1 (125 ∷ []) end

    d2 : All IsPrintable (ending2 c)
    d2 = digit 0x10 (ending1 c) d1

    d3 : All IsPrintable (ending3 c)
    d3 = digit 0x100 (ending2 c) d2

    d4 : All IsPrintable (ending4 c)
    d4 = digit 0x1000 (ending3 c) d3

    d5 : All IsPrintable (ending5 c)
    d5 = digit 0x1_0000 (ending4 c) d4

    d6 : All IsPrintable (ending6 c)
    d6 = digit 0x10_0000 (ending5 c) d5

pub shown_for-printable : (c : ℕ) → All IsPrintable (shown_for c)
shown_for-printable c = cond_both (is_unprintable c) (escape_unicode c) (c ∷ []) (All IsPrintable) (λ _. code_printable c) (λ e. one c [] e (All-nil IsPrintable))

pub shown-printable : (cs : List ℕ) → All IsPrintable (shown cs)
shown-printable [] = All-nil IsPrintable
shown-printable (c ∷ cs) = All-append IsPrintable (shown_for c) (shown cs) (shown_for-printable c) (shown-printable cs)

pub line-printable : (cs : List ℕ) (m : Mark) → All IsPrintable (label_line cs m)
line-printable cs m =
    All-append IsPrintable _ _ (All-replicate IsPrintable (column m.offset cs) 32 refl)
    (All-append IsPrintable _ _ (All-replicate IsPrintable (carets m.offset m.len cs) 94 refl)
    (one 32 (shown (chars m.text)) refl (shown-printable (chars m.text))))

-- printable, or a line feed
abbrev IsDrawn : ℕ → Type 0
IsDrawn c = IsPrintable c ⊎ (c ≡ 10)

printable-drawn : (cs : List ℕ) → All IsPrintable cs → All IsDrawn cs
printable-drawn [] h = All-nil IsDrawn
printable-drawn (c ∷ cs) h = All-cons IsDrawn c cs (inl (All-head IsPrintable c cs h)) (printable-drawn cs (All-tail IsPrintable c cs h))

lines-drawn : (cs : List ℕ) (ms : List Mark) → All IsDrawn (flat_map (λ m. 10 ∷ label_line cs m) ms)
lines-drawn cs [] = All-nil IsDrawn
lines-drawn cs (m ∷ ms) =
    All-append IsDrawn (10 ∷ label_line cs m) (flat_map (λ n. 10 ∷ label_line cs n) ms)
    (All-cons IsDrawn 10 (label_line cs m) (inr refl) (printable-drawn (label_line cs m) (line-printable cs m)))
    (lines-drawn cs ms)

pub all-drawn : (cs : List ℕ) (ms : List Mark) → All (λ c. IsPrintable c ⊎ (c ≡ 10)) (drawn cs ms)
all-drawn cs ms = All-append IsDrawn (shown cs) (flat_map (λ m. 10 ∷ label_line cs m) ms) (printable-drawn (shown cs) (shown-printable cs)) (lines-drawn cs ms)

-- a text of printable characters is shown unchanged
pub shown-plain : (cs : List ℕ) → All IsPrintable cs → shown cs ≡ cs
shown-plain [] h = refl
shown-plain (c ∷ cs) h =
    let e : is_unprintable c ≡ false = All-head IsPrintable c cs h in
    rw e (ap (λ (x : List ℕ). c ∷ x) (shown-plain cs (All-tail IsPrintable c cs h)))

-- ---- columns

size-cons : (c : ℕ) (cs : List ℕ) → size (c ∷ cs) ≡ len_utf8 c + size cs
size-cons c cs = length-append (encode_utf8 c) (encode_utf8_all cs) ∙ ap (λ (n : ℕ). n + size cs) (length-encode c)

shown_for-some : (c : ℕ) → 1 ≤ length (shown_for c)
shown_for-some c = cond_both (is_unprintable c) (escape_unicode c) (c ∷ []) (λ x. 1 ≤ length x) (λ _. grind (arith, nat_tests)) (λ _. omega arith)

length-shown_cons : (c : ℕ) (cs : List ℕ) → length (shown (c ∷ cs)) ≡ length (shown_for c) + length (shown cs)
length-shown_cons c cs = length-append (shown_for c) (shown cs)

columns-append : (p : ℕ → ℕ → Bool) (b : ℕ) (xs ys : List ℕ) → columns p b (xs ++ ys) ≡ columns p b xs + columns p (b + size xs) ys
columns-append p b [] ys = ap (λ (n : ℕ). columns p n ys) (sym (add-zero b)) ∙ sym (zero-add (columns p (b + 0) ys))
columns-append p b (c ∷ xs) ys =
    ap (λ (n : ℕ). w + n) (columns-append p (b + len_utf8 c) xs ys)
    ∙ sym (add_assoc w (columns p (b + len_utf8 c) xs) (columns p (b + len_utf8 c + size xs) ys))
    ∙ ap (λ (n : ℕ). w + columns p (b + len_utf8 c) xs + columns p n ys) (add_assoc b (len_utf8 c) (size xs) ∙ ap (λ (n : ℕ). b + n) (sym (size-cons c xs)))
  where
    w : ℕ
    w = if p b (b + len_utf8 c) then length (shown_for c) else 0

-- all characters between two offsets pass, or none
columns-all : (p : ℕ → ℕ → Bool) (b t : ℕ) (cs : List ℕ) → b + size cs ≤ t → ((m e : ℕ) → b ≤ m → m < e → e ≤ t → p m e ≡ true) → columns p b cs ≡ length (shown cs)
columns-all p b t [] l h = refl
columns-all p b t (c ∷ cs) l h =
    let s = size-cons c cs in
    let w = len_utf8_bounds c in
    let here : p b (b + len_utf8 c) ≡ true = h b (b + len_utf8 c) (omega arith) (omega arith) (omega arith) in
    let rest = columns-all p (b + len_utf8 c) t cs (omega arith) (λ m e x y z. h m e (omega arith) y z) in
    rw here (ap (λ (n : ℕ). length (shown_for c) + n) rest ∙ sym (length-shown_cons c cs))

columns-none : (p : ℕ → ℕ → Bool) (b : ℕ) (cs : List ℕ) → ((m e : ℕ) → b ≤ m → m < e → e ≤ b + size cs → p m e ≡ false) → columns p b cs ≡ 0
columns-none p b [] h = refl
columns-none p b (c ∷ cs) h =
    let s = size-cons c cs in
    let w = len_utf8_bounds c in
    let here : p b (b + len_utf8 c) ≡ false = h b (b + len_utf8 c) (omega arith) (omega arith) (omega arith) in
    let rest = columns-none p (b + len_utf8 c) cs (λ m e x y z. h m e (omega arith) y (omega arith)) in
    rw here (zero-add (columns p (b + len_utf8 c) cs) ∙ rest)

-- ---- where a label is

-- the column of a byte of a character is after what is shown for those before it
pub column-of : (front rest : List ℕ) (c k : ℕ) → k < len_utf8 c → column (size front + k) (front ++ c ∷ rest) ≡ length (shown front)
column-of front rest c k l =
    columns-append p 0 front (c ∷ rest)
    ∙ ap (λ (n : ℕ). n + columns p (0 + size front) (c ∷ rest)) (columns-all p 0 (size front) front (omega arith) (λ m e x y z. le-leb e (size front + k) (omega arith)))
    ∙ ap (λ (n : ℕ). length (shown front) + n) none
    ∙ add-zero (length (shown front))
  where
    p : ℕ → ℕ → Bool
    p m e = nat_le e (size front + k)

    none : columns p (0 + size front) (c ∷ rest) ≡ 0
    none =
        let here : p (0 + size front) (0 + size front + len_utf8 c) ≡ false = lt-leb (0 + size front + len_utf8 c) (size front + k) (omega arith) in
        rw here (zero-add (columns p (0 + size front + len_utf8 c) rest) ∙ columns-none p (0 + size front + len_utf8 c) rest (λ m e x y z. lt-leb e (size front + k) (omega arith)))

-- the column after the end of a text is after all that is shown
pub column-past : (cs : List ℕ) (o : ℕ) → size cs ≤ o → column o cs ≡ length (shown cs)
column-past cs o l = columns-all (λ m e. nat_le e o) 0 o cs (omega arith) (λ m e x y z. le-leb e o z)

-- the bytes of some characters have a caret below each that is shown for these
pub carets-of : (front rest : List ℕ) (c : ℕ) (under : List ℕ) → carets (size front) (size (c ∷ under)) (front ++ ((c ∷ under) ++ rest)) ≡ length (shown (c ∷ under))
carets-of front rest c under = ap (max 1) (before ∙ below) ∙ one_at_least
  where
    u : List ℕ
    u = c ∷ under

    p : ℕ → ℕ → Bool
    p m e = nat_lt (max m (size front)) (min e (size front + size u))

    before : columns p 0 (front ++ (u ++ rest)) ≡ columns p (0 + size front) (u ++ rest)
    before = columns-append p 0 front (u ++ rest)
        ∙ ap (λ (n : ℕ). n + columns p (0 + size front) (u ++ rest)) (columns-none p 0 front (λ m e x y z. le-ltb (max m (size front)) (min e (size front + size u)) (omega arith)))
        ∙ zero-add (columns p (0 + size front) (u ++ rest))

    below : columns p (0 + size front) (u ++ rest) ≡ length (shown u)
    below = columns-append p (0 + size front) u rest
        ∙ ap (λ (n : ℕ). n + columns p (0 + size front + size u) rest) (columns-all p (0 + size front) (size front + size u) u (omega arith) (λ m e x y z. lt-ltb (max m (size front)) (min e (size front + size u)) (omega arith)))
        ∙ ap (λ (n : ℕ). length (shown u) + n) (columns-none p (0 + size front + size u) rest (λ m e x y z. le-ltb (max m (size front)) (min e (size front + size u)) (omega arith)))
        ∙ add-zero (length (shown u))

    one_at_least : max 1 (length (shown u)) ≡ length (shown u)
    one_at_least = let s = shown_for-some c in let l = length-shown_cons c under in omega arith

pub carets-none : (cs : List ℕ) (o : ℕ) → carets o 0 cs ≡ 1
carets-none cs o = ap (max 1) (columns-none (λ b e. nat_lt (max b o) (min e (o + 0))) 0 cs (λ m e x y z. le-ltb (max m o) (min e (o + 0)) (omega arith)))

pub carets-past : (cs : List ℕ) (o n : ℕ) → size cs ≤ o → carets o n cs ≡ 1
carets-past cs o n l = ap (max 1) (columns-none (λ b e. nat_lt (max b o) (min e (o + n))) 0 cs (λ m e x y z. le-ltb (max m o) (min e (o + n)) (omega arith)))

-- bytes of one character have a caret below each that is shown for it
pub carets-inside : (front rest : List ℕ) (c k n : ℕ) → 0 < n → k + n ≤ len_utf8 c → carets (size front + k) n (front ++ c ∷ rest) ≡ length (shown_for c)
carets-inside front rest c k n some l = ap (max 1) (before ∙ below) ∙ one_at_least
  where
    p : ℕ → ℕ → Bool
    p m e = nat_lt (max m (size front + k)) (min e (size front + k + n))

    before : columns p 0 (front ++ c ∷ rest) ≡ columns p (0 + size front) (c ∷ rest)
    before = columns-append p 0 front (c ∷ rest)
        ∙ ap (λ (x : ℕ). x + columns p (0 + size front) (c ∷ rest)) (columns-none p 0 front (λ m e x y z. le-ltb (max m (size front + k)) (min e (size front + k + n)) (omega arith)))
        ∙ zero-add (columns p (0 + size front) (c ∷ rest))

    below : columns p (0 + size front) (c ∷ rest) ≡ length (shown_for c)
    below =
        let here : p (0 + size front) (0 + size front + len_utf8 c) ≡ true = lt-ltb (max (0 + size front) (size front + k)) (min (0 + size front + len_utf8 c) (size front + k + n)) (omega arith) in
        rw here (
        ap (λ (x : ℕ). length (shown_for c) + x) (columns-none p (0 + size front + len_utf8 c) rest (λ m e x y z. le-ltb (max m (size front + k)) (min e (size front + k + n)) (omega arith)))
        ∙ add-zero (length (shown_for c))
        )

    one_at_least : max 1 (length (shown_for c)) ≡ length (shown_for c)
    one_at_least = let s = shown_for-some c in omega arith

-- ---- a report has one text

-- what is drawn is one text, where the labels are
pub rendered-one : (P : Option (List Mark) → Type 0) → ((r q : Option (List Mark)) → P r → P q → r ≡ q) → (subject s t : Text) → IsRendered P subject s → IsRendered P subject t → s ≡ t
rendered-one P one subject s t h k =
    h.drawn_so ∙ ap (λ (labels : Option (List Mark)). encode_utf8_all (drawn (chars subject) (marks_of labels))) (one h.labels k.labels h.given k.given) ∙ sym k.drawn_so
