-- Lines of an input.
use Rattle.std.proofs.Common.{◌≡◌, ◌≢◌, ◌⊎◌, inl, inr, ℕ, zero, suc, ◌-◌, ◌<◌, ◌≤◌, List, [], ◌∷◌, ◌++◌, length, get_or, Option, None, Some, Bool, true, false, refl, sym, ap, ◌∙◌, subst, arith, length-take, append_assoc}
use Rattle.std.proofs.lemmas.List.{get_or-take, get_or_default}
use Rattle.std.proofs.lemmas.Bool.{eqb-true, eq-eqb}
use Rattle.std.specs.Prelude.{IfSome, if◌then◌else◌, nat_lt, ◌==◌, slice_index}
use Rattle.std.specs.Io.{StopsAt}
use Rattle.std.specs.Io.BufRead.{take_through, ends_with_byte}
use Rattle.std.specs.Io.KnownBytes.{Consumes, IsAtEnd, Keeps}
use Rattle.std.proofs.KnownBytes.{Consumes-kept, Consumes-nil, Consumes-trans}
use Rattle.jsonptr_io.specs.Lines.{IsOneLine, AreLines, IsNextLine}
use Rattle.jsonptr_io.specs.PrivateLines.{CutsBreak, joined, AreAllLines}
use Rattle.jsonptr_io.specs.declared.read.Ending.{Ending}
use Rattle.jsonptr_io.specs.declared.read.Ending.TheVariants.{Break, Input, NoLine}

abbrev Line : Type 0
Line = List ℕ

-- ---- one line

pub line_head : (b : ℕ) (bs : Line) → IsOneLine (b ∷ bs) → b ≢ 10
line_head b bs h = h 0 b (omega arith)

pub line_tail : (b : ℕ) (bs : Line) → IsOneLine (b ∷ bs) → IsOneLine bs
line_tail b bs h = λ k d low. h (suc k) d (omega (arith, low))

pub line_cons : (b : ℕ) (bs : Line) → b ≢ 10 → IsOneLine bs → IsOneLine (b ∷ bs)
line_cons b bs p h = at
  where
    at : (k : ℕ) (d : ℕ) → k < length (b ∷ bs) → get_or (b ∷ bs) k d ≢ 10
    at zero d low = p
    at (suc k) d low = h k d (omega (arith, low))

pub line_nil : IsOneLine []
line_nil = λ k d low. absurd (omega (arith, low))

-- a line and a line feed are the start of a text in one way
pub same_start : (l k r s : Line) → IsOneLine l → IsOneLine k → l ++ 10 ∷ r ≡ k ++ 10 ∷ s → (l ≡ k) × (r ≡ s)
same_start [] [] r s p q e = (refl, cc)
same_start [] (b ∷ k) r s p q e = absurd (line_head b k q cc)
same_start (a ∷ l) [] r s p q e = absurd (line_head a l p cc)
same_start (a ∷ l) (b ∷ k) r s p q e =
    let first : a ≡ b = cc in
    let more : l ++ 10 ∷ r ≡ k ++ 10 ∷ s = cc in
    let rest = same_start l k r s (line_tail a l p) (line_tail b k q) more in
    (cc (first, rest.0), rest.1)

-- one line has no line feed
pub no_feed : (l r k : Line) → IsOneLine k → l ++ 10 ∷ r ≡ k → ⊥
no_feed [] r [] q e = cc
no_feed [] r (b ∷ k) q e = line_head b k q cc
no_feed (a ∷ l) r [] q e = cc
no_feed (a ∷ l) r (b ∷ k) q e = let more : l ++ 10 ∷ r ≡ k = cc in no_feed l r k (line_tail b k q) more

-- ---- lines of an input

-- a byte before the first line
more_line : (b : ℕ) (bs : Line) → b ≢ 10 → (ls : List Line) → AreLines bs ls → (ks : List Line) × AreLines (b ∷ bs) ks
more_line b bs p [] h =
    let none : b ∷ bs ≡ b ∷ [] = ap (λ (t : Line). b ∷ t) h in
    ((b ∷ []) ∷ [], (line_cons b [] p line_nil, inr (none, (λ e. cc), refl)))
more_line b bs p (l ∷ ls) h =
    elim h.1 [
      | inl x ↦ ((b ∷ l) ∷ ls, (line_cons b l p h.0, inl (x.0, ap (λ (t : Line). b ∷ t) x.1, x.2)))
      | inr x ↦ ((b ∷ l) ∷ [], (line_cons b l p h.0, inr (ap (λ (t : Line). b ∷ t) x.0, (λ e. cc), refl)))
    ]

is_feed : (b : ℕ) → (b ≡ 10) ⊎ (b ≢ 10)
is_feed b = grind arith

add_byte : (b : ℕ) (bs : Line) → (b ≡ 10) ⊎ (b ≢ 10) → (ls : List Line) → AreLines bs ls → (ks : List Line) × AreLines (b ∷ bs) ks
add_byte b bs (inl e) ls h = ([] ∷ ls, (line_nil, inl (bs, ap (λ (x : ℕ). x ∷ bs) e, h)))
add_byte b bs (inr p) ls h = more_line b bs p ls h

-- each input has lines
pub some_lines : (bytes : Line) → (ls : List Line) × AreLines bytes ls
some_lines [] = ([], refl)
some_lines (b ∷ bs) = let rest = some_lines bs in add_byte b bs (is_feed b) rest.0 rest.1

nil_feed : (l r : Line) → [] ≡ l ++ 10 ∷ r → ⊥
nil_feed l r e = no_feed l r [] line_nil (sym e)

-- and they are its only ones
pub one_lines : (ls ks : List Line) (bytes : Line) → AreLines bytes ls → AreLines bytes ks → ls ≡ ks
one_lines [] [] bytes p q = refl
one_lines [] (k ∷ ks) bytes p q = absurd (elim q.1 [ inl y ↦ nil_feed k y.0 (sym p ∙ y.1) | inr y ↦ y.1 (sym y.0 ∙ p) ])
one_lines (l ∷ ls) [] bytes p q = absurd (elim p.1 [ inl x ↦ nil_feed l x.0 (sym q ∙ x.1) | inr x ↦ x.1 (sym x.0 ∙ q) ])
one_lines (l ∷ ls) (k ∷ ks) bytes p q =
    elim p.1 [
      | inl x ↦ elim q.1 [
        | inl y ↦
            let same = same_start l k x.0 y.0 p.0 q.0 (sym x.1 ∙ y.1) in
            let tails : ls ≡ ks = one_lines ls ks x.0 x.2 (subst (λ (r : Line). AreLines r ks) (sym same.1) y.2) in
            cc (same.0, tails)
        | inr y ↦ absurd (no_feed l x.0 k q.0 (sym x.1 ∙ y.0))
      ]
      | inr x ↦ elim q.1 [
        | inl y ↦ absurd (no_feed k y.0 l p.0 (sym y.1 ∙ x.0))
        | inr y ↦ let same : l ≡ k = sym x.0 ∙ y.0 in let none : ls ≡ ks = x.2 ∙ sym y.2 in cc (same, none)
      ]
    ]

-- ---- the next line

-- a text without a line feed is all of what was left
whole_by : (t : Bool) (x : ℕ) (xs : Line) → (x == 10) ≡ t
    → IsOneLine (if t then x ∷ [] else x ∷ take_through 10 xs)
    → (IsOneLine (take_through 10 xs) → take_through 10 xs ≡ xs)
    → (if t then x ∷ [] else x ∷ take_through 10 xs) ≡ x ∷ xs
whole_by true x xs e h rest = absurd (line_head x [] h (eqb-true x 10 e))
whole_by false x xs e h rest = ap (λ (t : Line). x ∷ t) (rest (line_tail x (take_through 10 xs) h))

whole : (xs : Line) → IsOneLine (take_through 10 xs) → take_through 10 xs ≡ xs
whole [] h = refl
whole (x ∷ xs) h = whole_by (x == 10) x xs refl h (whole xs)

ends_so : (got : Line) (k d : ℕ) → k < length got → length got - 1 ≤ k → get_or got k d ≡ 10 → ends_with_byte 10 got ≡ true
ends_so got k d low high e =
    let last : length got - 1 ≡ k = omega (arith, low, high) in
    let there : get_or got k 0 ≡ 10 = sym (get_or_default got k d 0 low) ∙ e in
    let some : nat_lt 0 (length got) ≡ true = grind (arith, low) in
    let same : (slice_index got (length got - 1) == 10) ≡ true = eq-eqb (slice_index got (length got - 1)) 10 (ap (λ (n : ℕ). slice_index got n) last ∙ there) in
    rw (some, same) refl

below_or_not : (k n : ℕ) → (k < n) ⊎ (n ≤ k)
below_or_not k n = grind arith

all_but_last : (got : Line) → StopsAt got 10 → ends_with_byte 10 got ≡ false → IsOneLine got
all_but_last got h e = λ k d low is.
    elim (below_or_not k (length got - 1)) [
      | inl below ↦ h k d (omega (arith, below, low, length-take (length got - 1) got)) (get_or-take (length got - 1) got k d below ∙ is)
      | inr above ↦ let t : true ≡ false = sym (ends_so got k d low above is) ∙ e in cc
    ]

pub next_of : (old new : Option Line) (got line : Line) (ending : Ending)
    → StopsAt got 10 → length got ≢ 0 → IfSome old (λ xs. got ≡ take_through 10 xs) → Consumes old new got
    → CutsBreak got line ending → IsNextLine old new line ending
next_of old new got line Break stops some known read cut = (subst IsOneLine (sym cut.1) stops, subst (Consumes old new) cut.0 read)
next_of old new got line Input stops some known read cut = (
  one,
  (λ e. some (ap length (sym cut.0) ∙ ap length e)),
  subst (Consumes old new) (sym cut.0) read,
  all_known old known,
)
  where
    one : IsOneLine line
    one = subst IsOneLine (sym cut.0) (all_but_last got stops cut.1)

    all_known : (o : Option Line) → IfSome o (λ xs. got ≡ take_through 10 xs) → IfSome o (λ xs. xs ≡ line)
    all_known None h = tt
    all_known (Some xs) h =
        let through : IsOneLine (take_through 10 xs) = subst IsOneLine (cut.0 ∙ h) one in
        sym (whole xs through) ∙ sym h ∙ sym cut.0
next_of old new got line NoLine stops some known read cut = absurd cut

-- a look at the input before the line keeps it
kept_first : (a b c : Option Line) (bs : Line) → Keeps a b → Consumes b c bs → Consumes a c bs
kept_first a b c bs k h = Consumes-trans a b c [] bs (Consumes-kept a a b [] (Consumes-nil a) k) h

if_kept : (a b : Option Line) (P : Line → Type 0) → Keeps a b → IfSome b P → IfSome a P
if_kept None b P k h = tt
if_kept (Some x) None P k h = absurd k
if_kept (Some x) (Some y) P k h = subst P k h

end_kept : (a b : Option Line) → Keeps a b → IsAtEnd b → IsAtEnd a
end_kept None b k h = tt
end_kept (Some x) None k h = absurd k
end_kept (Some x) (Some y) k h = subst (λ (t : Line). t ≡ []) k h

pub next_kept : (a b c : Option Line) (line : Line) (ending : Ending) → Keeps a b → IsNextLine b c line ending → IsNextLine a c line ending
next_kept a b c line Break k h = (h.0, kept_first a b c (line ++ 10 ∷ []) k h.1)
next_kept a b c line Input k h = (h.0, h.1, kept_first a b c line k h.2, if_kept a b (λ xs. xs ≡ line) k h.3)
next_kept a b c line NoLine k h = (end_kept a b k h.0, kept_first a b c [] k h.1)

-- ---- lines in a row

pub all_lines-push : (ls : List Line) (l : Line) → AreAllLines ls → IsOneLine l → AreAllLines (ls ++ l ∷ [])
all_lines-push [] l h p = (p, tt)
all_lines-push (k ∷ ls) l h p = (h.0, all_lines-push ls l h.1 p)

pub joined-push : (ls : List Line) (l : Line) → joined (ls ++ l ∷ []) ≡ joined ls ++ (l ++ 10 ∷ [])
joined-push [] l = refl
joined-push (k ∷ ls) l = ap (λ (t : Line). k ++ 10 ∷ t) (joined-push ls l) ∙ sym (append_assoc k (10 ∷ joined ls) (l ++ 10 ∷ []))

-- the lines of what comes after some lines are lines after these
pub lines_after : (ls more : List Line) (rest : Line) → AreAllLines ls → AreLines rest more → AreLines (joined ls ++ rest) (ls ++ more)
lines_after [] more rest h p = p
lines_after (l ∷ ls) more rest h p =
    (h.0, inl (joined ls ++ rest, append_assoc l (10 ∷ joined ls) rest, lines_after ls more rest h.1 p))
