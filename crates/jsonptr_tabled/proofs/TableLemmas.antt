-- Tables of offsets, filled and moved.
use Rattle.std.proofs.Common.{◌≡◌, ◌≢◌, ℕ, suc, zero, ◌+◌, ◌-◌, ◌^◌, ◌<◌, ◌≤◌, List, [], ◌∷◌, ◌++◌, Some, None, Option, length, take, set, slice_index, slice_set, refl, sym, ap, ap₂, ◌∙◌, subst, ⊎_elim, arith, length-append, append_assoc, drop}
use Rattle.std.proofs.lemmas.List.{length-set, length-drop, length-take-le, length-map, get_or-set_same, get_or-set_other, get_or-drop, get_or-take, get_or-map, take_at, take_more, take_more_set, drop_more, drop-set-lt, map-append}
use Rattle.std.proofs.lemmas.Bool.{cases_eq}
use Rattle.std.proofs.lemmas.Grind.{same_number_lists}
use Rattle.jsonptr.specs.Text.{Text, esc, text}
use Rattle.jsonptr.specs.Ends.{PopsFront, PopsBack}
use Rattle.jsonptr.proofs.Calling.{text-append}
use Rattle.jsonptr.specs.Slashes.{slash_offsets}
use Rattle.jsonptr.proofs.SlashesLemmas.{slashes_from, offsets_are, from_moved, length-from, length-offsets, offset_below, below_end, offsets-append, offsets-push, offsets-cons, offsets-set}
use Rattle.jsonptr_tabled.specs.Private.{offsets_up_to, moved_up, moved_down, CanMoveUp, CanMoveDown, CanMove, MovesOffsets}

-- ---- the offsets from `from` up to i moved, and the others not yet

pub record MovedUpTo (old now : List ℕ) (from before after i : ℕ) : Type 0 where
  pub len : length now ≡ length old
  pub done : (k : ℕ) → from ≤ k → k < i → k < length old → slice_index now k + before ≡ slice_index old k + after
  pub kept : (k : ℕ) → k < from → slice_index now k ≡ slice_index old k
  pub ahead : (k : ℕ) → i ≤ k → slice_index now k ≡ slice_index old k

pub moved_none : (old : List ℕ) (from before after : ℕ) → MovedUpTo old old from before after from
moved_none old from before after = record {
  len = refl;
  done = λ k a b c. omega (arith, a, b);
  kept = λ k a. refl;
  ahead = λ k a. refl;
}

-- the offset at i may be moved
pub can_move : (old now : List ℕ) (from before after i : ℕ) → CanMove old from before after → MovedUpTo old now from before after i → from ≤ i → i < length now
    → (slice_index now i ≤ before) × (before ≤ slice_index now i + after)
can_move old now from before after i can so_far low high =
    let same = so_far.ahead i (omega arith) in
    let here = can i low (omega (arith, high, so_far.len)) in
    (omega (arith, same, here.0), omega (arith, same, here.1))

pub moved_more : (old now : List ℕ) (from before after i x : ℕ) → CanMove old from before after → MovedUpTo old now from before after i → from ≤ i → i < length now
    → x ≡ after - (before - slice_index now i) → MovedUpTo old (set now i x) from before after (i + 1)
moved_more old now from before after i x can so_far low high e =
    let here = can_move old now from before after i can so_far low high in
    let was = so_far.ahead i (omega arith) in
    record {
      len = length-set now i x ∙ so_far.len;
      done = λ k a b c.
          ⊎_elim
          (λ (at : k ≡ i). let put = get_or-set_same now i x 0 high in rw at (omega (arith, put, e, here.0, here.1, was)))
          (λ (other : k ≢ i). let keep = get_or-set_other now i k x 0 other in let old_way = so_far.done k a (omega (arith, b, other)) c in omega (arith, keep, old_way))
          (cases_eq k i);
      kept = λ k a. get_or-set_other now i k x 0 (λ at. omega (arith, a, at, low)) ∙ so_far.kept k a;
      ahead = λ k a. get_or-set_other now i k x 0 (λ at. omega (arith, a, at)) ∙ so_far.ahead k (omega (arith, a));
    }

pub moved_all : (old now : List ℕ) (from before after i : ℕ) → MovedUpTo old now from before after i → length now ≤ i → MovesOffsets old now from before after
moved_all old now from before after i so_far end = record {
  len = so_far.len;
  kept = so_far.kept;
  moved = λ k a b. so_far.done k a (omega (arith, b, so_far.len, end)) b;
}

-- ---- the offsets moved up, written after i over the offsets; up to i they are unchanged

pub record ShiftedUp (old now : List ℕ) (by i : ℕ) : Type 0 where
  pub len : length now ≡ length old
  pub inside : i < length old
  pub ahead : (k : ℕ) → k ≤ i → slice_index now k ≡ slice_index old k
  pub done : (k : ℕ) → i ≤ k → k + 1 < length old → slice_index now (k + 1) ≡ slice_index old k + by

pub shifted_none : (old : List ℕ) (by i : ℕ) → 0 < length old → i ≡ length old - 1 → ShiftedUp old old by i
shifted_none old by i some e = record {
  len = refl;
  inside = omega (arith, some, e);
  ahead = λ k h. refl;
  done = λ k a b. absurd (omega (arith, a, b, e));
}

-- the offset before i may be moved up
pub can_shift_up : (old now : List ℕ) (by i : ℕ) → CanMoveUp (take (length old - 1) old) by → ShiftedUp old now by i → 0 < i → slice_index now (i - 1) + by < 2 ^ 64
can_shift_up old now by i can so_far low =
    let within : i - 1 < length old - 1 = omega (arith, low, so_far.inside) in
    let same = so_far.ahead (i - 1) (omega arith) in
    let read = get_or-take (length old - 1) old (i - 1) 0 within in
    let here = can (i - 1) (omega (arith, within, length-take-le (length old - 1) old (omega arith))) in
    omega (arith, same, read, here)

pub shifted_up_more : (old now : List ℕ) (by i x : ℕ) → ShiftedUp old now by i → 0 < i → x ≡ slice_index now (i - 1) + by → ShiftedUp old (set now i x) by (i - 1)
shifted_up_more old now by i x so_far low e =
    let was = so_far.ahead (i - 1) (omega arith) in
    let high : i < length now = omega (arith, so_far.inside, so_far.len) in
    record {
      len = length-set now i x ∙ so_far.len;
      inside = omega (arith, so_far.inside);
      ahead = λ k h. get_or-set_other now i k x 0 (λ at. omega (arith, h, at, low)) ∙ so_far.ahead k (omega (arith, h));
      done = λ k a b.
          ⊎_elim
          (λ (at : k ≡ i - 1). let put = get_or-set_same now i x 0 high in let here : k + 1 ≡ i = omega (arith, at, low) in rw (here, at) (put ∙ e ∙ ap (λ (n : ℕ). n + by) was))
          (λ (other : k ≢ i - 1). get_or-set_other now i (k + 1) x 0 (λ at. other (omega (arith, at))) ∙ so_far.done k (omega (arith, a, other)) b)
          (cases_eq k (i - 1));
    }

place_same : (l : List ℕ) (i j : ℕ) → i ≡ j → slice_index l i ≡ slice_index l j
place_same l i j e = ap (slice_index l) e

sums_turned : (a b : ℕ) → a + b ≡ b + a
sums_turned a b = omega arith

shifted_at : (old now : List ℕ) (by : ℕ) → ShiftedUp old now by 0 → (k : ℕ) → k < length (set now 0 0) → slice_index (set now 0 0) k ≡ slice_index (0 ∷ moved_up by (take (length old - 1) old)) k
shifted_at old now by so_far zero h = get_or-set_same now 0 0 0 (omega (arith, so_far.inside, so_far.len))
shifted_at old now by so_far (suc k) h =
    let within : k < length old - 1 = omega (arith, h, length-set now 0 0, so_far.len) in
    get_or-set_other now 0 (suc k) 0 0 (λ at. omega (arith, at))
    ∙ place_same now (suc k) (k + 1) (omega arith)
    ∙ so_far.done k (omega arith) (omega (arith, within))
    ∙ sums_turned (slice_index old k) by
    ∙ ap (λ (n : ℕ). by + n) (sym (get_or-take (length old - 1) old k 0 within))
    ∙ sym (get_or-map (λ (o : ℕ). by + o) (take (length old - 1) old) k 0 0 (omega (arith, within, length-take-le (length old - 1) old (omega arith))))

pub shifted_up_all : (old now : List ℕ) (by i : ℕ) → ShiftedUp old now by i → i ≤ 0 → set now 0 0 ≡ 0 ∷ moved_up by (take (length old - 1) old)
shifted_up_all old now by i so_far end =
    let last : i ≡ 0 = omega (arith, end) in
    let done : ShiftedUp old now by 0 = subst (ShiftedUp old now by) last so_far in
    same_number_lists (set now 0 0) (0 ∷ moved_up by (take (length old - 1) old))
    (omega (arith, length-set now 0 0, done.len, done.inside, length-take-le (length old - 1) old (omega arith), length-map (take (length old - 1) old) (λ (o : ℕ). by + o)))
    (shifted_at old now by done)

same_tail : (now old : List ℕ) (i : ℕ) → length now ≡ length old → drop i now ≡ drop i old → i < length now → (slice_index now i ≡ slice_index old i) × (drop (i + 1) now ≡ drop (i + 1) old)
same_tail now old i len e high =
    let both : slice_index now i ∷ drop (i + 1) now ≡ slice_index old i ∷ drop (i + 1) old = sym (drop_more now i 0 high) ∙ e ∙ drop_more old i 0 (omega (arith, high, len)) in
    (cc, cc)

-- ---- the offsets after the first moved down, written up to i - 1 from the first position on; at i and after they
-- are unchanged

pub record ShiftedDown (old now : List ℕ) (by i : ℕ) : Type 0 where
  pub len : length now ≡ length old
  pub ahead : drop i now ≡ drop i old
  pub so_far : take (i - 1) now ≡ moved_down by (take (i - 1) (drop 1 old))

shifted_part : (old now : List ℕ) (by j x : ℕ) → length now ≡ length old → take j now ≡ moved_down by (take j (drop 1 old)) → j + 1 < length now → x ≡ slice_index old (1 + j) - by
    → take (j + 1) (set now j x) ≡ moved_down by (take (j + 1) (drop 1 old))
shifted_part old now by j x len so_far high e =
    let here : x ≡ slice_index (drop 1 old) j - by = e ∙ ap (λ (o : ℕ). o - by) (sym (get_or-drop 1 old j 0)) in
    take_more_set now j x (omega (arith, high))
    ∙ ap (λ (l : List ℕ). l ++ x ∷ []) so_far
    ∙ ap (λ (n : ℕ). moved_down by (take j (drop 1 old)) ++ n ∷ []) here
    ∙ sym (map-append (λ (o : ℕ). o - by) (take j (drop 1 old)) (slice_index (drop 1 old) j ∷ []))
    ∙ ap (moved_down by) (sym (take_more (drop 1 old) j 0 (omega (arith, high, len, length-drop 1 old))))

pub shifted_down_more : (old now : List ℕ) (by i x : ℕ) → ShiftedDown old now by i → 1 ≤ i → i < length now → x ≡ slice_index now i - by → ShiftedDown old (set now (i - 1) x) by (i + 1)
shifted_down_more old now by i x so_far low high e =
    let same = same_tail now old i so_far.len so_far.ahead high in
    let x_is : x ≡ slice_index old (1 + (i - 1)) - by = e ∙ ap (λ (o : ℕ). o - by) same.0 ∙ ap (λ (n : ℕ). slice_index old n - by) (omega (arith, low)) in
    record {
      len = length-set now (i - 1) x ∙ so_far.len;
      ahead = drop-set-lt (i + 1) now (i - 1) x (omega (arith, low)) ∙ same.1;
      so_far =
          subst (λ (n : ℕ). take n (set now (i - 1) x) ≡ moved_down by (take n (drop 1 old))) (omega (arith, low))
          (shifted_part old now by (i - 1) x so_far.len so_far.so_far (omega (arith, low, high)) x_is);
    }

-- ---- the offsets of a text that ends at `end`

pub up_to_is : (end : ℕ) (ts : List Text) → offsets_up_to end ts ≡ slashes_from (end - length (text ts)) ts
up_to_is end ts = sym (from_moved (end - length (text ts)) ts)

pub up_to_cons : (end : ℕ) (t : Text) (ts : List Text) → length (text (t ∷ ts)) ≤ end → offsets_up_to end (t ∷ ts) ≡ (end - length (text (t ∷ ts))) ∷ offsets_up_to end ts
up_to_cons end t ts h =
    rw (up_to_is end (t ∷ ts), up_to_is end ts)
    (ap (λ (n : ℕ). (end - length (text (t ∷ ts))) ∷ slashes_from n ts) (omega (arith, h, length-append (esc t) (text ts))))

pub behind_within : (ts rest : List Text) (t : Text) (end : ℕ) → ts ≡ t ∷ rest → length (text ts) ≤ end → length (text rest) ≤ end
behind_within ts rest t end e within =
    let longer = ap (λ (l : List Text). length (text l)) e in
    omega (arith, longer, within, length-append (esc t) (text rest))

-- one offset appended
pub filled_more : (items old : List ℕ) (end : ℕ) (all : List Text) (ts rest : List Text) (t : Text) (x : ℕ) → items ++ offsets_up_to end ts ≡ old ++ offsets_up_to end all → ts ≡ t ∷ rest → length (text ts) ≤ end → x ≡ end - length (text ts)
    → (items ++ x ∷ []) ++ offsets_up_to end rest ≡ old ++ offsets_up_to end all
filled_more items old end all ts rest t x so_far e within is =
    let whole : offsets_up_to end ts ≡ x ∷ offsets_up_to end rest = rw e (up_to_cons end t rest (subst (λ (l : List Text). length (text l) ≤ end) e within) ∙ ap (λ (n : ℕ). n ∷ offsets_up_to end rest) (sym (rw e at is))) in
    append_assoc items (x ∷ []) (offsets_up_to end rest) ∙ ap (λ (l : List ℕ). items ++ l) (sym whole) ∙ so_far

-- ---- which offsets may be moved

-- before a token is inserted before the others
pub can_move_up : (os : List ℕ) (ts new : List Text) (t : Text) (before after : ℕ) → os ≡ slash_offsets ts → new ≡ t ∷ ts → before ≡ length (text ts) → after ≡ length (text new) → after < 2 ^ 64 → CanMoveUp os (after - before)
can_move_up os ts new t before after was e b a fits k high =
    let longer = ap (λ (l : List Text). length (text l)) e in
    let below : slice_index os k < length (text ts) = rw was (offset_below ts k (omega (arith, high, ap length was, length-offsets ts))) in
    omega (arith, below, fits, b, a, longer, length-append (esc t) (text ts))

-- after a token that was removed
behind_first : (ts : List Text) (t : Text) (k : ℕ) → 0 < k → k < length (slash_offsets (t ∷ ts)) → 1 + length (esc t) ≤ slice_index (slash_offsets (t ∷ ts)) k
behind_first ts t zero low high = absurd (omega (arith, low))
behind_first ts t (suc k) low high =
    let within = below_end (1 + length (esc t)) ts k (omega (arith, high, length-offsets (t ∷ ts))) in
    rw (offsets-cons t ts) within.0

pub can_move_down : (os : List ℕ) (ts new : List Text) (r : Option Text) (before after : ℕ) → os ≡ slash_offsets ts → PopsFront ts r new → before ≡ length (text ts) → after ≡ length (text new) → CanMoveDown os (before - after)
can_move_down os ts new None before after was pops b a k low high = absurd (omega (arith, high, ap length was, length-offsets ts, ap length pops.0))
can_move_down os ts new (Some t) before after was pops b a k low high =
    let longer = ap (λ (l : List Text). length (text l)) pops in
    let table : os ≡ slash_offsets (t ∷ new) = was ∙ ap slash_offsets pops in
    let far : 1 + length (esc t) ≤ slice_index os k = rw table (behind_first new t k low (omega (arith, high, ap length table))) in
    omega (arith, far, b, a, longer, length-append (esc t) (text new))

-- after a token that replaced another
far_from_end : (a : ℕ) (ts : List Text) (i : ℕ) (t : Text) (k : ℕ) → i < k → k < length ts → a + length (text ts) ≤ slice_index (slashes_from a ts) k + length (text (slice_set ts i t))
far_from_end a [] i t k l h = absurd (omega (arith, h))
far_from_end a (x ∷ ts) i t zero l h = absurd (omega (arith, l))
far_from_end a (x ∷ ts) zero t (suc k) l h =
    let within = below_end (a + (1 + length (esc x))) ts k (omega (arith, h)) in
    omega (arith, within.0, length-append (esc x) (text ts), length-append (esc t) (text ts))
far_from_end a (x ∷ ts) (suc i) t (suc k) l h =
    let rest = far_from_end (a + (1 + length (esc x))) ts i t k (omega (arith, l)) (omega (arith, h)) in
    omega (arith, rest, length-append (esc x) (text ts), length-append (esc x) (text (slice_set ts i t)))

pub can_move_behind : (os : List ℕ) (ts : List Text) (i : ℕ) (t : Text) (before after : ℕ) → os ≡ slash_offsets ts → before ≡ length (text ts) → after ≡ length (text (slice_set ts i t)) → CanMove os (i + 1) before after
can_move_behind os ts i t before after e b a =
    rw (e ∙ offsets_are ts) (λ k low high.
    let inside : k < length ts = omega (arith, high, length-from 0 ts) in
    let within = below_end 0 ts k inside in
    let far = far_from_end 0 ts i t k (omega (arith, low)) inside in
    (omega (arith, within.1, b), omega (arith, far, a, b)))

-- ---- the table of an edited pointer

-- a whole text
pub filled : (items : List ℕ) (ts : List Text) (end : ℕ) → end ≡ length (text ts) → items ≡ [] ++ offsets_up_to end ts → items ≡ slash_offsets ts
filled items ts end e is = is ∙ up_to_is end ts ∙ ap (λ (n : ℕ). slashes_from n ts) (omega (arith, e)) ∙ sym (offsets_are ts)

-- another list appended
pub end_within : (ts us new : List Text) (end : ℕ) → new ≡ ts ++ us → end ≡ length (text new) → length (text us) ≤ end
end_within ts us new end e len =
    let both : length (text (ts ++ us)) ≡ length (text ts) + length (text us) = ap length (text-append ts us) ∙ length-append (text ts) (text us) in
    let whole = ap (λ (l : List Text). length (text l)) e in
    omega (arith, both, len, whole)

pub joined : (old items : List ℕ) (ts us new : List Text) (end : ℕ) → old ≡ slash_offsets ts → new ≡ ts ++ us → end ≡ length (text new) → items ≡ old ++ offsets_up_to end us → items ≡ slash_offsets new
joined old items ts us new end was e len is =
    let both : length (text (ts ++ us)) ≡ length (text ts) + length (text us) = ap length (text-append ts us) ∙ length-append (text ts) (text us) in
    let whole = ap (λ (l : List Text). length (text l)) e in
    rw (is, was, e, offsets-append ts us, up_to_is end us)
    (ap (λ (n : ℕ). slash_offsets ts ++ slashes_from n us) (omega (arith, both, len, whole)))

-- one token appended
pub pushed_back : (old items : List ℕ) (ts new : List Text) (t : Text) (before : ℕ) → old ≡ slash_offsets ts → before ≡ length (text ts) → items ≡ old ++ before ∷ [] → new ≡ ts ++ t ∷ [] → items ≡ slash_offsets new
pushed_back old items ts new t before was len is e = rw (is, was, len, e, offsets-push ts t) refl

-- one token inserted before the others
in_front : (t : Text) (ts : List Text) (by : ℕ) → by ≡ 1 + length (esc t) → slash_offsets (t ∷ ts) ≡ 0 ∷ moved_up by (slash_offsets ts)
in_front t ts by e = offsets-cons t ts ∙ ap (λ (l : List ℕ). 0 ∷ l) (from_moved (1 + length (esc t)) ts ∙ ap (λ (n : ℕ). moved_up n (slash_offsets ts)) (sym e))

pub pushed_front : (items old : List ℕ) (ts new : List Text) (t : Text) (before after : ℕ) → items ≡ 0 ∷ moved_up (after - before) old → old ≡ slash_offsets ts → new ≡ t ∷ ts → before ≡ length (text ts) → after ≡ length (text new)
    → items ≡ slash_offsets new
pushed_front items old ts new t before after is was e b a =
    let longer = ap (λ (l : List Text). length (text l)) e in
    rw e
    (is ∙ ap (λ (l : List ℕ). 0 ∷ moved_up (after - before) l) was
    ∙ sym (in_front t ts (after - before) (omega (arith, b, a, longer, length-append (esc t) (text ts)))))

-- the first token removed
down_again : (by : ℕ) (os : List ℕ) → moved_down by (moved_up by os) ≡ os
down_again by [] = refl
down_again by (o ∷ os) = ap₂ (λ (x : ℕ) (xs : List ℕ). x ∷ xs) (omega arith) (down_again by os)

pub popped_front : (items old : List ℕ) (ts new : List Text) (r : Option Text) (before after : ℕ) → items ≡ moved_down (before - after) (drop 1 old) → old ≡ slash_offsets ts → PopsFront ts r new → before ≡ length (text ts) → after ≡ length (text new)
    → items ≡ slash_offsets new
popped_front items old ts new None before after is was pops b a =
    is ∙ ap (λ (l : List ℕ). moved_down (before - after) (drop 1 l)) (was ∙ ap slash_offsets pops.0) ∙ ap slash_offsets (sym pops.1)
popped_front items old ts new (Some t) before after is was pops b a =
    let longer = ap (λ (l : List Text). length (text l)) pops in
    let table : old ≡ 0 ∷ moved_up (before - after) (slash_offsets new) = was ∙ ap slash_offsets pops ∙ in_front t new (before - after) (omega (arith, b, a, longer, length-append (esc t) (text new))) in
    is ∙ ap (λ (l : List ℕ). moved_down (before - after) (drop 1 l)) table ∙ down_again (before - after) (slash_offsets new)

-- the last token removed
take_none : (n : ℕ) → take {A = ℕ} n [] ≡ []
take_none zero = refl
take_none (suc n) = refl

pub popped_back : (old items : List ℕ) (ts new : List Text) (r : Option Text) (n : ℕ) → n ≡ length old → old ≡ slash_offsets ts → PopsBack ts r new → items ≡ take (n - 1) old → items ≡ slash_offsets new
popped_back old items ts new None n len was pops rest =
    rest ∙ ap (λ (os : List ℕ). take (n - 1) os) (was ∙ ap slash_offsets pops.0) ∙ take_none (n - 1) ∙ ap slash_offsets (sym pops.1)
popped_back old items ts new (Some t) n len was pops rest =
    let table : old ≡ slash_offsets new ++ length (text new) ∷ [] = was ∙ ap slash_offsets pops ∙ offsets-push new t in
    rest ∙ ap (λ (os : List ℕ). take (n - 1) os) table
    ∙ take_at (slash_offsets new) (length (text new) ∷ []) (n - 1) (omega (arith, len, ap length table, length-append (slash_offsets new) (length (text new) ∷ [])))

-- one token replaced
pub replaced : (old moved : List ℕ) (ts new : List Text) (i : ℕ) (t : Text) (before after : ℕ) → old ≡ slash_offsets ts → i < length ts → new ≡ slice_set ts i t → before ≡ length (text ts) → after ≡ length (text new) → MovesOffsets old moved (i + 1) before after → moved ≡ slash_offsets new
replaced old moved ts new i t before after was within e b a h =
    rw e (offsets-set ts i t moved before after within b (a ∙ ap (λ (l : List Text). length (text l)) e) (h.len ∙ ap length was)
    (λ k l. h.kept k (omega (arith, l)) ∙ ap (λ (os : List ℕ). slice_index os k) was)
    (λ k l m. h.moved k (omega (arith, l)) (omega (arith, m, ap length was)) ∙ ap (λ (os : List ℕ). slice_index os k + after) was))

-- ---- what is written through a slice of a whole vector

pub written_whole : (items now : List ℕ) (n : ℕ) → length now ≡ n → take n (now ++ drop (length now) items) ≡ now
written_whole items now n e = take_at now (drop (length now) items) n e
