-- The table of a list's slashes against the bytes of its text.
use Rattle.std.proofs.Common.{◌≡◌, ◌≢◌, ℕ, suc, zero, ◌+◌, ◌-◌, ◌<◌, ◌≤◌, ◌↔◌, List, [], ◌∷◌, ◌++◌, length, take, drop, get_or, slice_index, refl, sym, ap, ◌∙◌, subst, ⊎_elim, arith, length-append, length-drop, take-append-drop, add-zero}
use Rattle.std.specs.Prelude.{Contains}
use Rattle.std.proofs.lemmas.List.{get_or_append_left, get_or-append-add}
use Rattle.std.proofs.lemmas.List.Elements.{All-get_or}
use Rattle.std.proofs.lemmas.Option.{get_or_from_slice_get}
use Rattle.std.proofs.lemmas.Bool.{cases_lt}
use Rattle.jsonptr.specs.Text.{Text, esc, text}
use Rattle.jsonptr_grammar.proofs.EscapeLemmas.{no_slash-esc}
use Rattle.jsonptr_grammar.proofs.PointerLemmas.{text-append}
use Rattle.jsonptr.specs.Slashes.{slash_offsets}
use Rattle.jsonptr.proofs.SlashesLemmas.{slashes_from, offsets_are, length-offsets, below_end, offset_at}

-- if there are more than n tokens, a slash follows the first n
begins_some : (ts : List Text) → 0 < length ts → slice_index (text ts) 0 ≡ 47
begins_some [] some = absurd (omega (arith, some))
begins_some (t ∷ ts) some = refl

stands_behind : (ts : List Text) (n : ℕ) → n < length ts → slice_index (text ts) (length (text (take n ts))) ≡ 47
stands_behind ts n h =
    let split : text ts ≡ text (take n ts) ++ text (drop n ts) = ap text (sym (take-append-drop n ts)) ∙ text-append (take n ts) (drop n ts) in
    ap (λ (s : Text). get_or s (length (text (take n ts))) 0) split
    ∙ ap (λ (k : ℕ). get_or (text (take n ts) ++ text (drop n ts)) k 0) (sym (add-zero (length (text (take n ts)))))
    ∙ get_or-append-add (text (take n ts)) (text (drop n ts)) 0 0
    ∙ begins_some (drop n ts) (omega (arith, h, length-drop n ts))

-- each slash follows the first n tokens of more than n
record Behind (ts : List Text) (o : ℕ) : Type 0 where
  count : ℕ
  within : count < length ts
  place : o ≡ length (text (take count ts))

behind : (ts : List Text) (o : ℕ) → slice_index (text ts) o ≡ 47 → Behind ts o
behind [] o e = absurd (omega (arith, e))
behind (t ∷ ts) zero e = record { count = 0; within = omega arith; place = refl }
behind (t ∷ ts) (suc o) e =
    ⊎_elim
    (λ (inside : o < length (esc t)). absurd (All-get_or (λ b. b ≢ 47) (esc t) o 0 inside (no_slash-esc t) (sym (get_or_append_left (esc t) (text ts) 0 o inside) ∙ e)))
    (λ (past : length (esc t) ≤ o).
    let at : o ≡ length (esc t) + (o - length (esc t)) = omega (arith, past) in
    let reads : slice_index (text ts) (o - length (esc t)) ≡ 47 =
    sym (get_or-append-add (esc t) (text ts) (o - length (esc t)) 0) ∙ ap (λ (k : ℕ). get_or (esc t ++ text ts) k 0) (sym at) ∙ e in
    let more = behind ts (o - length (esc t)) reads in
    record {
      count = suc more.count;
      within = omega (arith, more.within);
      place = omega (arith, more.place, at, length-append (esc t) (text (take more.count ts)));
    })
    (cases_lt o (length (esc t)))

pub slash_iff : (ts : List Text) (o : ℕ) → Contains (slash_offsets ts) o ↔ (slice_index (text ts) o ≡ 47)
slash_iff ts o = (
  λ (c : Contains (slash_offsets ts) o).
      let inside : c.0 < length ts = omega (arith, c.1, length-offsets ts) in
      let place : length (text (take c.0 ts)) ≡ o = sym (get_or_from_slice_get (slash_offsets ts) c.0 (length (text (take c.0 ts))) o (offset_at ts c.0 inside)) ∙ c.2 in
      subst (λ (k : ℕ). slice_index (text ts) k ≡ 47) place (stands_behind ts c.0 inside),
  λ (e : slice_index (text ts) o ≡ 47).
      let at = behind ts o e in
      (at.count, omega (arith, at.within, length-offsets ts), get_or_from_slice_get (slash_offsets ts) at.count (length (text (take at.count ts))) o (offset_at ts at.count at.within) ∙ sym at.place),
)

ascends : (a : ℕ) (ts : List Text) (i j : ℕ) → i < j → j < length ts → slice_index (slashes_from a ts) i < slice_index (slashes_from a ts) j
ascends a [] i j l h = absurd (omega (arith, h))
ascends a (t ∷ ts) i zero l h = absurd (omega (arith, l))
ascends a (t ∷ ts) zero (suc j) l h = let within = below_end (a + (1 + length (esc t))) ts j (omega (arith, h)) in omega (arith, within.0)
ascends a (t ∷ ts) (suc i) (suc j) l h = ascends (a + (1 + length (esc t))) ts i j (omega (arith, l)) (omega (arith, h))

pub ascending : (ts : List Text) (i j : ℕ) → i < j → j < length (slash_offsets ts) → slice_index (slash_offsets ts) i < slice_index (slash_offsets ts) j
ascending ts i j l h = rw (offsets_are ts) (ascends 0 ts i j l (omega (arith, h, length-offsets ts)))
