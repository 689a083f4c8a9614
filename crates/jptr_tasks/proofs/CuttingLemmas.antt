-- Runs over the parts of an input that is cut after a line feed.
use Rattle.std.proofs.Common.{◌≡◌, ◌≢◌, inl, inr, ℕ, ◌+◌, List, [], ◌∷◌, ◌++◌, length, refl, sym, ap, ap₂, ◌∙◌, subst, arith, append-nil, append_assoc, codes, decimal, string_bytes}
use Rattle.std.specs.Prelude.{◌↔◌}
use Rattle.jsonptr.specs.Text.{Text}
use Rattle.jsonptr_io.specs.Lines.{IsOneLine, AreLines}
use Rattle.jsonptr_io.specs.PrivateLines.{joined, AreAllLines}
use Rattle.jsonptr_io.proofs.LineLemmas.{some_lines, one_lines, lines_after, no_feed}
use Rattle.jptr_tasks.specs.LineResults.{LineGives, LinesGive}
use Rattle.jptr_tasks.specs.Cutting.{EndsInLineFeed, InputGives, reports, IsShifted}
use Rattle.jptr_tasks.specs.declared.line.LineTask.{LineTask}
use Rattle.jptr_tasks.proofs.RunLemmas.{not_nil}

-- ---- the lines of the first part

-- what comes after a line feed ends in one too, or is nothing
rest_ends : (x y z : Text) → x ++ 10 ∷ y ≡ z ++ 10 ∷ [] → EndsInLineFeed y
rest_ends [] y [] e = let none : y ≡ [] = cc in inl none
rest_ends [] y (b ∷ z) e = let same : y ≡ z ++ 10 ∷ [] = cc in inr (z, same)
rest_ends (a ∷ x) y [] e = let none : x ++ 10 ∷ y ≡ [] = cc in absurd (not_nil x 10 y none)
rest_ends (a ∷ x) y (b ∷ z) e = let same : x ++ 10 ∷ y ≡ z ++ 10 ∷ [] = cc in rest_ends x y z same

rest_breaks : (l bytes rest : Text) → bytes ≡ l ++ 10 ∷ rest → EndsInLineFeed bytes → EndsInLineFeed rest
rest_breaks l bytes rest e (inl none) = absurd (not_nil l 10 rest (sym e ∙ none))
rest_breaks l bytes rest e (inr some) = rest_ends l rest some.0 (sym e ∙ some.1)

no_last : (l bytes : Text) → IsOneLine l → l ≢ [] → bytes ≡ l → EndsInLineFeed bytes → ⊥
no_last l bytes one some e (inl none) = some (sym e ∙ none)
no_last l bytes one some e (inr feed) = no_feed feed.0 [] l one (sym feed.1 ∙ e)

-- each line of a part that ends in a line feed has one
whole_lines : (ls : List Text) (bytes : Text) → EndsInLineFeed bytes → AreLines bytes ls → AreAllLines ls × (bytes ≡ joined ls)
whole_lines [] bytes ends h = (tt, h)
whole_lines (l ∷ ls) bytes ends h = elim h.1 [
  | inl x ↦
      let rest = whole_lines ls x.0 (rest_breaks l bytes x.0 x.1 ends) x.2 in
      ((h.0, rest.0), x.1 ∙ ap (λ (t : Text). l ++ 10 ∷ t) rest.1)
  | inr x ↦ absurd (no_last l bytes h.0 x.1 x.0 ends)
]

pub both_lines : (ls ks : List Text) (b1 b2 : Text) → EndsInLineFeed b1 → AreLines b1 ls → AreLines b2 ks → AreLines (b1 ++ b2) (ls ++ ks)
both_lines ls ks b1 b2 ends h k =
    let whole = whole_lines ls b1 ends h in
    subst (λ (b : Text). AreLines (b ++ b2) (ls ++ ks)) (sym whole.1) (lines_after ls ks b2 whole.0 k)

-- ---- what lines give

gives_append : (run : LineTask) (ls ks : List Text) (n : ℕ) (o1 r1 o2 r2 : Text)
    → LinesGive run n ls o1 r1 → LinesGive run (n + length ls) ks o2 r2 → LinesGive run n (ls ++ ks) (o1 ++ o2) (r1 ++ r2)
gives_append run [] ks n o1 r1 o2 r2 h k =
    let here : n + 0 ≡ n = omega arith in
    let out : o2 ≡ o1 ++ o2 = ap (λ (t : Text). t ++ o2) (sym h.0) in
    let err : r2 ≡ r1 ++ r2 = ap (λ (t : Text). t ++ r2) (sym h.1) in
    subst (λ (o : Text). LinesGive run n ks o (r1 ++ r2)) out
    (subst (λ (r : Text). LinesGive run n ks o2 r) err
    (subst (λ (m : ℕ). LinesGive run m ks o2 r2) here k))
gives_append run (l ∷ ls) ks n o1 r1 o2 r2 h k =
    let later : n + length (l ∷ ls) ≡ (n + 1) + length ls = omega arith in
    let rest = gives_append run ls ks (n + 1) h.2 h.3 o2 r2 h.5 (subst (λ (m : ℕ). LinesGive run m ks o2 r2) later k) in
    (h.0, h.1, h.2 ++ o2, h.3 ++ r2, h.4, rest, ap (λ (t : Text). t ++ o2) h.6 ∙ append_assoc h.0 h.2 o2, ap (λ (t : Text). t ++ r2) h.7 ∙ append_assoc h.1 h.3 r2)

-- what some lines give is what the first ones give, and then what the others give
pub record Parts (run : LineTask) (ls ks : List Text) (n : ℕ) (out err : Text) : Type 0 where
  pub o1 : Text
  pub r1 : Text
  pub o2 : Text
  pub r2 : Text
  pub first : LinesGive run n ls o1 r1
  pub second : LinesGive run (n + length ls) ks o2 r2
  pub printed : out ≡ o1 ++ o2
  pub reported : err ≡ r1 ++ r2

gives_parts : (run : LineTask) (ls ks : List Text) (n : ℕ) (out err : Text) → LinesGive run n (ls ++ ks) out err → Parts run ls ks n out err
gives_parts run [] ks n out err h =
    let here : n ≡ n + 0 = omega arith in
    record {
      o1 = [];
      r1 = [];
      o2 = out;
      r2 = err;
      first = (refl, refl);
      second = subst (λ (m : ℕ). LinesGive run m ks out err) here h;
      printed = refl;
      reported = refl;
    }
gives_parts run (l ∷ ls) ks n out err h =
    let rest = gives_parts run ls ks (n + 1) h.2 h.3 h.5 in
    let later : (n + 1) + length ls ≡ n + length (l ∷ ls) = omega arith in
    record {
      o1 = h.0 ++ rest.o1;
      r1 = h.1 ++ rest.r1;
      o2 = rest.o2;
      r2 = rest.r2;
      first = (h.0, h.1, rest.o1, rest.r1, h.4, rest.first, refl, refl);
      second = subst (λ (m : ℕ). LinesGive run m ks rest.o2 rest.r2) later rest.second;
      printed = h.6 ∙ ap (λ (t : Text). h.0 ++ t) rest.printed ∙ sym (append_assoc h.0 rest.o1 rest.o2);
      reported = h.7 ∙ ap (λ (t : Text). h.1 ++ t) rest.reported ∙ sym (append_assoc h.1 rest.r1 rest.r2);
    }

-- ---- with other numbers

reports_append : (name : Text) (k : ℕ) (rs ss : List (ℕ × Text)) → reports name k (rs ++ ss) ≡ reports name k rs ++ reports name k ss
reports_append name k [] ss = refl
reports_append name k (r ∷ rs) ss =
    let one = name ++ (codes ":" ++ (decimal (r.0 + k) ++ (codes ": " ++ (r.1 ++ 10 ∷ [])))) in
    ap (λ (t : Text). one ++ t) (reports_append name k rs ss) ∙ sym (append_assoc one (reports name k rs) (reports name k ss))

-- what is reported with the numbers from n + k on, for each k
record Numbered (run : LineTask) (n : ℕ) (G : ℕ → Text → Type 0) (k : ℕ) (err : Text) : Type 0 where
  rs : List (ℕ × Text)
  is : err ≡ reports (string_bytes run.name) k rs
  for : (j : ℕ) → G (n + j) (reports (string_bytes run.name) j rs)

line_numbered : (run : LineTask) (n k : ℕ) (l out err : Text) → LineGives run (n + k) l out err → Numbered run n (λ m r. LineGives run m l out r) k err
line_numbered run n k l out err (inl h) = record {
  rs = [];
  is = h.3;
  for = λ j. inl (h.0, h.1, h.2, refl);
}
line_numbered run n k l out err (inr (inl h)) = record {
  rs = (n, h.4.0) ∷ [];
  is = h.4.1 ∙ sym (append-nil _);
  for = λ j. inr (inl (h.0, h.1, h.2, h.3, (h.4.0, append-nil _)));
}
line_numbered run n k l out err (inr (inr h)) = record {
  rs = [];
  is = h.2;
  for = λ j. inr (inr (h.0, h.1, refl));
}

lines_numbered : (run : LineTask) (ls : List Text) (n k : ℕ) (out err : Text) → LinesGive run (n + k) ls out err → Numbered run n (λ m r. LinesGive run m ls out r) k err
lines_numbered run [] n k out err h = record {
  rs = [];
  is = h.1;
  for = λ j. (h.0, refl);
}
lines_numbered run (l ∷ ls) n k out err h =
    let next : (m : ℕ) → (n + m) + 1 ≡ (n + 1) + m = λ m. omega arith in
    let line = line_numbered run n k l h.0 h.1 h.4 in
    let rest = lines_numbered run ls (n + 1) k h.2 h.3 (subst (λ (m : ℕ). LinesGive run m ls h.2 h.3) (next k) h.5) in
    record {
      rs = line.rs ++ rest.rs;
      is = h.7 ∙ ap₂ (λ (s t : Text). s ++ t) line.is rest.is ∙ sym (reports_append (string_bytes run.name) k line.rs rest.rs);
      for = λ j. (h.0, reports (string_bytes run.name) j line.rs, h.2, reports (string_bytes run.name) j rest.rs, line.for j, subst (λ (m : ℕ). LinesGive run m ls h.2 (reports (string_bytes run.name) j rest.rs)) (sym (next j)) (rest.for j), h.6, reports_append (string_bytes run.name) j line.rs rest.rs);
    }

-- ---- the law

pub runs_joined : (run : LineTask) (b1 b2 : Text) (ls : List Text) (o1 r1 o2 r2 : Text)
    → EndsInLineFeed b1 → AreLines b1 ls → LinesGive run 1 ls o1 r1 → InputGives run b2 o2 r2
    → (s2 : Text) × IsShifted (string_bytes run.name) (length ls) r2 s2 × InputGives run (b1 ++ b2) (o1 ++ o2) (r1 ++ s2)
runs_joined run b1 b2 ls o1 r1 o2 r2 ends lines first second =
    let k = length ls in
    let start : 1 ≡ 1 + 0 = omega arith in
    let n = lines_numbered run second.0 1 0 o2 r2 (subst (λ (m : ℕ). LinesGive run m second.0 o2 r2) start second.2) in (
      reports (string_bytes run.name) k n.rs,
      (n.rs, n.is, refl),
      (ls ++ second.0, both_lines ls second.0 b1 b2 ends lines second.1, gives_append run ls second.0 1 o1 r1 o2 (reports (string_bytes run.name) k n.rs) first (n.for k)),
    )

pub runs_parted : (run : LineTask) (b1 b2 : Text) (ls : List Text) (out err : Text)
    → EndsInLineFeed b1 → AreLines b1 ls → InputGives run (b1 ++ b2) out err
    → (o1 r1 o2 r2 s2 : Text) × LinesGive run 1 ls o1 r1 × InputGives run b2 o2 r2
    × IsShifted (string_bytes run.name) (length ls) r2 s2 × (out ≡ o1 ++ o2) × (err ≡ r1 ++ s2)
runs_parted run b1 b2 ls out err ends lines all =
    let ks = some_lines b2 in
    let same : all.0 ≡ ls ++ ks.0 = one_lines all.0 (ls ++ ks.0) (b1 ++ b2) all.1 (both_lines ls ks.0 b1 b2 ends lines ks.1) in
    let p = gives_parts run ls ks.0 1 out err (subst (λ (ms : List Text). LinesGive run 1 ms out err) same all.2) in
    let n = lines_numbered run ks.0 1 (length ls) p.o2 p.r2 p.second in
    (p.o1, p.r1, p.o2, reports (string_bytes run.name) 0 n.rs, p.r2, p.first, (ks.0, ks.1, n.for 0), (n.rs, refl, n.is), p.printed, p.reported)

some_reports : (name : Text) (k j : ℕ) (rs : List (ℕ × Text)) → reports name k rs ≡ [] → reports name j rs ≡ []
some_reports name k j [] e = refl
some_reports name k j (r ∷ rs) e = absurd (not_nil name 58 _ (sym (append_assoc name _ (reports name k rs)) ∙ e))

pub quiet : (name : Text) (k : ℕ) (r s : Text) → IsShifted name k r s → (r ≡ []) ↔ (s ≡ [])
quiet name k r s h = (
  λ e. h.2 ∙ some_reports name 0 k h.0 (sym h.1 ∙ e),
  λ e. h.1 ∙ some_reports name k 0 h.0 (sym h.2 ∙ e),
)
