-- Parts of a text, pointers in lines, and lines in a row.
use Rattle.std.proofs.Common.{◌≡◌, ◌≢◌, inl, inr, ℕ, suc, ◌+◌, ◌<◌, ◌==◌, Bool, true, false, Bor, List, [], ◌∷◌, ◌++◌, length, get_or, take, Option, Some, None, MatchOption, Err, All, refl, sym, ap, subst, ◌∙◌, arith, append_assoc, append-nil, length-append, true≢false}
use Rattle.std.specs.List.{position_or_len, before_first, after_first}
use Rattle.std.proofs.Math.Dec.{eqb-suc-zero}
use Rattle.std.proofs.lemmas.Bool.{eqb-true, eqb-false}
use Rattle.std.proofs.lemmas.List.{get_or-take, length-take-le}
use Rattle.std.proofs.lemmas.List.Elements.{All-from_get_or}
use Rattle.std.proofs.lemmas.List.Sums.{fails_before_first, passes_at_first, split_at_first}
use Rattle.serde_json.specs.Data.{Data, null, string, depth}
use Rattle.serde_json.specs.Read.{read, max_depth}
use Rattle.jsonptr.specs.Text.{Text, text}
use Rattle.jsonptr.specs.Json.{nodes}
use Rattle.jsonptr.specs.Node.{NodeMap}
use Rattle.jsonptr.specs.Assigning.{Assigns}
use Rattle.jsonptr_value.specs.Nesting.{NestsWithin}
use Rattle.jsonptr_value.proofs.LevelLemmas.{NestsWithin-depth}
use Rattle.jsonptr_value.proofs.NestingLemmas.{Assigns-within}
use Rattle.jsonptr.specs.Grammar.{IsPointer}
use Rattle.jsonptr.proofs.Calling.{IsPointer-text}
use Rattle.jsonptr.specs.Fault.{IfRefused}
use Rattle.jsonptr.specs.Types.Fault.{Fault}
use Rattle.jsonptr.specs.Types.Fault.TheVariants as fault
use Rattle.jsonptr_io.specs.Lines.{IsOneLine, AreLines}
use Rattle.jsonptr_text_paths.specs.Building.{CutsAt, ReadsField, FitsDepth, AssignsLine, AssignsLines, Builds, IsLineError, StopsBuilding}
use Rattle.jsonptr_text_paths.specs.PrivateBuilding.{IsFirstLine, Progress, of_line}
use Rattle.jsonptr_text_paths.specs.declared.build.LineError.{LineError}
use Rattle.jsonptr_text_paths.specs.declared.build.BuildError.{BuildError}

-- parts of a text

lacks_all : (c : ℕ) (s : Text) → position_or_len (λ b. b == c) s ≡ length s → All (λ b. b ≢ c) s
lacks_all c s none = All-from_get_or (λ b. b ≢ c) s 0 (λ i inside. eqb-false (get_or s i 0) c (fails_before_first (λ b. b == c) s i 0 (subst (λ (n : ℕ). i < n) (sym none) inside)))

lacks_before : (c : ℕ) (s : Text) → position_or_len (λ b. b == c) s < length s → All (λ b. b ≢ c) (before_first (λ b. b == c) s)
lacks_before c s there = All-from_get_or (λ b. b ≢ c) (take n s) 0 lacks
  where
    n : ℕ
    n = position_or_len (λ b. b == c) s

    lacks : (i : ℕ) → i < length (take (position_or_len (λ b. b == c) s) s) → get_or (take (position_or_len (λ b. b == c) s) s) i 0 ≢ c
    lacks i inside =
        let as_long : length (take n s) ≡ n = length-take-le n s (omega arith) in
        let early : i < n = subst (λ (k : ℕ). i < k) as_long inside in
        let same : get_or (take n s) i 0 ≡ get_or s i 0 = get_or-take n s i 0 early in
        λ e. eqb-false (get_or s i 0) c (fails_before_first (λ b. b == c) s i 0 early) (sym same ∙ e)

cut_here : (c : ℕ) (s : Text) → position_or_len (λ b. b == c) s < length s → s ≡ before_first (λ b. b == c) s ++ c ∷ after_first (λ b. b == c) s
cut_here c s there =
    let at : get_or s (position_or_len (λ b. b == c) s) 0 ≡ c = eqb-true _ c (passes_at_first (λ b. b == c) s 0 there) in
    split_at_first (λ b. b == c) s 0 there ∙ ap (λ (b : ℕ). before_first (λ b. b == c) s ++ b ∷ after_first (λ b. b == c) s) at

pub cut_made : (c : ℕ) (s : Text) (r : Option (Bor (List ℕ) × Bor (List ℕ)))
    → MatchOption r (position_or_len (λ b. b == c) s ≡ length s)
    (λ x. (x.0.now ≡ before_first (λ b. b == c) s) × (x.1.now ≡ after_first (λ b. b == c) s) × (position_or_len (λ b. b == c) s < length s))
    → MatchOption r (All (λ b. b ≢ c) s) (λ x. CutsAt c s x.0.now x.1.now)
cut_made c s None h = lacks_all c s h
cut_made c s (Some x) h = (
  subst (All (λ b. b ≢ c)) (sym h.0) (lacks_before c s h.2),
  cut_here c s h.2 ∙ ap (λ (l : Text). l ++ c ∷ after_first (λ b. b == c) s) (sym h.0) ∙ ap (λ (l : Text). x.0.now ++ c ∷ l) (sym h.1),
)

-- pointers in lines

pub no_field : (field : Text) → (IsPointer field → ⊥) → ((t : Text) → read field ≡ Some (string t) → IsPointer t → ⊥) → (ts : List Text) → ReadsField field ts → ⊥
no_field field plain quoted ts h = elim h [
  | inl e ↦ plain (subst IsPointer (sym e) (IsPointer-text ts))
  | inr e ↦ quoted (text ts) e (IsPointer-text ts)
]

-- a value that fits keeps the document as shallow as a text that is read
pub readable_more : (n m : NodeMap) (ts : List Text) (v : Data) (old : Option NodeMap) → Assigns n ts (nodes v) m old → FitsDepth ts v → NestsWithin max_depth n → NestsWithin max_depth m
readable_more n m ts v old made fits h = Assigns-within max_depth (depth v) n ts (nodes v) m old made h (NestsWithin-depth v) fits

-- lines in a row

pub assigns_more : (n k m : NodeMap) (ls : List Text) (l : Text) → AssignsLines n ls k → AssignsLine k l m → AssignsLines n (ls ++ l ∷ []) m
assigns_more n k m [] l a b = (m, subst (λ (j : NodeMap). AssignsLine j l m) a b, refl)
assigns_more n k m (x ∷ ls) l a b = (a.0, a.1, assigns_more a.0 k m ls l a.2 b)

no_lines : (ls : List Text) → AreLines [] ls → ls ≡ []
no_lines [] h = refl
no_lines (l ∷ ls) h = elim h.1 [
  | inl r ↦ let wrong : [] ≡ l ++ 10 ∷ r.0 = r.1 in absurd (not_empty l r.0 wrong)
  | inr r ↦ absurd (r.1 (sym r.0))
]
  where
    not_empty : (l rest : Text) → [] ≡ l ++ 10 ∷ rest → ⊥
    not_empty [] rest e = let none : ⊥ = cc in none
    not_empty (b ∷ l) rest e = let none : ⊥ = cc in none

first_of : (s l rest : Text) → s ≢ [] → IsFirstLine s l rest → (ls : List Text) → AreLines rest ls → AreLines s (l ∷ ls)
first_of s l rest some h ls are = elim h [
  | inl c ↦ (c.0, inl (rest, c.1, are))
  | inr r ↦ (
    subst IsOneLine (sym r.1) r.0,
    inr (sym r.1, (λ e. some (sym r.1 ∙ e)), no_lines ls (subst (λ (t : Text). AreLines t ls) r.2 are)),
  )
]

pub progress_none : (s : Text) (m : NodeMap) → m ≡ nodes null → Progress s s 0 m
progress_none s m start = record {
  lines = [];
  count = refl;
  builds = start;
  split = λ ls are. are;
}

pub progress_more : (s rest l later : Text) (i : ℕ) (m k : NodeMap) → rest ≢ [] → IsFirstLine rest l later → Progress s rest i m → AssignsLine m l k → Progress s later (i + 1) k
progress_more s rest l later i m k some first p a = record {
  lines = p.lines ++ l ∷ [];
  count = longer;
  builds = assigns_more (nodes null) m k p.lines l p.builds a;
  split = λ ls are. subst (AreLines s) (sym (append_assoc p.lines (l ∷ []) ls)) (p.split (l ∷ ls) (first_of rest l later some first ls are));
}
  where
    longer : i + 1 ≡ length (p.lines ++ l ∷ [])
    longer = ap (λ (n : ℕ). n + 1) p.count ∙ sym (length-append p.lines (l ∷ []))

pub built : (s rest : Text) (i : ℕ) (m : NodeMap) → rest ≡ [] → Progress s rest i m → Builds s m
built s rest i m end p = (p.lines, subst (AreLines s) (append-nil p.lines) (p.split [] end), p.builds)

pub stopped : (s rest l later : Text) (i : ℕ) (m : NodeMap) (f : Fault LineError) (e : BuildError)
    → ((t : Text) → (ls : List Text) × AreLines t ls)
    → rest ≢ [] → IsFirstLine rest l later → Progress s rest i m → IfRefused {T = Unit {0}} (Err f) (IsLineError m l) → e ≡ of_line (i + 1) f → StopsBuilding s e
stopped s rest l later i m (fault.Refused why) e some_lines some first p wrong is =
    let after = some_lines later in
    subst (StopsBuilding s) (sym is)
    (p.lines, after.0, l, m, p.split (l ∷ after.0) (first_of rest l later some first after.0 after.1), ap (λ (n : ℕ). n + 1) p.count, p.builds, wrong)
stopped s rest l later i m (fault.Memory why) e some_lines some first p wrong is = subst (StopsBuilding s) (sym is) tt

pub shorter : (s l rest : Text) → s ≢ [] → IsFirstLine s l rest → length rest < length s
shorter s l rest some h = elim h [
  | inl c ↦
      let long : length s ≡ length l + suc (length rest) = ap length c.1 ∙ length-append l (10 ∷ rest) in
      omega arith
  | inr r ↦
      let none : length rest ≡ 0 = ap length r.2 in
      let more : 0 < length s = not_none s some in
      omega arith
]
  where
    not_none : (t : Text) → t ≢ [] → 0 < length t
    not_none [] h = absurd (h refl)
    not_none (b ∷ t) h = omega arith

pub some_left : (s : Text) (b : Bool) → b ≡ (length s == 0) → b ≡ false → s ≢ []
some_left s b is no_b e = absurd (true≢false (sym (is ∙ ap (λ (t : Text). length t == 0) e) ∙ no_b))

pub none_left : (s : Text) (b : Bool) → b ≡ (length s == 0) → b ≡ true → s ≡ []
none_left [] b is yes_b = refl
none_left (x ∷ s) b is yes_b = absurd (true≢false (sym yes_b ∙ is ∙ eqb-suc-zero (length s)))
