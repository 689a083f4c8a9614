-- Lines as a whole text.
use Rattle.std.proofs.Common.{◌≡◌, ◌≢◌, inl, inr, ℕ, List, [], ◌∷◌, ◌++◌, length, take, drop, Some, refl, sym, ap, ◌∙◌, subst, append_assoc, take-append-drop}
use Rattle.std.specs.Prelude.{◌↔◌, All}
use Rattle.std.proofs.lemmas.List.Elements.{All-nil, All-cons, All-head, All-tail}
use Rattle.std.proofs.Math.Seq.{take-append_seam}
use Rattle.jsonptr_io.specs.Lines.{IsOneLine, AreLines, IsNextLine}
use Rattle.jsonptr_io.specs.Streams.{AppendsPrefix}
use Rattle.jsonptr_io.specs.Whole.{broken, IsBroken}
use Rattle.jsonptr_io.specs.declared.read.Ending.TheVariants.{Break, Input, NoLine}
use Rattle.jsonptr_io.proofs.LineLemmas.{same_start, no_feed}

abbrev Line : Type 0
Line = List ℕ

-- a line and a line feed before a text
one_more : (l rest : Line) → l ++ 10 ∷ rest ≡ (l ++ 10 ∷ []) ++ rest
one_more l rest = sym (append_assoc l (10 ∷ []) rest)

later : (l rest bytes : Line) (ls : List Line) → bytes ≡ l ++ 10 ∷ rest → IsBroken rest ls → IsBroken bytes (l ∷ ls)
later l rest bytes ls e (inl x) = inl (e ∙ one_more l rest ∙ ap (λ (t : Line). (l ++ 10 ∷ []) ++ t) x)
later l rest bytes ls e (inr x) = inr (
  l ∷ x.0,
  x.1,
  ap (λ (ks : List Line). l ∷ ks) x.2,
  x.3,
  e ∙ one_more l rest ∙ ap (λ (t : Line). (l ++ 10 ∷ []) ++ t) x.4 ∙ sym (append_assoc (l ++ 10 ∷ []) (broken x.0) x.1),
)

whole_of : (ls : List Line) (bytes : Line) → AreLines bytes ls → All IsOneLine ls × IsBroken bytes ls
whole_of [] bytes h = (All-nil IsOneLine, inl h)
whole_of (l ∷ ls) bytes h = elim h.1 [
  | inl x ↦
      let rest = whole_of ls x.0 x.2 in
      (All-cons IsOneLine l ls h.0 rest.0, later l x.0 bytes ls x.1 rest.1)
  | inr x ↦
      let one : l ∷ ls ≡ l ∷ [] = ap (λ (ks : List Line). l ∷ ks) x.2 in
      (subst (All IsOneLine) (sym one) (All-cons IsOneLine l [] h.0 (All-nil IsOneLine)), inr ([], l, one, x.1, x.0))
]

broken_lines : (ls : List Line) → All IsOneLine ls → AreLines (broken ls) ls
broken_lines [] one = refl
broken_lines (l ∷ ls) one =
    (All-head IsOneLine l ls one, inl (broken ls, sym (one_more l (broken ls)), broken_lines ls (All-tail IsOneLine l ls one)))

last_lines : (front : List Line) (last : Line) → last ≢ [] → All IsOneLine (front ++ last ∷ []) → AreLines (broken front ++ last) (front ++ last ∷ [])
last_lines [] last some one = (All-head IsOneLine last [] one, inr (refl, some, refl))
last_lines (l ∷ front) last some one = (
  All-head IsOneLine l (front ++ last ∷ []) one,
  inl (
    broken front ++ last,
    append_assoc (l ++ 10 ∷ []) (broken front) last ∙ sym (one_more l (broken front ++ last)),
    last_lines front last some (All-tail IsOneLine l (front ++ last ∷ []) one),
  ),
)

whole_from : (ls : List Line) (bytes : Line) → All IsOneLine ls → IsBroken bytes ls → AreLines bytes ls
whole_from ls bytes one (inl x) = subst (λ (t : Line). AreLines t ls) (sym x) (broken_lines ls one)
whole_from ls bytes one (inr x) =
    let parts = last_lines x.0 x.1 x.3 (subst (All IsOneLine) x.2 one) in
    subst (λ (t : Line). AreLines t ls) (sym x.4) (subst (AreLines (broken x.0 ++ x.1)) (sym x.2) parts)

pub whole_lines : (bytes : Line) (ls : List Line) → AreLines bytes ls ↔ (All IsOneLine ls × IsBroken bytes ls)
whole_lines bytes ls = (whole_of ls bytes, λ h. whole_from ls bytes h.0 h.1)

-- ---- one after another

left_lines : (bytes rest l : Line) (ls : List Line) → IsNextLine (Some bytes) (Some rest) l Break → AreLines bytes (l ∷ ls) → AreLines rest ls
left_lines bytes rest l ls h k =
    let is : bytes ≡ l ++ 10 ∷ rest = h.1 ∙ sym (one_more l rest) in
    elim k.1 [
      | inl x ↦
          let same = same_start l l rest x.0 h.0 k.0 (sym is ∙ x.1) in
          subst (λ (t : Line). AreLines t ls) (sym same.1) x.2
      | inr x ↦ absurd (no_feed l rest l h.0 (sym is ∙ x.0))
    ]

pub next_broken : (bytes rest l : Line) (ls : List Line) → IsNextLine (Some bytes) (Some rest) l Break → (AreLines bytes (l ∷ ls) ↔ AreLines rest ls)
next_broken bytes rest l ls h = (left_lines bytes rest l ls h, λ k. (h.0, inl (rest, h.1 ∙ sym (one_more l rest), k)))

none_left : (bytes rest : Line) → bytes ≡ bytes ++ rest → rest ≡ []
none_left [] rest e = sym e
none_left (b ∷ bytes) rest e = let less : bytes ≡ bytes ++ rest = cc in none_left bytes rest less

pub next_last : (bytes rest l : Line) → IsNextLine (Some bytes) (Some rest) l Input → AreLines bytes (l ∷ []) × (rest ≡ [])
next_last bytes rest l h = ((h.0, inr (h.3, h.1, refl)), none_left l rest (sym h.3 ∙ h.2))

pub next_none : (bytes rest l : Line) → IsNextLine (Some bytes) (Some rest) l NoLine → AreLines bytes [] × (rest ≡ [])
next_none bytes rest l h = (h.0, sym h.1 ∙ h.0)

-- ---- a prefix that is written

pub prefix_is : (before after bytes : Line) → AppendsPrefix (Some before) (Some after) bytes ↔ ((front rest : Line) × (bytes ≡ front ++ rest) × (after ≡ before ++ front))
prefix_is before after bytes = (
  λ h. (take h.0 bytes, drop h.0 bytes, sym (take-append-drop h.0 bytes), h.1),
  λ h. (length h.0, h.3 ∙ ap (λ (t : Line). before ++ t) (sym (ap (take (length h.0)) h.2 ∙ take-append_seam h.0 h.1))),
)
