-- A text has one error, or is the fragment of one pointer.
use Rattle.std.proofs.Common.{◌≡◌, ◌≢◌, ℕ, ◌+◌, ◌<◌, ◌≤◌, List, [], ◌∷◌, ◌++◌, length, refl, sym, ap, ◌∙◌, subst, ⊎_elim, append-nil, length-append, arith, true≢false}
use Rattle.std.specs.Str.{IsUtf8, IsValidUpTo}
use Rattle.std.proofs.lemmas.Bool.{cases_lt}
use Rattle.std.proofs.Math.Seq.{take-length}
use Rattle.jsonptr.specs.Text.{Text, text, tokens_of}
use Rattle.jsonptr.specs.Types.ParseError.{ParseError}
use Rattle.jsonptr.specs.ParseError.{IsParseErrorOf, pointer_offset_of, source_offset_of}
use Rattle.jsonptr_grammar.proofs.PointerLemmas.{tokens_of-text, IsPointer-text}
use Rattle.jsonptr_syntax.proofs.FaultLaws.{fault_one}
use Rattle.jsonptr_syntax.proofs.TildeFault.{fault_no_pointer}
use Rattle.jsonptr_fragment.specs.Fragment.{is_fragment_byte, Encodes, nothing, itself, escape, IsFragmentOf}
use Rattle.jsonptr_fragment.specs.FragmentError.{Reaches, StartsBadByte, StartsBadEscape, IsFragmentErrorOf}
use Rattle.jsonptr_fragment.specs.declared.error.FragmentError.{FragmentError}
use Rattle.jsonptr_fragment.specs.declared.error.FragmentError.TheVariants.{NoHash, BadByte, BadEscape, NotUtf8, NotPointer}
use Rattle.jsonptr_fragment.proofs.EncodingLemmas.{Extends, compare, encodes_append, encodes_none, one_bytes}

one_text : (ts us : List Text) → text ts ≡ text us → ts ≡ us
one_text ts us e = sym (tokens_of-text ts) ∙ ap tokens_of e ∙ tokens_of-text us

same_rest : (s r q : Text) → s ≡ 35 ∷ r → s ≡ 35 ∷ q → r ≡ q
same_rest s r q e f = cc

pub one_pointer : (s : Text) (ts us : List Text) → IsFragmentOf s ts → IsFragmentOf s us → ts ≡ us
one_pointer s ts us p q =
    one_text ts us (one_bytes p.2 (subst (λ (r : Text). Encodes r (text us)) (same_rest s q.0 p.0 q.1 p.1) q.2))

-- ---- a byte that is not of a fragment

-- `x` begins with nothing that encodes a byte, and is not empty
pub record IsStuck (x : Text) : Type 0 where
  pub some : x ≢ []
  pub none : (h ds y : Text) → Encodes h ds → x ≡ h ++ y → h ≡ []

nil_no_cons : (x : Text) (b : ℕ) (rest : Text) → x ≡ b ∷ rest → x ≢ []
nil_no_cons x b rest is e = let none : ⊥ = cc in none

first_same : (x : Text) (b c : ℕ) (s t : Text) → x ≡ b ∷ s → x ≡ c ∷ t → b ≡ c
first_same x b c s t e f = cc

later_same : (x : Text) (b c : ℕ) (s t : Text) → x ≡ b ∷ s → x ≡ c ∷ t → s ≡ t
later_same x b c s t e f = cc

pub byte_stuck : (x : Text) → StartsBadByte x → IsStuck x
byte_stuck x (b, rest, is, other, no_percent) = record { some = nil_no_cons x b rest is; none = none }
  where
    none : (h ds y : Text) → Encodes h ds → x ≡ h ++ y → h ≡ []
    none h ds y nothing e = refl
    none h ds y (itself {s = t} c kept p) e = absurd (true≢false (sym kept ∙ sym (ap is_fragment_byte (first_same x b c rest (t ++ y) is e)) ∙ other))
    none h ds y (escape {s = t} i m high low p) e = absurd (no_percent (first_same x b 37 rest (i ∷ m ∷ t ++ y) is e))

pub escape_stuck : (x : Text) → StartsBadEscape x → IsStuck x
escape_stuck x (rest, is, lacks) = record { some = nil_no_cons x 37 rest is; none = none }
  where
    none : (h ds y : Text) → Encodes h ds → x ≡ h ++ y → h ≡ []
    none h ds y nothing e = refl
    none h ds y (itself {s = t} c kept p) e = absurd (true≢false (sym kept ∙ sym (ap is_fragment_byte (first_same x 37 c rest (t ++ y) is e))))
    none h ds y (escape {s = t} i m high low p) e = absurd (lacks i m (t ++ y) (later_same x 37 37 rest (i ∷ m ∷ t ++ y) is e) high low)

-- ---- where a text is stuck, and what it encodes

module _ (f bs x g cs y : Text) (r : Extends f bs x g cs y) where
  if_none : r.more ≡ [] → (f ≡ g) × (x ≡ y)
  if_none none = (sym (r.text_is ∙ ap (λ (t : Text). f ++ t) none ∙ append-nil f), r.left ∙ ap (λ (t : Text). t ++ y) none)

  if_stuck : IsStuck x → (f ≡ g) × (x ≡ y)
  if_stuck stuck = if_none (stuck.none r.more r.bytes y r.encodes r.left)

  no_bytes : length bs ≡ length cs → r.bytes ≡ []
  no_bytes same = empty r.bytes (omega (arith, same, ap (λ (t : Text). length t) r.bytes_are, length-append bs r.bytes))
    where
      empty : (t : Text) → length t ≡ 0 → t ≡ []
      empty [] e = refl
      empty (b ∷ t) e = absurd (omega (arith, e))

  if_as_long : length bs ≡ length cs → (f ≡ g) × (x ≡ y)
  if_as_long same = if_none (encodes_none r.encodes (no_bytes same))

swap : {A B : Text} {C D : Text} → (A ≡ B) × (C ≡ D) → (B ≡ A) × (D ≡ C)
swap r = (sym r.0, sym r.1)

module _ (f bs g cs x y : Text) (p : Encodes f bs) (q : Encodes g cs) (e : f ++ x ≡ g ++ y) where
  stuck_same : IsStuck x → IsStuck y → (f ≡ g) × (x ≡ y)
  stuck_same left right = ⊎_elim
      (λ (r : Extends f bs x g cs y). if_stuck f bs x g cs y r left)
      (λ (r : Extends g cs y f bs x). swap (if_stuck g cs y f bs x r right))
      (compare x y p q e)

  long_same : length bs ≡ length cs → (f ≡ g) × (x ≡ y)
  long_same same = ⊎_elim
      (λ (r : Extends f bs x g cs y). if_as_long f bs x g cs y r same)
      (λ (r : Extends g cs y f bs x). swap (if_as_long g cs y f bs x r (sym same)))
      (compare x y p q e)

-- a text that is stuck encodes nothing
stuck_whole : (f bs x g cs : Text) → Encodes f bs → Encodes g cs → f ++ x ≡ g → IsStuck x → ⊥
stuck_whole f bs x g cs p q e stuck = ⊎_elim
    (λ (r : Extends f bs x g cs []). stuck.some ((if_stuck f bs x g cs [] r stuck).1))
    (λ (r : Extends g cs [] f bs x). stuck.some (empty_tail r.more x (sym r.left)))
    (compare x [] p q (e ∙ sym (append-nil g)))
  where
    empty_tail : (h t : Text) → h ++ t ≡ [] → t ≡ []
    empty_tail [] t e = e
    empty_tail (b ∷ h) t e = let none : ⊥ = cc in absurd none

-- ---- where a text leaves UTF-8

one_front : (bs : Text) (n m : ℕ) → IsValidUpTo bs n → IsValidUpTo bs m → n ≡ m
one_front bs n m p q = ⊎_elim
    (λ (h : n < m). absurd (p.longest m h q.front))
    (λ (h : m ≤ n). ⊎_elim (λ (g : m < n). absurd (q.longest n g p.front)) (λ (g : n ≤ m). omega (arith, h, g)) (cases_lt m n))
    (cases_lt n m)

not_whole : (bs : Text) (n : ℕ) → IsValidUpTo bs n → IsUtf8 bs → ⊥
not_whole bs n p utf8 = p.longest (length bs) p.short (subst (λ (t : Text). IsUtf8 t) (sym (take-length bs)) utf8)

-- ---- two errors

module _ (s : Text) where
  -- what reaches one byte
  record Stops (offset : ℕ) : Type 0 where
    bs : Text
    back : Text
    reaches : Reaches s bs offset back
    stuck : IsStuck back

  -- what encodes bytes as a whole, and the byte at one offset
  record Whole (offset : ℕ) (bytes : Text) : Type 0 where
    bs : Text
    cs : Text
    back : Text
    reaches : Reaches s bs offset back
    encodes : Encodes back cs
    all : bytes ≡ bs ++ cs

  one_stop : (i j : ℕ) (p : Stops i) (q : Stops j) → (i ≡ j) × (p.back ≡ q.back)
  one_stop i j p q =
      let same = stuck_same p.reaches.0 p.bs q.reaches.0 q.bs p.back q.back p.reaches.2 q.reaches.2 (same_rest s (p.reaches.0 ++ p.back) (q.reaches.0 ++ q.back) p.reaches.1 q.reaches.1) p.stuck q.stuck in
      (p.reaches.3 ∙ ap (λ (t : Text). length t + 1) same.0 ∙ sym q.reaches.3, same.1)

  whole_encodes : (i : ℕ) (bytes : Text) (p : Whole i bytes) → Encodes (p.reaches.0 ++ p.back) bytes
  whole_encodes i bytes p = subst (λ (t : Text). Encodes (p.reaches.0 ++ p.back) t) (sym p.all) (encodes_append p.reaches.2 p.encodes)

  stop_rest : (i : ℕ) → Stops i → (r bytes : Text) → s ≡ 35 ∷ r → Encodes r bytes → ⊥
  stop_rest i p r bytes is q = stuck_whole p.reaches.0 p.bs p.back r bytes p.reaches.2 q (same_rest s (p.reaches.0 ++ p.back) r p.reaches.1 is) p.stuck

  stop_whole : (i j : ℕ) (bytes : Text) → Stops i → Whole j bytes → ⊥
  stop_whole i j bytes p q = stop_rest i p (q.reaches.0 ++ q.back) bytes q.reaches.1 (whole_encodes j bytes q)

  whole_rest : (i : ℕ) (bytes : Text) → Whole i bytes → (r ds : Text) → s ≡ 35 ∷ r → Encodes r ds → bytes ≡ ds
  whole_rest i bytes p r ds is q =
      one_bytes (whole_encodes i bytes p) (subst (λ (t : Text). Encodes t ds) (same_rest s r (p.reaches.0 ++ p.back) is p.reaches.1) q)

  one_whole : (i j : ℕ) (a b : Text) → Whole i a → Whole j b → a ≡ b
  one_whole i j a b p q = whole_rest i a p (q.reaches.0 ++ q.back) b q.reaches.1 (whole_encodes j b q)

  one_offset : (i j : ℕ) (a b : Text) (p : Whole i a) (q : Whole j b) → length p.bs ≡ length q.bs → i ≡ j
  one_offset i j a b p q same =
      let texts = long_same p.reaches.0 p.bs q.reaches.0 q.bs p.back q.back p.reaches.2 q.reaches.2 (same_rest s (p.reaches.0 ++ p.back) (q.reaches.0 ++ q.back) p.reaches.1 q.reaches.1) same in
      p.reaches.3 ∙ ap (λ (t : Text). length t + 1) texts.0 ∙ sym q.reaches.3

  byte_stops : (i : ℕ) → IsFragmentErrorOf s (BadByte i) → Stops i
  byte_stops i h = record { bs = h.0; back = h.1; reaches = h.2; stuck = byte_stuck h.1 h.3 }

  escape_stops : (i : ℕ) → IsFragmentErrorOf s (BadEscape i) → Stops i
  escape_stops i h = record { bs = h.0; back = h.1; reaches = h.2; stuck = escape_stuck h.1 h.3 }

  utf8_whole : (i : ℕ) (h : IsFragmentErrorOf s (NotUtf8 i)) → Whole i (h.0 ++ h.1)
  utf8_whole i h = record { bs = h.0; cs = h.1; back = h.2; reaches = h.3; encodes = h.4; all = refl }

  pointer_whole : (i : ℕ) (e : ParseError) (h : IsFragmentErrorOf s (NotPointer i e)) → Whole i (h.0 ++ h.1)
  pointer_whole i e h = record { bs = h.0; cs = h.1; back = h.2; reaches = h.3; encodes = h.4; all = refl }

  -- a byte that is no `%`, and a `%`
  not_both_stops : (i j : ℕ) → IsFragmentErrorOf s (BadByte i) → IsFragmentErrorOf s (BadEscape j) → ⊥
  unfolding escape_stops byte_stops
  not_both_stops i j h g =
      let same = (one_stop i j (byte_stops i h) (escape_stops j g)).1 in
      h.3.4 (first_same h.1 h.3.0 37 h.3.1 g.3.0 h.3.2 (same ∙ g.3.1))

  not_both_wholes : (i j : ℕ) (d : ParseError) → IsFragmentErrorOf s (NotUtf8 i) → IsFragmentErrorOf s (NotPointer j d) → ⊥
  not_both_wholes i j d h g =
      let same = one_whole i j (h.0 ++ h.1) (g.0 ++ g.1) (utf8_whole i h) (pointer_whole j d g) in
      not_whole (h.0 ++ h.1) (length h.0) h.5 (subst (λ (t : Text). IsUtf8 t) (sym same) g.5)

  one_utf8 : (i j : ℕ) → IsFragmentErrorOf s (NotUtf8 i) → IsFragmentErrorOf s (NotUtf8 j) → i ≡ j
  unfolding utf8_whole
  one_utf8 i j h g =
      let same = one_whole i j (h.0 ++ h.1) (g.0 ++ g.1) (utf8_whole i h) (utf8_whole j g) in
      one_offset i j (h.0 ++ h.1) (g.0 ++ g.1) (utf8_whole i h) (utf8_whole j g)
      (one_front (g.0 ++ g.1) (length h.0) (length g.0) (subst (λ (t : Text). IsValidUpTo t (length h.0)) same h.5) g.5)

  one_cause : (i j : ℕ) (d e : ParseError) → IsFragmentErrorOf s (NotPointer i d) → IsFragmentErrorOf s (NotPointer j e) → NotPointer i d ≡ NotPointer j e
  unfolding pointer_whole
  one_cause i j d e h g =
      let same = one_whole i j (h.0 ++ h.1) (g.0 ++ g.1) (pointer_whole i d h) (pointer_whole j e g) in
      let cause : d ≡ e = fault_one (g.0 ++ g.1) d e (subst (λ (t : Text). IsParseErrorOf t d) same h.6) g.6 in
      let offset : i ≡ j = one_offset i j (h.0 ++ h.1) (g.0 ++ g.1) (pointer_whole i d h) (pointer_whole j e g)
      (h.7 ∙ ap (λ (c : ParseError). pointer_offset_of c + source_offset_of c) cause ∙ sym g.7) in
      ap (λ (k : ℕ). NotPointer k d) offset ∙ ap (λ (c : ParseError). NotPointer j c) cause

  pub one_error : (e f : FragmentError) → IsFragmentErrorOf s e → IsFragmentErrorOf s f → e ≡ f
  one_error NoHash NoHash h g = refl
  one_error NoHash (BadByte j) h g = absurd (h (g.2.0 ++ g.1) g.2.1)
  one_error NoHash (BadEscape j) h g = absurd (h (g.2.0 ++ g.1) g.2.1)
  one_error NoHash (NotUtf8 j) h g = absurd (h (g.3.0 ++ g.2) g.3.1)
  one_error NoHash (NotPointer j d) h g = absurd (h (g.3.0 ++ g.2) g.3.1)
  one_error (BadByte i) NoHash h g = absurd (g (h.2.0 ++ h.1) h.2.1)
  one_error (BadByte i) (BadByte j) h g = ap BadByte (one_stop i j (byte_stops i h) (byte_stops j g)).0
  one_error (BadByte i) (BadEscape j) h g = absurd (not_both_stops i j h g)
  one_error (BadByte i) (NotUtf8 j) h g = absurd (stop_whole i j (g.0 ++ g.1) (byte_stops i h) (utf8_whole j g))
  one_error (BadByte i) (NotPointer j d) h g = absurd (stop_whole i j (g.0 ++ g.1) (byte_stops i h) (pointer_whole j d g))
  one_error (BadEscape i) NoHash h g = absurd (g (h.2.0 ++ h.1) h.2.1)
  one_error (BadEscape i) (BadByte j) h g = absurd (not_both_stops j i g h)
  one_error (BadEscape i) (BadEscape j) h g = ap BadEscape (one_stop i j (escape_stops i h) (escape_stops j g)).0
  one_error (BadEscape i) (NotUtf8 j) h g = absurd (stop_whole i j (g.0 ++ g.1) (escape_stops i h) (utf8_whole j g))
  one_error (BadEscape i) (NotPointer j d) h g = absurd (stop_whole i j (g.0 ++ g.1) (escape_stops i h) (pointer_whole j d g))
  one_error (NotUtf8 i) NoHash h g = absurd (g (h.3.0 ++ h.2) h.3.1)
  one_error (NotUtf8 i) (BadByte j) h g = absurd (stop_whole j i (h.0 ++ h.1) (byte_stops j g) (utf8_whole i h))
  one_error (NotUtf8 i) (BadEscape j) h g = absurd (stop_whole j i (h.0 ++ h.1) (escape_stops j g) (utf8_whole i h))
  one_error (NotUtf8 i) (NotUtf8 j) h g = ap NotUtf8 (one_utf8 i j h g)
  one_error (NotUtf8 i) (NotPointer j d) h g = absurd (not_both_wholes i j d h g)
  one_error (NotPointer i c) NoHash h g = absurd (g (h.3.0 ++ h.2) h.3.1)
  one_error (NotPointer i c) (BadByte j) h g = absurd (stop_whole j i (h.0 ++ h.1) (byte_stops j g) (pointer_whole i c h))
  one_error (NotPointer i c) (BadEscape j) h g = absurd (stop_whole j i (h.0 ++ h.1) (escape_stops j g) (pointer_whole i c h))
  one_error (NotPointer i c) (NotUtf8 j) h g = absurd (not_both_wholes j i c g h)
  one_error (NotPointer i c) (NotPointer j d) h g = one_cause i j c d h g

  pub not_both : (ts : List Text) (e : FragmentError) → IsFragmentOf s ts → IsFragmentErrorOf s e → ⊥
  not_both ts NoHash p h = h p.0 p.1
  not_both ts (BadByte i) p h = stop_rest i (byte_stops i h) p.0 (text ts) p.1 p.2
  not_both ts (BadEscape i) p h = stop_rest i (escape_stops i h) p.0 (text ts) p.1 p.2
  not_both ts (NotUtf8 i) p h =
      let same = whole_rest i (h.0 ++ h.1) (utf8_whole i h) p.0 (text ts) p.1 p.2 in
      not_whole (h.0 ++ h.1) (length h.0) h.5 (subst (λ (t : Text). IsUtf8 t) (sym same) p.3)
  not_both ts (NotPointer i c) p h =
      let same = whole_rest i (h.0 ++ h.1) (pointer_whole i c h) p.0 (text ts) p.1 p.2 in
      fault_no_pointer (text ts) c (subst (λ (t : Text). IsParseErrorOf t c) same h.6) (IsPointer-text ts)
