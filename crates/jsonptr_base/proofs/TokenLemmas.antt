-- The scan of a token's text: what is known at an offset before which there is no invalid byte.
use Rattle.std.specs.List.{All}
use Rattle.std.proofs.Common.{◌≡◌, ◌≢◌, ℕ, ◌+◌, ◌-◌, ◌<◌, ◌≤◌, ◌⊎◌, Bool, true, length, get_or, refl, sym, ◌∙◌, ap, subst, inl, inr, ⊎_elim, arith, below_more, [], ◌++◌, drop, take, append-nil, append_assoc, length-append, drop-cons, add-one, ◌∷◌}
use Rattle.std.proofs.lemmas.Bool.{cases_lt, cases_eq, eqb-true}
use Rattle.std.specs.Str.{bytes_eq}
use Rattle.std.specs.Cmp.Lexicographic.{slice_cmp}
use Rattle.std.specs.Ordering.{nat_cmp}
use Rattle.std.specs.declared.cmp.Ordering.TheVariants.{Less}
use Rattle.std.proofs.lemmas.List.{at_drop_all, take-append-drop, length-take-le, get_or-take, get_or-drop, length-drop}
use Rattle.std.proofs.lemmas.Slice.Eq.{bytes_eq-Decides}
use Rattle.memchr.specs.Find.{Nowhere, Passes, is_byte, is_byte2}
use Rattle.jsonptr_grammar.specs.Text.{Text, esc, escape_of, unesc}
use Rattle.jsonptr_grammar.proofs.EscapeLemmas.{IsToken-plain_at, by_byte, esc-append, esc-cons, esc-plain_at, unesc-plain_at, unesc-esc, esc_one}
use Rattle.jsonptr_grammar.specs.Grammar.{IsToken}
use Rattle.jsonptr_grammar.specs.FirstFault.{IsFirst, IsSlashAt, EndsEscape, IsLooseTilde}
use Rattle.jsonptr_grammar.proofs.FaultLemmas.{token_or_fault}
use Rattle.jsonptr_grammar.proofs.OrderLemmas.{front_less}
use Rattle.jsonptr_grammar.proofs.ScanLemmas.{past_end}
use Rattle.jsonptr_base.specs.Private.{IsPlainBefore, IsInvalidAt, IsValidBefore, HasInvalidBefore}
use Rattle.jsonptr_base.specs.Token.{IsEncodingErrorOf}
use Rattle.jsonptr_base.specs.declared.token.InvalidEncoding.TheVariants.{Tilde, Slash}

-- ---- invalid bytes and faults

-- a tilde before an offset that ends no escape is loose
loose_before : (s : Text) (o : ℕ) → EndsEscape s o → IsLooseTilde s (o - 1)
loose_before s o e =
    let next : o - 1 + 1 ≡ o = omega (arith, e.inside) in
    record {
      here = e.after_tilde;
      no_zero = λ is. e.no_zero (subst (λ (k : ℕ). get_or s k 0 ≡ 48) next is);
      no_one = λ is. e.no_one (subst (λ (k : ℕ). get_or s k 0 ≡ 49) next is);
    }

-- a text with no invalid byte is a token
pub valid-IsToken : (s : Text) → ((k : ℕ) → IsInvalidAt s k → ⊥) → IsToken s
valid-IsToken s none =
    ⊎_elim (λ token. token)
    (λ fault. absurd (⊎_elim (λ slash. none fault.0 (inl slash)) (λ (e : EndsEscape s fault.0). none (fault.0 - 1) (inr (loose_before s fault.0 e))) fault.1.here))
    (token_or_fault s)

byte_inside : (s : Text) (i c : ℕ) → get_or s i 0 ≡ c → 0 < c → i < length s
byte_inside s i c is some = ⊎_elim (λ below. below) (λ over. let e = past_end s i c over is in absurd (omega (arith, e, some))) (cases_lt i (length s))

pub invalid_inside : (s : Text) (i : ℕ) → IsInvalidAt s i → i < length s
invalid_inside s i f = ⊎_elim (λ slash. byte_inside s i 47 slash (omega arith)) (λ (loose : IsLooseTilde s i). byte_inside s i 126 loose.here (omega arith)) f

-- past the end there is no invalid byte
pub valid_end : (s : Text) (i : ℕ) → IsValidBefore s i → length s ≤ i → (k : ℕ) → IsInvalidAt s k → ⊥
valid_end s i before end k f = before k (omega (arith, end, invalid_inside s k f)) f

-- nor is there one if the last byte is neither `/` nor `~`
pub valid_last : (s : Text) (i last : ℕ) → IsValidBefore s i → last ≤ i → length s ≤ last + 1 → get_or s last 0 ≢ 47 → get_or s last 0 ≢ 126 → (k : ℕ) → IsInvalidAt s k → ⊥
valid_last s i last before low end slash tilde k f =
    ⊎_elim
    (λ (same : k ≡ last). ⊎_elim (λ is. slash (subst (IsSlashAt s) same is)) (λ loose. let at : IsLooseTilde s last = subst (IsLooseTilde s) same loose in tilde at.here) f)
    (λ other. before k (omega (arith, other, low, end, invalid_inside s k f)) f)
    (cases_eq k last)

-- the error of the first invalid byte
module _ (s : Text) (i : ℕ) (h : IsFirst (IsInvalidAt s) i) where
  no_fault_before : (k : ℕ) → k < i → IsSlashAt s k ⊎ EndsEscape s k → ⊥
  no_fault_before k below f =
      ⊎_elim (λ slash. h.before k below (inl slash)) (λ (e : EndsEscape s k). h.before (k - 1) (omega (arith, below, e.inside)) (inr (loose_before s k e))) f

  pub slash_error : get_or s i 0 ≡ 47 → IsEncodingErrorOf s record { offset = i; source = Slash }
  slash_error slash = record { place = record { here = inl slash; before = no_fault_before }; cause = slash }

  module _ (other : get_or s i 0 ≢ 47) where
    loose : IsLooseTilde s i
    loose = ⊎_elim (λ slash. absurd (other slash)) (λ loose. loose) h.here

    no_fault_here : (k : ℕ) → k < i + 1 → IsSlashAt s k ⊎ EndsEscape s k → ⊥
    no_fault_here =
        below_more (λ k. IsSlashAt s k ⊎ EndsEscape s k → ⊥) i no_fault_before
        (λ f. ⊎_elim other (λ (e : EndsEscape s i). h.before (i - 1) (omega (arith, e.inside)) (inr (loose_before s i e))) f)

    pub next_slash_error : get_or s (i + 1) 0 ≡ 47 → IsEncodingErrorOf s record { offset = i + 1; source = Slash }
    next_slash_error slash = record { place = record { here = inl slash; before = no_fault_here }; cause = slash }

    pub tilde_error : get_or s (i + 1) 0 ≢ 47 → IsEncodingErrorOf s record { offset = i + 1; source = Tilde }
    tilde_error no_slash =
        let here : get_or s (i + 1 - 1) 0 ≡ 126 = ap (λ (k : ℕ). get_or s k 0) (omega arith) ∙ loose.here in
        let ends : EndsEscape s (i + 1) = record { inside = omega arith; after_tilde = here; no_zero = loose.no_zero; no_one = loose.no_one; no_slash = no_slash } in
        record { place = record { here = inr ends; before = no_fault_here }; cause = ends }

-- ---- blocks with no invalid byte

pub plain_valid : (s : Text) (i : ℕ) → IsPlainBefore s i → IsValidBefore s i
plain_valid s i plain k below f = ⊎_elim (λ slash. (plain k below).1 slash) (λ (loose : IsLooseTilde s k). (plain k below).0 loose.here) f

-- m bytes from i on
module _ (s : Text) (i m : ℕ) where
  abbrev block : Text
  block = take m (drop i s)

  in_block : (j k : ℕ) → j < m → i + j ≡ k → get_or block j 0 ≡ get_or s k 0
  in_block j k below e = get_or-take m (drop i s) j 0 below ∙ get_or-drop i s j 0 ∙ ap (λ (x : ℕ). get_or s x 0) e

  invalid_in_block : (j k : ℕ) → j + 1 < m → i + j ≡ k → IsInvalidAt s k → IsInvalidAt block j
  invalid_in_block j k below e f =
      let here = in_block j k (omega arith) e in
      let next = in_block (j + 1) (k + 1) (omega arith) (omega arith) in
      ⊎_elim
      (λ slash. inl (here ∙ slash))
      (λ (loose : IsLooseTilde s k). inr record {
        here = here ∙ loose.here;
        no_zero = λ is. loose.no_zero (sym next ∙ is);
        no_one = λ is. loose.no_one (sym next ∙ is);
      })
      f

  -- if they have no invalid byte before their last, the text has none before that offset
  pub valid_block : (n : ℕ) → IsValidBefore s i → (HasInvalidBefore block (length block - 1) → ⊥) → m ≡ n + 1 → i + n < length s → IsValidBefore s (i + n)
  valid_block n before none more inside k below f =
      let whole : length block ≡ m = let left = length-drop i s in length-take-le m (drop i s) (omega arith) in
      ⊎_elim (λ early. before k early f) (λ late. none (k - i, omega (arith, whole), invalid_in_block (k - i) k (omega arith) (omega arith) f)) (cases_lt k i)

-- ---- what the search for `~` and `/` finds

is_other : (x : ℕ) → (is_byte2 126 47 x ≡ true → ⊥) → (x ≢ 126) × (x ≢ 47)
is_other x other = (λ is. other (rw is refl), λ is. other (rw is refl))

pub plain_before : (s : Text) (i j : ℕ) → Nowhere (Passes (is_byte2 126 47) s) i j → (k : ℕ) → i ≤ k → k < j → (get_or s k 0 ≢ 126) × (get_or s k 0 ≢ 47)
plain_before s i j none k low high = is_other (get_or s k 0) (none k low high)

pub IsToken-nowhere : (s : Text) → Nowhere (Passes (is_byte2 126 47) s) 0 (length s) → IsToken s
IsToken-nowhere s none =
    IsToken-plain_at s (λ k below. (plain_before s 0 (length s) none k (omega arith) below).0) (λ k below. (plain_before s 0 (length s) none k (omega arith) below).1)

-- a text with neither is its own encoded text and its own decoded text
pub plain_text : (s : Text) → Nowhere (Passes (is_byte2 126 47) s) 0 (length s) → (esc s ≡ s) × (unesc s ≡ s)
plain_text s none =
    let tilde = λ (k : ℕ) (below : k < length s). (plain_before s 0 (length s) none k (omega arith) below).0 in
    (esc-plain_at s tilde (λ k below. (plain_before s 0 (length s) none k (omega arith) below).1), unesc-plain_at s tilde)

-- a text without `~` is its own decoded text
pub decoded_plain : (t : Text) → Nowhere (Passes (is_byte 126) (esc t)) 0 (length (esc t)) → esc t ≡ t
decoded_plain t none =
    sym (unesc-plain_at (esc t) (λ k below is. none k (omega arith) below (rw is refl))) ∙ unesc-esc t

-- and a `~` found is one
pub found_tilde : (s : Text) (k : ℕ) → k < length s → Passes (is_byte 126) s k → All (λ b. b ≢ 126) s → ⊥
found_tilde s k below is none = none k 0 below (eqb-true _ _ is)

-- ---- what has been unescaped at the end

pub unescaped_whole : (items s : Text) (i : ℕ) → length s ≤ i → items ++ unesc (drop i s) ≡ unesc s → items ≡ unesc s
unescaped_whole items s i over e = sym (append-nil items) ∙ ap (λ (l : Text). items ++ l) (sym (at_drop_all unesc s i over)) ∙ e

-- ---- what is escaped

-- what is left to escape of s begins with the escape of the next byte
esc-drop : (s : Text) (i : ℕ) → i < length s → esc (drop i s) ≡ escape_of (get_or s i 0) ++ esc (drop (i + 1) s)
esc-drop s i below = ap esc (drop-cons s i 0 below) ∙ ap (λ (k : ℕ). escape_of (get_or s i 0) ++ esc (drop k s)) (sym (add-one i))

-- items and then the escape of what s has from i on are the whole, and there is room for it
pub record Escaped (whole items : Text) (len cap : ℕ) (s : Text) (i : ℕ) : Type 0 where
  pub so_far : items ++ esc (drop i s) ≡ whole
  pub room : len + length (esc (drop i s)) ≤ cap

module _ (whole items : Text) (len cap : ℕ) (s : Text) (i : ℕ) (h : Escaped whole items len cap s i) where
  pub escaped_whole : length s ≤ i → items ≡ whole
  escaped_whole over =
      let nothing : esc (drop i s) ≡ [] = at_drop_all esc s i over in
      sym (append-nil items) ∙ ap (λ (l : Text). items ++ l) (sym nothing) ∙ h.so_far

  module _ (below : i < length s) where
    rest : length (esc (drop i s)) ≡ length (escape_of (get_or s i 0)) + length (esc (drop (i + 1) s))
    rest = ap length (esc-drop s i below) ∙ length-append (escape_of (get_or s i 0)) (esc (drop (i + 1) s))

    -- there is room for the next byte's escape
    pub escaped_room : len + length (escape_of (get_or s i 0)) ≤ cap
    escaped_room = omega (arith, rest, h.room)

    pub escaped_more : Escaped whole (items ++ escape_of (get_or s i 0)) (len + length (escape_of (get_or s i 0))) cap s (i + 1)
    escaped_more = record {
      so_far = append_assoc items (escape_of (get_or s i 0)) (esc (drop (i + 1) s)) ∙ ap (λ (x : Text). items ++ x) (sym (esc-drop s i below)) ∙ h.so_far;
      room = omega (arith, rest, h.room);
    }

plain_take : (s : Text) (i : ℕ) → i ≤ length s → IsPlainBefore s i → (k : ℕ) → k < length (take i s) → (get_or (take i s) k 0 ≢ 126) × (get_or (take i s) k 0 ≢ 47)
plain_take s i inside plain k below =
    let high : k < i = omega (arith, length-take-le i s inside) in
    subst (λ (b : ℕ). (b ≢ 126) × (b ≢ 47)) (sym (get_or-take i s k 0 high)) (plain k high)

-- a text with nothing to escape before i is escaped by escaping the rest
esc-plain_front : (s : Text) (i : ℕ) → i ≤ length s → IsPlainBefore s i → take i s ++ esc (drop i s) ≡ esc s
esc-plain_front s i inside plain =
    let here = λ (k : ℕ) (below : k < length (take i s)). plain_take s i inside plain k below in
    ap (λ (x : Text). x ++ esc (drop i s)) (sym (esc-plain_at (take i s) (λ k below. (here k below).0) (λ k below. (here k below).1)))
    ∙ sym (esc-append (take i s) (drop i s)) ∙ ap esc (take-append-drop i s)

pub escaped_start : (s bytes front rest : Text) (len cap i : ℕ) → bytes ≡ s → i ≤ length s → IsPlainBefore s i → front ≡ take i bytes → rest ≡ drop i bytes → len + length (esc rest) ≤ cap → Escaped (esc s) front len cap rest 0
escaped_start s bytes front rest len cap i same inside plain f r room = record { so_far = rw (f, r, same) (esc-plain_front s i inside plain); room = room }

-- ---- equal texts

-- comparing two encoded texts decides whether the decoded texts are equal
pub equal_esc : (s t : Text) (r : Bool) → r ≡ bytes_eq (esc s) (esc t) → (r ≡ true → s ≡ t) × (s ≡ t → r ≡ true)
equal_esc s t r e =
    let d = bytes_eq-Decides (esc s) (esc t) in
    (λ yes. esc_one s t (d.0 (sym e ∙ yes)), λ same. e ∙ d.1 (ap esc same))

-- ---- the order of tokens

-- the encoded text of a token is less than that of one that goes on after it
pub front_esc_less : (s rest : Text) (b : ℕ) → slice_cmp nat_cmp (esc s) (esc (s ++ b ∷ rest)) ≡ Less
front_esc_less s rest b =
    rw (esc-append s (b ∷ rest))
    (by_byte (λ c. slice_cmp nat_cmp (esc s) (esc s ++ esc (c ∷ rest)) ≡ Less) b (front_less (esc s) 126 (48 ∷ esc rest)) (front_less (esc s) 126 (49 ∷ esc rest)) (λ tilde slash. rw (esc-cons b rest tilde slash) (front_less (esc s) b (esc rest))))
