-- Each text is in the grammar or leaves it at one offset.
use Rattle.std.proofs.Common.{◌≡◌, ℕ, suc, zero, ◌+◌, ◌-◌, ◌<◌, ◌≤◌, ◌≢◌, ◌⊎◌, ◌↔◌, List, [], ◌∷◌, ◌++◌, length, take, All, slice_index, encode_utf8_all, add-one, zero-add, suc-add, arith, refl, sym, ap, ap₂, ◌∙◌, subst, inl, inr, ⊎_elim}
use Rattle.std.proofs.lemmas.Bool.{cases_eq, cases_lt, cases_order}
use Rattle.std.proofs.lemmas.List.Elements.{All-head, All-tail, All-from_get_or}
use Rattle.std.proofs.lemmas.List.{get_or_past, get_or-take, length-take-le, take_more, append_assoc, length-append}
use Rattle.std.proofs.lemmas.Str.{char_from_byte, encode_ascii, length-encode, len_utf8_bounds}
use lib.Utf8.{encode}
use Rattle.jsonptr_grammar.proofs.EscapeLemmas.{IsToken-append}
use Rattle.jsonptr_grammar.proofs.PointerLemmas.{BeginsSegment, BeginsSegment-IsPointer, IsPointer-bytes}
use Rattle.jsonptr_grammar.specs.Text.{Text}
use Rattle.jsonptr_grammar.specs.Grammar.{IsToken, end, plain, tilde, slash, IsPointer, root, segment}
use Rattle.jsonptr_grammar.specs.FirstFault.{IsFirst, IsSlashAt, EndsEscape, IsTokenFault, IsLooseTilde, IsLastSlash, LacksSlash, IsTildeFault}

-- at k is a slash, or an escape ends too soon
abbrev pub IsFaultAt : Text → ℕ → Type 0
IsFaultAt s k = IsSlashAt s k ⊎ EndsEscape s k

-- the first offset at which something holds is unique
pub IsFirst_one : (P : ℕ → Type 0) (i j : ℕ) → IsFirst P i → IsFirst P j → i ≡ j
IsFirst_one P i j p q = ⊎_elim (λ e. e) (λ h. ⊎_elim (λ l. absurd (q.before i l p.here)) (λ l. absurd (p.before j l q.here)) h) (cases_order i j)

-- a text has one token fault at most
pub IsTokenFault_one : (s : Text) (o u : ℕ) → IsTokenFault s o → IsTokenFault s u → o ≡ u
IsTokenFault_one s o u p q = IsFirst_one (IsFaultAt s) o u p q

less_one : (k : ℕ) → suc k - 1 ≡ k
less_one k = omega arith

-- the `~` before a fault, by its own offset
tilde_before : (s : Text) (k : ℕ) → EndsEscape s (suc k) → slice_index s k ≡ 126
tilde_before s k e = ap (λ (i : ℕ). slice_index s i) (sym (less_one k)) ∙ e.after_tilde

ends_escape : (s : Text) (k : ℕ) → slice_index s k ≡ 126 → slice_index s (suc k) ≢ 48 → slice_index s (suc k) ≢ 49 → slice_index s (suc k) ≢ 47 → EndsEscape s (suc k)
ends_escape s k e x y z = record { inside = omega arith; after_tilde = ap (λ (i : ℕ). slice_index s i) (less_one k) ∙ e; no_zero = x; no_one = y; no_slash = z }

-- one byte before the text moves each ended escape, except the one that begins with it
EndsEscape-tail : (b : ℕ) (s : Text) (k : ℕ) → EndsEscape (b ∷ s) (suc (suc k)) → EndsEscape s (suc k)
EndsEscape-tail b s k e = ends_escape s k (tilde_before (b ∷ s) (suc k) e) e.no_zero e.no_one e.no_slash

EndsEscape-cons : (b : ℕ) (s : Text) (k : ℕ) → EndsEscape s (suc k) → EndsEscape (b ∷ s) (suc (suc k))
EndsEscape-cons b s k e = ends_escape (b ∷ s) (suc k) (tilde_before s k e) e.no_zero e.no_one e.no_slash

-- the faults after a byte that is not `~` are those of the rest
IsFaultAt-tail : (b : ℕ) (s : Text) (k : ℕ) → b ≢ 126 → IsFaultAt (b ∷ s) (suc k) → IsFaultAt s k
IsFaultAt-tail b s zero n (inl e) = inl e
IsFaultAt-tail b s zero n (inr e) = absurd (n (tilde_before (b ∷ s) 0 e))
IsFaultAt-tail b s (suc k) n (inl e) = inl e
IsFaultAt-tail b s (suc k) n (inr e) = inr (EndsEscape-tail b s k e)

IsFaultAt-cons : (b : ℕ) (s : Text) (k : ℕ) → IsFaultAt s k → IsFaultAt (b ∷ s) (suc k)
IsFaultAt-cons b s zero (inl e) = inl e
IsFaultAt-cons b s zero (inr e) = absurd (omega (arith, e.inside))
IsFaultAt-cons b s (suc k) (inl e) = inl e
IsFaultAt-cons b s (suc k) (inr e) = inr (EndsEscape-cons b s k e)

-- the first byte is a fault only if it is a slash
IsFaultAt-zero : (s : Text) → slice_index s 0 ≢ 47 → IsFaultAt s 0 → ⊥
IsFaultAt-zero s n (inl e) = n e
IsFaultAt-zero s n (inr e) = omega (arith, e.inside)

-- after `~0` or `~1` the faults are those of the rest
IsFaultAt-escape : (c : ℕ) (s : Text) (k : ℕ) → c ≢ 126 → IsFaultAt (126 ∷ c ∷ s) (suc (suc k)) → IsFaultAt s k
IsFaultAt-escape c s k n (inl e) = IsFaultAt-tail c s k n (inl e)
IsFaultAt-escape c s k n (inr e) = IsFaultAt-tail c s k n (inr (EndsEscape-tail 126 (c ∷ s) k e))

-- none is within the two bytes of an escape
no_fault_within : (c : ℕ) (s : Text) → (c ≡ 48) ⊎ (c ≡ 49) → IsFaultAt (126 ∷ c ∷ s) 1 → ⊥
no_fault_within c s (inl z) (inl e) = omega (arith, z, e)
no_fault_within c s (inl z) (inr e) = e.no_zero z
no_fault_within c s (inr z) (inl e) = omega (arith, z, e)
no_fault_within c s (inr z) (inr e) = e.no_one z

-- a token has no fault
pub no_fault-IsToken : {s : Text} → IsToken s → (k : ℕ) → IsFaultAt s k → ⊥
no_fault-IsToken end zero (inl e) = absurd (omega (arith, e))
no_fault-IsToken end zero (inr e) = absurd (omega (arith, e.inside))
no_fault-IsToken end (suc k) (inl e) = absurd (omega (arith, e))
no_fault-IsToken end (suc k) (inr e) = absurd (omega (arith, tilde_before [] k e))
no_fault-IsToken (plain {b} {bs} h n r) zero e = IsFaultAt-zero (b ∷ bs) n e
no_fault-IsToken (plain {b} {bs} h n r) (suc k) e = no_fault-IsToken r k (IsFaultAt-tail b bs k h e)
no_fault-IsToken (tilde {bs} r) zero e = IsFaultAt-zero (126 ∷ 48 ∷ bs) (grind arith) e
no_fault-IsToken (tilde {bs} r) (suc zero) e = no_fault_within 48 bs (inl refl) e
no_fault-IsToken (tilde {bs} r) (suc (suc k)) e = no_fault-IsToken r k (IsFaultAt-escape 48 bs k (grind arith) e)
no_fault-IsToken (slash {bs} r) zero e = IsFaultAt-zero (126 ∷ 49 ∷ bs) (grind arith) e
no_fault-IsToken (slash {bs} r) (suc zero) e = no_fault_within 49 bs (inr refl) e
no_fault-IsToken (slash {bs} r) (suc (suc k)) e = no_fault-IsToken r k (IsFaultAt-escape 49 bs k (grind arith) e)

-- so it has no first fault
pub no_token_fault : {s : Text} → IsToken s → (o : ℕ) → IsTokenFault s o → ⊥
no_token_fault r o f = no_fault-IsToken r o f.here

-- a text is a token or has a first fault
abbrev pub TokenOrFault : Text → Type 0
TokenOrFault s = IsToken s ⊎ ((o : ℕ) × IsTokenFault s o)

fault_at_zero : (s : Text) → slice_index s 0 ≡ 47 → TokenOrFault s
fault_at_zero s e = inr (0, record { here = inl e; before = λ k l _. omega (arith, l) })

fault_at_one : (s : Text) → slice_index s 0 ≢ 47 → IsFaultAt s 1 → TokenOrFault s
fault_at_one s n f = inr (1, record { here = f; before = none })
  where
    none : (k : ℕ) → k < 1 → IsFaultAt s k → ⊥
    none zero l e = IsFaultAt-zero s n e
    none (suc k) l e = omega arith

after_plain : (b : ℕ) (s : Text) → b ≢ 126 → b ≢ 47 → TokenOrFault s → TokenOrFault (b ∷ s)
after_plain b s h n (inl r) = inl (plain h n r)
after_plain b s h n (inr (o, f)) = inr (suc o, record { here = IsFaultAt-cons b s o f.here; before = none })
  where
    none : (k : ℕ) → k < suc o → IsFaultAt (b ∷ s) k → ⊥
    none zero l e = IsFaultAt-zero (b ∷ s) n e
    none (suc k) l e = f.before k (omega arith) (IsFaultAt-tail b s k h e)

after_escape : (c : ℕ) (s : Text) → (c ≡ 48) ⊎ (c ≡ 49) → TokenOrFault s → TokenOrFault (126 ∷ c ∷ s)
after_escape c s (inl z) (inl r) = inl (subst (λ x. IsToken (126 ∷ x ∷ s)) (sym z) (tilde r))
after_escape c s (inr z) (inl r) = inl (subst (λ x. IsToken (126 ∷ x ∷ s)) (sym z) (slash r))
after_escape c s z (inr (o, f)) = inr (suc (suc o), record { here = IsFaultAt-cons 126 (c ∷ s) (suc o) (IsFaultAt-cons c s o f.here); before = none })
  where
    other : c ≢ 126
    other = ⊎_elim (λ (e : c ≡ 48). grind arith) (λ (e : c ≡ 49). grind arith) z

    none : (k : ℕ) → k < suc (suc o) → IsFaultAt (126 ∷ c ∷ s) k → ⊥
    none zero l e = IsFaultAt-zero (126 ∷ c ∷ s) (grind arith) e
    none (suc zero) l e = no_fault_within c s z e
    none (suc (suc k)) l e = f.before k (omega arith) (IsFaultAt-escape c s k other e)

after_tilde : (c : ℕ) (s : Text) → TokenOrFault s → TokenOrFault (126 ∷ c ∷ s)
after_tilde c s r = ⊎_elim (λ e. after_escape c s (inl e) r) (λ n. ⊎_elim (λ e. after_escape c s (inr e) r) (λ m. ⊎_elim (λ e. fault_at_one (126 ∷ c ∷ s) (grind arith) (inl e)) (λ w. fault_at_one (126 ∷ c ∷ s) (grind arith) (inr (record { inside = omega arith; after_tilde = refl; no_zero = n; no_one = m; no_slash = w }))) (cases_eq c 47)) (cases_eq c 49)) (cases_eq c 48)

-- each text is a token or has a fault
pub token_or_fault : (s : Text) → IsToken s ⊎ ((o : ℕ) × IsTokenFault s o)
token_or_fault [] = inl end
token_or_fault (b ∷ []) = ⊎_elim (λ (e : b ≡ 126). fault_at_one (b ∷ []) (grind arith) (inr (record { inside = omega arith; after_tilde = e; no_zero = grind arith; no_one = grind arith; no_slash = grind arith }))) (λ h. ⊎_elim (λ e. fault_at_zero (b ∷ []) e) (λ n. inl (plain h n end)) (cases_eq b 47)) (cases_eq b 126)
token_or_fault (b ∷ c ∷ s) = ⊎_elim (λ (e : b ≡ 126). subst (λ x. TokenOrFault (x ∷ c ∷ s)) (sym e) (after_tilde c s (token_or_fault s))) (λ h. ⊎_elim (λ e. fault_at_zero (b ∷ c ∷ s) e) (λ n. after_plain b (c ∷ s) h n (token_or_fault (c ∷ s))) (cases_eq b 47)) (cases_eq b 126)

-- a text without a fault is a token
pub IsToken-no_fault : (s : Text) → ((o : ℕ) → IsTokenFault s o → ⊥) → IsToken s
IsToken-no_fault s h = ⊎_elim (λ r. r) (λ (f : (o : ℕ) × IsTokenFault s o). absurd (h f.0 f.1)) (token_or_fault s)

-- a loose tilde, with what follows it by its own offset
loose : (s : Text) (i : ℕ) → slice_index s i ≡ 126 → slice_index s (suc i) ≢ 48 → slice_index s (suc i) ≢ 49 → IsLooseTilde s i
loose s i e x y = record { here = e; no_zero = rw add-one x; no_one = rw add-one y }

loose_no_zero : (s : Text) (i : ℕ) → IsLooseTilde s i → slice_index s (suc i) ≢ 48
loose_no_zero s i e = let h = e.no_zero in rw add-one at h

loose_no_one : (s : Text) (i : ℕ) → IsLooseTilde s i → slice_index s (suc i) ≢ 49
loose_no_one s i e = let h = e.no_one in rw add-one at h

-- the loose tildes after a byte are those of the rest
IsLooseTilde-tail : (b : ℕ) (s : Text) (i : ℕ) → IsLooseTilde (b ∷ s) (suc i) → IsLooseTilde s i
IsLooseTilde-tail b s i e = loose s i e.here (loose_no_zero (b ∷ s) (suc i) e) (loose_no_one (b ∷ s) (suc i) e)

IsLooseTilde-cons : (b : ℕ) (s : Text) (i : ℕ) → IsLooseTilde s i → IsLooseTilde (b ∷ s) (suc i)
IsLooseTilde-cons b s i e = loose (b ∷ s) (suc i) e.here (loose_no_zero s i e) (loose_no_one s i e)

-- a text without a loose tilde
abbrev pub NoLoose : Text → Type 0
NoLoose s = (i : ℕ) → IsLooseTilde s i → ⊥

NoLoose-nil : NoLoose []
NoLoose-nil zero e = omega (arith, e.here)
NoLoose-nil (suc i) e = omega (arith, e.here)

NoLoose-cons : (b : ℕ) (s : Text) → b ≢ 126 → NoLoose s → NoLoose (b ∷ s)
NoLoose-cons b s h n zero e = h e.here
NoLoose-cons b s h n (suc i) e = n i (IsLooseTilde-tail b s i e)

NoLoose-escape : (c : ℕ) (s : Text) → (c ≡ 48) ⊎ (c ≡ 49) → NoLoose s → NoLoose (126 ∷ c ∷ s)
NoLoose-escape c s z n zero e = ⊎_elim (loose_no_zero (126 ∷ c ∷ s) 0 e) (loose_no_one (126 ∷ c ∷ s) 0 e) z
NoLoose-escape c s z n (suc i) e = NoLoose-cons c s (⊎_elim (λ (e : c ≡ 48). grind arith) (λ (e : c ≡ 49). grind arith) z) n i (IsLooseTilde-tail 126 (c ∷ s) i e)

NoLoose-tail : (b : ℕ) (s : Text) → NoLoose (b ∷ s) → NoLoose s
NoLoose-tail b s n i e = n (suc i) (IsLooseTilde-cons b s i e)

-- a token before the text adds no loose tilde
NoLoose-token : {t : Text} (r : Text) → IsToken t → NoLoose r → NoLoose (t ++ r)
NoLoose-token r end n = n
NoLoose-token r (plain {b} {bs} h k q) n = NoLoose-cons b (bs ++ r) h (NoLoose-token r q n)
NoLoose-token r (tilde {bs} q) n = NoLoose-escape 48 (bs ++ r) (inl refl) (NoLoose-token r q n)
NoLoose-token r (slash {bs} q) n = NoLoose-escape 49 (bs ++ r) (inr refl) (NoLoose-token r q n)

-- a pointer has no loose tilde
pub NoLoose-IsPointer : {s : Text} → IsPointer s → NoLoose s
NoLoose-IsPointer root = NoLoose-nil
NoLoose-IsPointer (segment {token} {rest} t r) = NoLoose-cons 47 (token ++ rest) (grind arith) (NoLoose-token rest t (NoLoose-IsPointer r))

-- a token and a pointer in a row
pub record Cut (s : Text) : Type 0 where
  pub token : Text
  pub rest : Text
  pub split : token ++ rest ≡ s
  pub is_token : IsToken token
  pub is_pointer : IsPointer rest

cut_nil : Cut []
cut_nil = record { token = []; rest = []; split = refl; is_token = end; is_pointer = root }

cut_slash : (s : Text) → Cut s → Cut (47 ∷ s)
cut_slash s c = record { token = []; rest = 47 ∷ s; split = refl; is_token = end; is_pointer = subst (λ (x : Text). IsPointer (47 ∷ x)) c.split (segment c.is_token c.is_pointer) }

cut_plain : (b : ℕ) (s : Text) → b ≢ 126 → b ≢ 47 → Cut s → Cut (b ∷ s)
cut_plain b s h k c = record { token = b ∷ c.token; rest = c.rest; split = ap (λ (x : Text). b ∷ x) c.split; is_token = plain h k c.is_token; is_pointer = c.is_pointer }

split_escape : (d : ℕ) (s : Text) → (d ≡ 48) ⊎ (d ≡ 49) → Cut s → Cut (126 ∷ d ∷ s)
split_escape d s z c = record { token = 126 ∷ d ∷ c.token; rest = c.rest; split = ap (λ (x : Text). 126 ∷ d ∷ x) c.split; is_token = ⊎_elim (λ (e : d ≡ 48). subst (λ x. IsToken (126 ∷ x ∷ c.token)) (sym e) (tilde c.is_token)) (λ (e : d ≡ 49). subst (λ x. IsToken (126 ∷ x ∷ c.token)) (sym e) (slash c.is_token)) z; is_pointer = c.is_pointer }

cut_byte : (b : ℕ) (s : Text) → b ≢ 126 → Cut s → Cut (b ∷ s)
cut_byte b s h c = ⊎_elim (λ (e : b ≡ 47). subst (λ x. Cut (x ∷ s)) (sym e) (cut_slash s c)) (λ k. cut_plain b s h k c) (cases_eq b 47)

-- a text without a loose tilde is a token and then a pointer
pub cut_no_loose : (s : Text) → NoLoose s → Cut s
cut_no_loose [] n = cut_nil
cut_no_loose (b ∷ []) n = ⊎_elim (λ (e : b ≡ 126). absurd (n 0 (loose (b ∷ []) 0 e (grind arith) (grind arith)))) (λ h. cut_byte b [] h cut_nil) (cases_eq b 126)
cut_no_loose (b ∷ c ∷ s) n = ⊎_elim (λ (e : b ≡ 126). subst (λ x. Cut (x ∷ c ∷ s)) (sym e) (⊎_elim (λ z. split_escape c s (inl z) (cut_no_loose s (NoLoose-tail c s (NoLoose-tail b (c ∷ s) n)))) (λ p. ⊎_elim (λ z. split_escape c s (inr z) (cut_no_loose s (NoLoose-tail c s (NoLoose-tail b (c ∷ s) n)))) (λ q. absurd (n 0 (loose (b ∷ c ∷ s) 0 e p q))) (cases_eq c 49)) (cases_eq c 48))) (λ h. cut_byte b (c ∷ s) h (cut_no_loose (c ∷ s) (NoLoose-tail b (c ∷ s) n))) (cases_eq b 126)

-- a text that a slash begins, without a loose tilde, is a pointer
pub IsPointer-no_loose : (s : Text) → slice_index s 0 ≡ 47 → NoLoose s → IsPointer s
IsPointer-no_loose [] e n = root
IsPointer-no_loose (b ∷ s) e n = let c = cut_no_loose s (NoLoose-tail b s n) in subst IsPointer (ap₂ (λ (x : ℕ) (y : Text). x ∷ y) (sym e) c.split) (segment c.is_token c.is_pointer)

-- a text without `~` that is empty or begins with a slash is a pointer
pub IsPointer-plain : (s : Text) → All (λ b. b ≢ 126) s → BeginsSegment s → IsPointer s
IsPointer-plain s h b = ⊎_elim (λ (e : slice_index s 0 ≡ 47). IsPointer-no_loose s e (no_tilde s h)) (λ (e : s ≡ []). subst IsPointer (sym e) root) b
  where
    no_tilde : (u : Text) → All (λ b. b ≢ 126) u → NoLoose u
    no_tilde [] h = NoLoose-nil
    no_tilde (c ∷ u) h = NoLoose-cons c u (All-head (λ b. b ≢ 126) c u h) (no_tilde u (All-tail (λ b. b ≢ 126) c u h))

-- the same, by offsets
pub IsPointer-plain_at : (s : Text) → ((k : ℕ) → k < length s → slice_index s k ≢ 126) → BeginsSegment s → IsPointer s
IsPointer-plain_at s h b = IsPointer-plain s (All-from_get_or (λ c. c ≢ 126) s 0 h) b

-- a pointer lacks no slash
pub no_lack-IsPointer : {s : Text} → IsPointer s → LacksSlash s → ⊥
no_lack-IsPointer root l = l.some refl
no_lack-IsPointer (segment t r) l = l.no_slash refl

-- a pointer has no loose tilde that is a fault
pub no_tilde_fault-IsPointer : {s : Text} (p o : ℕ) → IsPointer s → IsTildeFault s p o → ⊥
no_tilde_fault-IsPointer p o r f = NoLoose-IsPointer r (p + o) f.tilde.here

-- a text that lacks its slash has no tilde fault
pub no_tilde_fault-lack : (s : Text) (p o : ℕ) → LacksSlash s → IsTildeFault s p o → ⊥
no_tilde_fault-lack s p o l f = l.no_slash f.slash

-- the last slash before an offset is unique
pub IsLastSlash_one : (s : Text) (i p q : ℕ) → IsLastSlash s i p → IsLastSlash s i q → p ≡ q
IsLastSlash_one s i p q x y = ⊎_elim (λ e. e) (λ h. ⊎_elim (λ (l : p < q). absurd (x.after q l y.below y.here)) (λ (l : q < p). absurd (y.after p l x.below x.here)) h) (cases_order p q)

-- a tilde fault is at one offset, after one slash
pub IsTildeFault_one : (s : Text) (p o q u : ℕ) → IsTildeFault s p o → IsTildeFault s q u → (p ≡ q) × (o ≡ u)
IsTildeFault_one s p o q u x y =
    let e : p + o ≡ q + u = IsFirst_one (IsLooseTilde s) (p + o) (q + u) x.tilde y.tilde in
    let f : p ≡ q = IsLastSlash_one s (p + o) p q x.last_slash (subst (λ i. IsLastSlash s i q) (sym e) y.last_slash) in
    (f, omega arith)

-- a text has a first loose tilde, or none
abbrev pub LooseOrNone : Text → Type 0
LooseOrNone s = ((i : ℕ) × IsFirst (IsLooseTilde s) i) ⊎ NoLoose s

loose_first : (s : Text) → IsLooseTilde s 0 → LooseOrNone s
loose_first s e = inl (0, record { here = e; before = λ k l _. omega (arith, l) })

loose_later : (b : ℕ) (s : Text) → (IsLooseTilde (b ∷ s) 0 → ⊥) → LooseOrNone s → LooseOrNone (b ∷ s)
loose_later b s h (inl (i, f)) = inl (suc i, record { here = IsLooseTilde-cons b s i f.here; before = none })
  where
    none : (k : ℕ) → k < suc i → IsLooseTilde (b ∷ s) k → ⊥
    none zero l e = h e
    none (suc k) l e = f.before k (omega arith) (IsLooseTilde-tail b s k e)
loose_later b s h (inr n) = inr none
  where
    none : (k : ℕ) → IsLooseTilde (b ∷ s) k → ⊥
    none zero e = h e
    none (suc k) e = n k (IsLooseTilde-tail b s k e)

loose_at_zero : (s : Text) → IsLooseTilde s 0 ⊎ (IsLooseTilde s 0 → ⊥)
loose_at_zero s = ⊎_elim (λ e. ⊎_elim (λ z. inr (λ f. loose_no_zero s 0 f z)) (λ p. ⊎_elim (λ z. inr (λ f. loose_no_one s 0 f z)) (λ q. inl (loose s 0 e p q)) (cases_eq (slice_index s 1) 49)) (cases_eq (slice_index s 1) 48)) (λ h. inr (λ f. h f.here)) (cases_eq (slice_index s 0) 126)

-- which of the two is found byte by byte
pub loose_or_none : (s : Text) → LooseOrNone s
loose_or_none [] = inr NoLoose-nil
loose_or_none (b ∷ s) = ⊎_elim (λ e. loose_first (b ∷ s) e) (λ h. loose_later b s h (loose_or_none s)) (loose_at_zero (b ∷ s))

-- after a first slash, each offset has a last slash before it
pub last_slash : (s : Text) (i : ℕ) → slice_index s 0 ≡ 47 → (p : ℕ) × IsLastSlash s (suc i) p
last_slash s zero e = (0, record { below = omega arith; here = e; after = λ k l m _. omega (arith, l, m) })
last_slash s (suc i) e = ⊎_elim (λ f. (suc i, record { below = omega arith; here = f; after = λ k l m _. omega (arith, l, m) })) (λ n. keep n (last_slash s i e)) (cases_eq (slice_index s (suc i)) 47)
  where
    keep : slice_index s (suc i) ≢ 47 → ((p : ℕ) × IsLastSlash s (suc i) p) → (p : ℕ) × IsLastSlash s (suc (suc i)) p
    keep n (p, f) = (p, record { below = omega (arith, f.below); here = f.here; after = λ k l m q. ⊎_elim (λ (z : k ≡ suc i). n (subst (λ j. slice_index s j ≡ 47) z q)) (λ z. f.after k l (omega (arith, m, z)) q) (cases_eq k (suc i)) })

-- each text is a pointer, lacks its slash, or has a tilde fault
pub pointer_or_fault : (s : Text) → IsPointer s ⊎ (LacksSlash s ⊎ ((p : ℕ) × (o : ℕ) × IsTildeFault s p o))
pointer_or_fault [] = inl root
pointer_or_fault (b ∷ s) = ⊎_elim (λ (e : b ≡ 47). ⊎_elim (λ (f : (i : ℕ) × IsFirst (IsLooseTilde (b ∷ s)) i). inr (inr (at f.0 f.1 e))) (λ (n : NoLoose (b ∷ s)). inl (IsPointer-no_loose (b ∷ s) e n)) (loose_or_none (b ∷ s))) (λ n. inr (inl (record { some = λ e. cc; no_slash = n }))) (cases_eq b 47)
  where
    at : (i : ℕ) → IsFirst (IsLooseTilde (b ∷ s)) i → b ≡ 47 → (p : ℕ) × (o : ℕ) × IsTildeFault (b ∷ s) p o
    at zero f e = absurd (omega (arith, f.here, e))
    at (suc i) f e =
        let l = last_slash (b ∷ s) i e in
        let sum : suc i ≡ l.0 + (suc i - l.0) = omega (arith, l.1.below) in
        (l.0, suc i - l.0, record { slash = e; tilde = subst (IsFirst (IsLooseTilde (b ∷ s))) sum f; last_slash = subst (λ j. IsLastSlash (b ∷ s) j l.0) sum l.1 })

-- the last offset at which a token can have a fault is its end
no_fault_past : (s : Text) (k : ℕ) → length s < k → IsFaultAt s k → ⊥
no_fault_past s k l (inl e) = omega (arith, get_or_past s k 0 (omega arith))
no_fault_past s k l (inr e) = omega (arith, e.after_tilde, get_or_past s (k - 1) 0 (omega arith))

-- a text with no fault up to its end is a token
pub IsToken-no_fault_below : (s : Text) → ((k : ℕ) → k ≤ length s → IsFaultAt s k → ⊥) → IsToken s
IsToken-no_fault_below s h = IsToken-no_fault s (λ o f. ⊎_elim (λ (l : length s < o). no_fault_past s o l f.here) (λ (l : o ≤ length s). h o l f.here) (cases_lt (length s) o))

-- before the first `~` or `/` a text has no fault
pub no_fault_before : (s : Text) (i : ℕ) → ((k : ℕ) → k < i → slice_index s k ≢ 126) → ((k : ℕ) → k < i → slice_index s k ≢ 47) → (k : ℕ) → k < i → IsFaultAt s k → ⊥
no_fault_before s i h n k l (inl e) = n k l e
no_fault_before s i h n k l (inr e) = let p = e.inside in h (k - 1) (omega arith) e.after_tilde

-- a byte of a token's plain part causes no fault, if no `~` is before it
pub no_fault_more : (s : Text) (i : ℕ) → ((k : ℕ) → k < i → IsFaultAt s k → ⊥) → slice_index s i ≢ 47 → (0 < i → slice_index s (i - 1) ≢ 126) → (k : ℕ) → k < i + 1 → IsFaultAt s k → ⊥
no_fault_more s i h n before k l f = ⊎_elim (λ (e : k ≡ i). at (subst (IsFaultAt s) e f)) (λ m. h k (omega arith) f) (cases_eq k i)
  where
    at : IsFaultAt s i → ⊥
    at (inl e) = n e
    at (inr e) = before e.inside e.after_tilde

-- a prefix that is a token has no fault up to its end, except a slash there
no_fault_take : (s : Text) (i k : ℕ) → i ≤ length s → IsToken (take i s) → k ≤ i → EndsEscape s k → ⊥
no_fault_take s i k l r m e = no_fault-IsToken r k (inr (record { inside = e.inside; after_tilde = get_or-take i s (k - 1) 0 (let p = e.inside in omega arith) ∙ e.after_tilde; no_zero = λ z. read 48 (omega arith) e.no_zero z; no_one = λ z. read 49 (omega arith) e.no_one z; no_slash = λ z. read 47 (omega arith) e.no_slash z }))
  where
    read : (b : ℕ) → 0 < b → slice_index s k ≢ b → slice_index (take i s) k ≢ b
    read b p n z = ⊎_elim (λ (w : k < i). n (sym (get_or-take i s k 0 w) ∙ z)) (λ (w : i ≤ k). omega (arith, z, get_or_past (take i s) k 0 (let q = length-take-le i s l in omega arith))) (cases_lt k i)

no_slash_take : (s : Text) (i k : ℕ) → IsToken (take i s) → k < i → slice_index s k ≢ 47
no_slash_take s i k r l e = no_fault-IsToken r k (inl (get_or-take i s k 0 l ∙ e))

no_fault_front : (s : Text) (i : ℕ) → i ≤ length s → IsToken (take i s) → (k : ℕ) → k < i → IsFaultAt s k → ⊥
no_fault_front s i l r k m (inl e) = no_slash_take s i k r m e
no_fault_front s i l r k m (inr e) = no_fault_take s i k l r (omega arith) e

-- a slash after a prefix that is a token is the first fault
pub IsTokenFault-slash : (s : Text) (i : ℕ) → i ≤ length s → IsToken (take i s) → slice_index s i ≡ 47 → IsTokenFault s i
IsTokenFault-slash s i l r e = record { here = inl e; before = no_fault_front s i l r }

-- so is the offset after a `~` after such a prefix, if neither `0` nor `1` is there
pub IsTokenFault-tilde : (s : Text) (i : ℕ) → i ≤ length s → IsToken (take i s) → slice_index s i ≡ 126 → slice_index s (i + 1) ≢ 48 → slice_index s (i + 1) ≢ 49 → IsTokenFault s (i + 1)
IsTokenFault-tilde s i l r e n m = record { here = here; before = λ k w f. ⊎_elim (λ (z : k ≡ i). at (subst (IsFaultAt s) z f)) (λ z. no_fault_front s i l r k (omega arith) f) (cases_eq k i) }
  where
    here : IsFaultAt s (i + 1)
    here = ⊎_elim (λ z. inl z) (λ z. inr (record { inside = omega arith; after_tilde = ap (λ (j : ℕ). slice_index s j) (add-sub i) ∙ e; no_zero = n; no_one = m; no_slash = z })) (cases_eq (slice_index s (i + 1)) 47)
      where
        add-sub : (i : ℕ) → i + 1 - 1 ≡ i
        add-sub i = omega arith

    at : IsFaultAt s i → ⊥
    at (inl z) = omega (arith, z, e)
    at (inr z) = no_fault_take s i i l r (omega arith) z

-- a prefix that is a token, with one more byte that is neither `~` nor `/`
pub IsToken-take_more : (s : Text) (i : ℕ) → i < length s → IsToken (take i s) → slice_index s i ≢ 126 → slice_index s i ≢ 47 → IsToken (take (i + 1) s)
IsToken-take_more s i l r h n = subst IsToken (sym (take_more s i 0 l)) (IsToken-append (slice_index s i ∷ []) r (plain h n end))

-- and with one more escape
pub IsToken-take_escape : (s : Text) (i : ℕ) → i + 1 < length s → IsToken (take i s) → slice_index s i ≡ 126 → (slice_index s (i + 1) ≡ 48) ⊎ (slice_index s (i + 1) ≡ 49) → IsToken (take (i + 2) s)
IsToken-take_escape s i l r e z =
    let one = take_more s i 0 (omega arith) in
    let two = take_more s (i + 1) 0 l in
    let all : take (i + 2) s ≡ take i s ++ 126 ∷ slice_index s (i + 1) ∷ [] = ap (λ (n : ℕ). take n s) (sum i) ∙ two ∙ ap (λ (x : Text). x ++ slice_index s (i + 1) ∷ []) one ∙ append_assoc (take i s) (slice_index s i ∷ []) (slice_index s (i + 1) ∷ []) ∙ ap (λ (b : ℕ). take i s ++ b ∷ slice_index s (i + 1) ∷ []) e in
    subst IsToken (sym all) (IsToken-append (126 ∷ slice_index s (i + 1) ∷ []) r (⊎_elim (λ (w : slice_index s (i + 1) ≡ 48). subst (λ x. IsToken (126 ∷ x ∷ [])) (sym w) (tilde end)) (λ (w : slice_index s (i + 1) ≡ 49). subst (λ x. IsToken (126 ∷ x ∷ [])) (sym w) (slash end)) z))
  where
    sum : (i : ℕ) → i + 2 ≡ i + 1 + 1
    sum i = omega arith

-- a text with no loose tilde below its length has none
pub NoLoose-below : (s : Text) → ((i : ℕ) → i < length s → IsLooseTilde s i → ⊥) → NoLoose s
NoLoose-below s h i e = ⊎_elim (λ l. h i l e) (λ l. omega (arith, e.here, get_or_past s i 0 l)) (cases_lt i (length s))

-- so a text that a slash begins, with no loose tilde below its length, is a pointer
pub IsPointer-no_loose_below : (s : Text) → slice_index s 0 ≡ 47 → ((i : ℕ) → i < length s → IsLooseTilde s i → ⊥) → IsPointer s
IsPointer-no_loose_below s e h = IsPointer-no_loose s e (NoLoose-below s h)

-- the first byte of characters is `/`, `0` or `1` only where the first character is
first_char : (cs : List ℕ) (b : ℕ) → 0 < b → b < 128 → slice_index (encode_utf8_all cs) 0 ≡ b → slice_index cs 0 ≡ b
first_char [] b p l e = absurd (omega (arith, e))
first_char (c ∷ cs) b p l e = char_from_byte (encode_utf8_all (c ∷ cs)) (encode_utf8_all cs) c refl (omega arith) (some (encode_utf8_all (c ∷ cs)) e) ∙ e
  where
    some : (bs : List ℕ) → slice_index bs 0 ≡ b → 0 < length bs
    some [] e = absurd (omega (arith, e))
    some (x ∷ bs) e = omega arith

-- a loose tilde among characters is one among their bytes
loose_byte : (cs : List ℕ) (i : ℕ) → IsLooseTilde cs i → (m : ℕ) × IsLooseTilde (encode_utf8_all cs) m
loose_byte [] zero e = absurd (omega (arith, e.here))
loose_byte [] (suc i) e = absurd (omega (arith, e.here))
loose_byte (c ∷ cs) zero e = (0, subst (λ bs. IsLooseTilde bs 0) (ap (λ (x : List ℕ). x ++ encode_utf8_all cs) (sym (ap encode e.here ∙ encode_ascii 126 (omega arith)))) (loose (126 ∷ encode_utf8_all cs) 0 refl (λ z. loose_no_zero (c ∷ cs) 0 e (first_char cs 48 (omega arith) (omega arith) z)) (λ z. loose_no_one (c ∷ cs) 0 e (first_char cs 49 (omega arith) (omega arith) z))))
loose_byte (c ∷ cs) (suc i) e = shift (loose_byte cs i (IsLooseTilde-tail c cs i e))
  where
    behind : (front s : Text) (m : ℕ) → IsLooseTilde s m → IsLooseTilde (front ++ s) (length front + m)
    behind [] s m e = subst (IsLooseTilde s) (sym (zero-add m)) e
    behind (b ∷ front) s m e = subst (IsLooseTilde (b ∷ front ++ s)) (sym (suc-add (length front) m)) (IsLooseTilde-cons b (front ++ s) (length front + m) (behind front s m e))

    shift : ((m : ℕ) × IsLooseTilde (encode_utf8_all cs) m) → (m : ℕ) × IsLooseTilde (encode_utf8_all (c ∷ cs)) m
    shift (m, f) = (length (encode c) + m, behind (encode c) (encode_utf8_all cs) m f)

-- bytes that are a pointer have characters that are a pointer
pub IsPointer-characters : (cs : List ℕ) → IsPointer (encode_utf8_all cs) → IsPointer cs
IsPointer-characters [] p = root
IsPointer-characters (c ∷ cs) p = IsPointer-no_loose (c ∷ cs) (⊎_elim (λ e. first_char (c ∷ cs) 47 (omega arith) (omega arith) e) (λ (e : encode_utf8_all (c ∷ cs) ≡ []). absurd (omega (arith, simp length-append at (ap length e), length-encode c, (len_utf8_bounds c).0))) (BeginsSegment-IsPointer p)) (λ i e. let f = loose_byte (c ∷ cs) i e in NoLoose-IsPointer p f.0 f.1)

-- the grammar of pointers holds of bytes where it holds of characters
pub IsPointer-encodes_iff : (cs : List ℕ) → IsPointer (encode_utf8_all cs) ↔ IsPointer cs
IsPointer-encodes_iff cs = (IsPointer-characters cs, IsPointer-bytes cs)
