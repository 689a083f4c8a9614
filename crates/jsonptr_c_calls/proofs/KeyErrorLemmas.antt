-- The errors of the calls that copy a key.
use Rattle.std.proofs.Common.{◌≡◌, ◌⊎◌, inl, inr, ℕ, IsUtf8, List, MatchOption, Option, Some, None, length, refl, ap, ◌∙◌, subst, take}
use Rattle.std.proofs.lemmas.Bool.{false≢true}
use Rattle.std.specs.Prelude.{IsSome}
use Rattle.serde_json.specs.Data.{Data, null, boolean, number, string, array, object}
use Rattle.serde_json.specs.Find.{as_object}
use Rattle.serde_json.specs.View.{view}
use Rattle.jsonptr.specs.Grammar.{IsPointer}
use Rattle.jsonptr.specs.Json.{FindsValue}
use Rattle.jsonptr.specs.ParseError.{IsParseErrorOf}
use Rattle.jsonptr.specs.Text.{Text}
use Rattle.jsonptr.specs.Types.ParseError.{ParseError}
use Rattle.jsonptr.proofs.Calling.{FindsValue_one}
use Rattle.jsonptr_c_calls.specs.Failures.{FailsOnHandle, IsOutOfMemory, LacksRoom, SameStatus}
use Rattle.jsonptr_c_calls.specs.Keys.{CopiesFirstKey, CopiesNextKey, HasKey, HasNoKey, HasNoNextKey, IsFirstKey, IsNextKey, IsNoFirstKey, IsNoNextKey, IsNoObject, IsObject, LacksNextKey}
use Rattle.jsonptr_c_calls.specs.Values.{FindsAtPointer, HoldsWith}
use Rattle.jsonptr_c_calls.specs.declared.handle.Handle.{Handle}
use Rattle.jsonptr_c_calls.specs.declared.call_error.Argument.TheVariants as argument
use Rattle.jsonptr_c_calls.specs.declared.call_error.CallError.{CallError}
use Rattle.jsonptr_c_calls.specs.declared.call_error.CallError.TheVariants.{OtherType}
use Rattle.jsonptr_c_calls.proofs.KeyLemmas.{first_one, next_one}
use Rattle.jsonptr_c_calls.proofs.LawLemmas.{found, on_document, rooms, same, tokens_one, unfound}
use Rattle.jsonptr_c_calls.proofs.NotBothLemmas.{fits, on_held}
use Rattle.jsonptr_c_calls.proofs.SetterLemmas.{after_text, text_read}

-- a pointer resolves to one value
at_one : (d v w : Data) (bytes : List ℕ) → IsUtf8 bytes → FindsAtPointer d bytes v → FindsAtPointer d bytes w → v ≡ w
at_one d v w bytes u h k =
    let tokens : h.0 ≡ k.0 = tokens_one bytes h.0 k.0 (u, h.1) (u, k.1) in
    FindsValue_one d k.0 v w (subst (λ (ts : List Text). FindsValue d ts v) tokens h.2) k.2

-- only an object has a key
key_in_object : (v : Data) (k : List ℕ) → HasKey v k → IsObject v
key_in_object null k has = has
key_in_object (boolean b) k has = has
key_in_object (number n) k has = has
key_in_object (string s) k has = has
key_in_object (array ds) k has = has
key_in_object (object ms) k has = refl

first_in_object : (v : Data) (k : List ℕ) → IsFirstKey v k → IsObject v
first_in_object v k h = key_in_object v k h.key

next_in_object : (l : List ℕ) (v : Data) (k : List ℕ) → IsNextKey v l k → IsObject v
next_in_object l v k h = key_in_object v k h.key

-- an error of a call that copies a key which `P` is of the value at the pointer
abbrev LacksKey : (Data → List ℕ → Type 0) → Data → List ℕ → ℕ → CallError → Type 0
LacksKey P d bytes room e =
    IsNoObject d bytes e
    ⊎ ((k : List ℕ) × IsUtf8 bytes × ((v : Data) × FindsAtPointer d bytes v × P v k) × LacksRoom (length k) room e)

module _ (not_both : (s : Text) (e : ParseError) → IsPointer s → IsParseErrorOf s e → ⊥) where
  -- the value at the pointer is an object
  object_found : (d v : Data) (bytes : List ℕ) (e : CallError) → IsUtf8 bytes → FindsAtPointer d bytes v → IsObject v → IsNoObject d bytes e → IsOutOfMemory e
  object_found d v bytes e u at is (inl h) = found not_both d v bytes e h u at
  object_found d v bytes e u at is (inr h) =
      absurd (false≢true (subst IsSome (ap as_object (at_one d v h.0 bytes u at h.2) ∙ h.3) is))

  no_objects : (d : Data) (bytes : List ℕ) (e f : CallError) → IsNoObject d bytes e → IsNoObject d bytes f → SameStatus e f
  no_objects d bytes e f (inl h) (inl k) = unfound not_both d bytes e f h k
  no_objects d bytes e f (inl h) (inr k) = inl (found not_both d k.0 bytes e h k.1 k.2)
  no_objects d bytes e f (inr h) (inl k) = inr (inl (found not_both d h.0 bytes f k h.1 h.2))
  no_objects d bytes e f (inr h) (inr k) = same e f OtherType OtherType h.4 k.4 refl

  keys_lacked : (P : Data → List ℕ → Type 0) → ((v : Data) (k : List ℕ) → P v k → IsObject v) → (d : Data) (bytes : List ℕ) (room : ℕ) (e f : CallError) → LacksKey P d bytes room e → LacksKey P d bytes room f → SameStatus e f
  keys_lacked P in_object d bytes room e f (inl h) (inl k) = no_objects d bytes e f h k
  keys_lacked P in_object d bytes room e f (inl h) (inr k) =
      inl (object_found d k.2.0 bytes e k.1 k.2.1 (in_object k.2.0 k.0 k.2.2) h)
  keys_lacked P in_object d bytes room e f (inr h) (inl k) =
      inr (inl (object_found d h.2.0 bytes f h.1 h.2.1 (in_object h.2.0 h.0 h.2.2) k))
  keys_lacked P in_object d bytes room e f (inr h) (inr k) = rooms e f (length h.0) (length k.0) room h.3 k.3

  -- a key that is copied, or that is not there, leaves no error
  key_copied : (P : Data → List ℕ → Type 0) (N : Data → Type 0) → ((v : Data) (k : List ℕ) → P v k → IsObject v) → ((v : Data) → N v → IsObject v) → ((v : Data) (k l : List ℕ) → P v k → P v l → k ≡ l) → ((v : Data) (k : List ℕ) → N v → P v k → ⊥) → (d : Data) (bytes out : List ℕ) (there : Option ℕ) (e : CallError) → IsUtf8 bytes → MatchOption there ((v : Data) × FindsAtPointer d bytes v × N v) (λ n. (v : Data) × FindsAtPointer d bytes v × P v (take n out)) → LacksKey P d bytes (length out) e → IsOutOfMemory e
  key_copied P N in_object none_in_object one apart d bytes out None e u is (inl h) =
      object_found d is.0 bytes e u is.1 (none_in_object is.0 is.2) h
  key_copied P N in_object none_in_object one apart d bytes out None e u is (inr h) =
      absurd (apart h.2.0 h.0 (subst N (at_one d is.0 h.2.0 bytes u is.1 h.2.1) is.2) h.2.2)
  key_copied P N in_object none_in_object one apart d bytes out (Some n) e u is (inl h) =
      object_found d is.0 bytes e u is.1 (in_object is.0 (take n out) is.2) h
  key_copied P N in_object none_in_object one apart d bytes out (Some n) e u is (inr h) =
      let copied : P h.2.0 (take n out) = subst (λ (v : Data). P v (take n out)) (at_one d is.0 h.2.0 bytes u is.1 h.2.1) is.2 in
      absurd (fits out n h.0 e (one h.2.0 (take n out) h.0 copied h.2.2) h.3)

  pub no_first_key : (d : Handle) (bytes : List ℕ) (room : ℕ) (e f : CallError) → FailsOnHandle d (λ v. IsNoFirstKey (view v) bytes room e) e → FailsOnHandle d (λ v. IsNoFirstKey (view v) bytes room f) f → SameStatus e f
  no_first_key d bytes room e f =
      on_document d (λ v x. IsNoFirstKey (view v) bytes room x) e f (λ v. keys_lacked IsFirstKey first_in_object (view v) bytes room e f)

  pub no_next_key : (d : Handle) (bytes k : List ℕ) (room : ℕ) (e f : CallError) → IsNoNextKey d bytes k room e → IsNoNextKey d bytes k room f → SameStatus e f
  no_next_key d bytes k room e f =
      after_text argument.Token k (λ x. FailsOnHandle d (λ v. LacksNextKey (view v) bytes k room x) x) e f
      (on_document d (λ v x. LacksNextKey (view v) bytes k room x) e f
      (λ v. keys_lacked (λ w n. IsNextKey w k n) (next_in_object k) (view v) bytes room e f))

  pub first_key_copied : (document : Handle) (bytes out : List ℕ) (there : Option ℕ) (e : CallError) → IsUtf8 bytes → HoldsWith document (λ v. CopiesFirstKey (view v) bytes there out) → FailsOnHandle document (λ v. IsNoFirstKey (view v) bytes (length out) e) e → IsOutOfMemory e
  first_key_copied document bytes out there e u is h =
      key_copied IsFirstKey HasNoKey first_in_object (λ v none. none.object) first_one (λ v k none is_first. none.none k is_first.key)
      (view is.0) bytes out there e u is.2 (on_held document (λ v. IsNoFirstKey (view v) bytes (length out) e) is.0 e is.1 h)

  pub next_key_copied : (document : Handle) (bytes k out : List ℕ) (there : Option ℕ) (e : CallError) → IsUtf8 bytes → IsUtf8 k → HoldsWith document (λ v. CopiesNextKey (view v) bytes k there out) → IsNoNextKey document bytes k (length out) e → IsOutOfMemory e
  next_key_copied document bytes k out there e u uk is =
      text_read argument.Token k (λ x. FailsOnHandle document (λ v. LacksNextKey (view v) bytes k (length out) x) x) e uk
      (λ h. key_copied (λ w n. IsNextKey w k n) (λ w. HasNoNextKey w k) (next_in_object k) (λ v none. none.object) (λ v. next_one v k) (λ v n none is_next. none.none n is_next.key is_next.greater)
      (view is.0) bytes out there e u is.2 (on_held document (λ v. LacksNextKey (view v) bytes k (length out) e) is.0 e is.1 h))
