-- Of the calls on fragments: what they are passed fixes the error, and success and failure exclude each other.
use Rattle.std.proofs.Common.{◌≡◌, inl, inr, ℕ, List, IsUtf8, Result, Err, length, take, sym, ap, ◌∙◌, subst}
use Rattle.core.specs.declared.alloc.AllocError.{AllocError}
use Rattle.jsonptr.specs.Fault.{HasMemory}
use Rattle.jsonptr.specs.Grammar.{IsPointer}
use Rattle.jsonptr.specs.ParseError.{IsParseErrorOf}
use Rattle.jsonptr.specs.Text.{Text, text}
use Rattle.jsonptr.specs.Types.Fault.{Fault}
use Rattle.jsonptr.specs.Types.Fault.TheVariants.{Memory}
use Rattle.jsonptr.specs.Types.ParseError.{ParseError}
use Rattle.jsonptr_fragment.specs.Fragment.{fragment_of, IsFragmentOf}
use Rattle.jsonptr_fragment.specs.FragmentError.{IsFragmentErrorOf}
use Rattle.jsonptr_fragment.specs.declared.error.FragmentError.{FragmentError}
use Rattle.jsonptr_c_calls.specs.Failures.{IsNoPointer, IsNotUtf8, IsOutOfMemory, LacksRoom}
use Rattle.jsonptr_c_calls.specs.Fragments.{IsFragmentFor, IsNoFragment, IsNotFromFragment, IsNotToFragment, IsPointerIn, SameError}
use Rattle.jsonptr_c_calls.specs.declared.call_error.Argument.{Argument}
use Rattle.jsonptr_c_calls.specs.declared.call_error.CallError.{CallError}
use Rattle.jsonptr_c_calls.specs.declared.call_error.CallError.TheVariants.{NoRoom, NotFragment, NotPointer}
use Rattle.jsonptr_c_calls.proofs.LawLemmas.{no_pointer-parses, tokens_one}
use Rattle.jsonptr_c_calls.proofs.NotBothLemmas.{fits}

same_utf8 : (a : Argument) (bytes : List ℕ) (e f : CallError) → IsNotUtf8 a bytes e → IsNotUtf8 a bytes f → SameError e f
same_utf8 a bytes e f h k = inr (inr (h.1 ∙ sym k.1))

same_room : (n m room : ℕ) (e f : CallError) → n ≡ m → LacksRoom n room e → LacksRoom m room f → SameError e f
same_room n m room e f is h k = inr (inr (h.1 ∙ ap NoRoom is ∙ sym k.1))

-- ---- reading a fragment

-- a result that has memory is not a failed allocation
pub no_memory : {T E : Type 0} (r : Result T (Fault E)) (fault : Fault E) (e : AllocError) → r ≡ Err fault → fault ≡ Memory e → HasMemory r → ⊥
no_memory {T = T} {E = E} r fault e is memory h = subst (λ (x : Result T (Fault E)). HasMemory x) (is ∙ ap Err memory) h

-- a text that is the fragment of a pointer has no error but a failed allocation
no_fault : ((s : Text) (ts : List Text) (e : FragmentError) → IsFragmentOf s ts → IsFragmentErrorOf s e → ⊥) → (s : List ℕ) (ts : List Text) (e : CallError) → IsUtf8 s → IsFragmentOf s ts → IsNoFragment s e → IsOutOfMemory e
no_fault not_both s ts e u is (inl h) = absurd (h.0 u)
no_fault not_both s ts e u is (inr (inl h)) = h.0
no_fault not_both s ts e u is (inr (inr h)) = absurd (not_both s ts h.0 is h.2)

no_fragments : ((s : Text) (e f : FragmentError) → IsFragmentErrorOf s e → IsFragmentErrorOf s f → e ≡ f) → (s : List ℕ) (e f : CallError) → IsNoFragment s e → IsNoFragment s f → SameError e f
no_fragments one s e f (inr (inl h)) k = inl h.0
no_fragments one s e f (inl h) (inr (inl k)) = inr (inl k.0)
no_fragments one s e f (inr (inr h)) (inr (inl k)) = inr (inl k.0)
no_fragments one s e f (inl h) (inl k) = same_utf8 _ s e f h k
no_fragments one s e f (inl h) (inr (inr k)) = absurd (h.0 k.1)
no_fragments one s e f (inr (inr h)) (inl k) = absurd (k.0 h.1)
no_fragments one s e f (inr (inr h)) (inr (inr k)) = inr (inr (h.3 ∙ ap NotFragment (one s h.0 k.0 h.2 k.2) ∙ sym k.3))

module _
    (one_pointer : (s : Text) (ts us : List Text) → IsFragmentOf s ts → IsFragmentOf s us → ts ≡ us)
    (not_both : (s : Text) (ts : List Text) (e : FragmentError) → IsFragmentOf s ts → IsFragmentErrorOf s e → ⊥) where
  pub not_from_fragment : ((s : Text) (e f : FragmentError) → IsFragmentErrorOf s e → IsFragmentErrorOf s f → e ≡ f) → (s : List ℕ) (room : ℕ) (e f : CallError) → IsNotFromFragment s room e → IsNotFromFragment s room f → SameError e f
  not_from_fragment one s room e f (inl h) (inl k) = no_fragments one s e f h k
  not_from_fragment one s room e f (inl h) (inr k) = inl (no_fault not_both s k.0 e k.1 k.2 h)
  not_from_fragment one s room e f (inr h) (inl k) = inr (inl (no_fault not_both s h.0 f h.1 h.2 k))
  not_from_fragment one s room e f (inr h) (inr k) =
      same_room _ _ room e f (ap (λ (ts : List Text). length (text ts)) (one_pointer s h.0 k.0 h.2 k.2)) h.3 k.3

  pub from_fragment : (s out : List ℕ) (n : ℕ) (e : CallError) → IsUtf8 s → IsPointerIn s (take n out) → IsNotFromFragment s (length out) e → IsOutOfMemory e
  from_fragment s out n e u is (inl h) = no_fault not_both s is.0 e u is.1 h
  from_fragment s out n e u is (inr h) =
      absurd (fits out n (text h.0) e (sym is.2 ∙ ap text (one_pointer s is.0 h.0 is.1 h.2)) h.3)

-- ---- writing one

no_pointers : ((s : Text) (e f : ParseError) → IsParseErrorOf s e → IsParseErrorOf s f → e ≡ f) → (bytes : List ℕ) (e f : CallError) → IsNoPointer bytes e → IsNoPointer bytes f → SameError e f
no_pointers one bytes e f (inl h) (inl k) = same_utf8 _ bytes e f h k
no_pointers one bytes e f (inl h) (inr k) = absurd (h.0 k.1)
no_pointers one bytes e f (inr h) (inl k) = absurd (k.0 h.1)
no_pointers one bytes e f (inr h) (inr k) = inr (inr (h.3 ∙ ap NotPointer (one bytes h.0 k.0 h.2 k.2) ∙ sym k.3))

module _ (not_both : (s : Text) (e : ParseError) → IsPointer s → IsParseErrorOf s e → ⊥) where
  pub not_to_fragment : ((s : Text) (e f : ParseError) → IsParseErrorOf s e → IsParseErrorOf s f → e ≡ f) → (bytes : List ℕ) (room : ℕ) (e f : CallError) → IsNotToFragment bytes room e → IsNotToFragment bytes room f → SameError e f
  not_to_fragment one bytes room e f (inr (inl h)) k = inl h
  not_to_fragment one bytes room e f (inl h) (inr (inl k)) = inr (inl k)
  not_to_fragment one bytes room e f (inr (inr h)) (inr (inl k)) = inr (inl k)
  not_to_fragment one bytes room e f (inl h) (inl k) = no_pointers one bytes e f h k
  not_to_fragment one bytes room e f (inl h) (inr (inr k)) = absurd (no_pointer-parses not_both bytes k.0 e h k.1)
  not_to_fragment one bytes room e f (inr (inr h)) (inl k) = absurd (no_pointer-parses not_both bytes h.0 f k h.1)
  not_to_fragment one bytes room e f (inr (inr h)) (inr (inr k)) =
      same_room _ _ room e f (ap (λ (ts : List Text). length (fragment_of ts)) (tokens_one bytes h.0 k.0 h.1 k.1)) h.2 k.2

  pub to_fragment : (bytes out : List ℕ) (n : ℕ) (e : CallError) → IsUtf8 bytes → IsFragmentFor bytes (take n out) → IsNotToFragment bytes (length out) e → IsOutOfMemory e
  to_fragment bytes out n e u is (inl h) = absurd (no_pointer-parses not_both bytes is.0 e h (u, is.1))
  to_fragment bytes out n e u is (inr (inl h)) = h
  to_fragment bytes out n e u is (inr (inr h)) =
      absurd (fits out n (fragment_of h.0) e (is.2 ∙ ap fragment_of (tokens_one bytes is.0 h.0 (u, is.1) h.1)) h.2)
