-- The errors of assignments of a value.
use Rattle.std.proofs.Common.{◌⊎◌, inl, inr, IsTrue, IsUtf8, List, ℕ, refl, sym, ◌∙◌}
use Rattle.std.specs.Float.{Float, float_is_finite}
use Rattle.std.proofs.lemmas.Bool.{false≢true}
use Rattle.serde_json.specs.Data.{Data}
use Rattle.serde_json.specs.View.{view}
use Rattle.jsonptr.specs.Grammar.{IsPointer}
use Rattle.jsonptr.specs.ParseError.{IsParseErrorOf}
use Rattle.jsonptr.specs.Text.{Text}
use Rattle.jsonptr.specs.Types.ParseError.{ParseError}
use Rattle.jsonptr_c_calls.specs.Editing.{IsNotAssigned}
use Rattle.jsonptr_c_calls.specs.Failures.{IsNotUtf8, IsOutOfMemory, SameStatus}
use Rattle.jsonptr_c_calls.specs.Setters.{AssignsInHandle, IsNumberNotAssigned, IsStringNotAssigned, IsValueNotAssigned}
use Rattle.jsonptr_c_calls.specs.declared.handle.Handle.{Handle}
use Rattle.jsonptr_c_calls.specs.declared.call_error.Argument.{Argument}
use Rattle.jsonptr_c_calls.specs.declared.call_error.Argument.TheVariants as argument
use Rattle.jsonptr_c_calls.specs.declared.call_error.CallError.{CallError}
use Rattle.jsonptr_c_calls.specs.declared.call_error.CallError.TheVariants.{NotFinite}
use Rattle.jsonptr_c_calls.proofs.LawLemmas.{not_assigned, not_utf8, on_document, same}
use Rattle.jsonptr_c_calls.proofs.NotBothLemmas.{assigned, on_held}

-- an error of a call that reads the text `t` of the argument `a` first, and then fails as `P` says
abbrev pub AfterText : Argument → List ℕ → (CallError → Type 0) → CallError → Type 0
AfterText a t P e = IsNotUtf8 a t e ⊎ (IsOutOfMemory e ⊎ (IsUtf8 t × P e))

pub after_text : (a : Argument) (t : List ℕ) (P : CallError → Type 0) (e f : CallError) → (P e → P f → SameStatus e f) → AfterText a t P e → AfterText a t P f → SameStatus e f
after_text a t P e f one (inr (inl h)) k = inl h
after_text a t P e f one (inl h) (inr (inl k)) = inr (inl k)
after_text a t P e f one (inr (inr h)) (inr (inl k)) = inr (inl k)
after_text a t P e f one (inl h) (inl k) = not_utf8 a t e f h k
after_text a t P e f one (inl h) (inr (inr k)) = absurd (h.0 k.0)
after_text a t P e f one (inr (inr h)) (inl k) = absurd (k.0 h.0)
after_text a t P e f one (inr (inr h)) (inr (inr k)) = one h.1 k.1

-- a text that is UTF-8 leaves the errors of what follows
pub text_read : (a : Argument) (t : List ℕ) (P : CallError → Type 0) (e : CallError) → IsUtf8 t → (P e → IsOutOfMemory e) → AfterText a t P e → IsOutOfMemory e
text_read a t P e u then (inl h) = absurd (h.0 u)
text_read a t P e u then (inr (inl h)) = h
text_read a t P e u then (inr (inr h)) = then h.1

module _ (not_both : (s : Text) (e : ParseError) → IsPointer s → IsParseErrorOf s e → ⊥) where
  pub not_value_assigned : (d : Handle) (bytes : List ℕ) (e f : CallError) → IsValueNotAssigned d bytes e → IsValueNotAssigned d bytes f → SameStatus e f
  not_value_assigned d bytes e f = on_document d (λ v x. IsNotAssigned (view v) bytes x) e f (λ v. not_assigned not_both (view v) bytes e f)

  pub not_string_assigned : (s : List ℕ) (d : Handle) (bytes : List ℕ) (e f : CallError) → IsStringNotAssigned s d bytes e → IsStringNotAssigned s d bytes f → SameStatus e f
  not_string_assigned s d bytes e f = after_text argument.Text s (IsValueNotAssigned d bytes) e f (not_value_assigned d bytes e f)

  pub not_number_assigned : (x : Float) (d : Handle) (bytes : List ℕ) (e f : CallError) → IsNumberNotAssigned x d bytes e → IsNumberNotAssigned x d bytes f → SameStatus e f
  not_number_assigned x d bytes e f (inl h) (inl k) = same e f NotFinite NotFinite h.1 k.1 refl
  not_number_assigned x d bytes e f (inl h) (inr k) = absurd (false≢true (sym h.0 ∙ k.0))
  not_number_assigned x d bytes e f (inr h) (inl k) = absurd (false≢true (sym k.0 ∙ h.0))
  not_number_assigned x d bytes e f (inr h) (inr k) = not_value_assigned d bytes e f h.1 k.1

  pub value_assigned : (document new : Handle) (bytes : List ℕ) (v : Data) (e : CallError) → IsUtf8 bytes → AssignsInHandle document bytes v new → IsValueNotAssigned document bytes e → IsOutOfMemory e
  value_assigned document new bytes v e u is h =
      assigned not_both (view is.0) v (view is.1) bytes e u is.4 (on_held document (λ w. IsNotAssigned (view w) bytes e) is.0 e is.2 h)

  pub string_assigned : (s : List ℕ) (document new : Handle) (bytes : List ℕ) (v : Data) (e : CallError) → IsUtf8 s → IsUtf8 bytes → AssignsInHandle document bytes v new → IsStringNotAssigned s document bytes e → IsOutOfMemory e
  string_assigned s document new bytes v e us u is = text_read argument.Text s (IsValueNotAssigned document bytes) e us (value_assigned document new bytes v e u is)

  pub number_assigned : (x : Float) (document new : Handle) (bytes : List ℕ) (v : Data) (e : CallError) → IsTrue (float_is_finite x) → IsUtf8 bytes → AssignsInHandle document bytes v new → IsNumberNotAssigned x document bytes e → IsOutOfMemory e
  number_assigned x document new bytes v e finite u is (inl h) = absurd (false≢true (sym h.0 ∙ finite))
  number_assigned x document new bytes v e finite u is (inr h) = value_assigned document new bytes v e u is h.1
