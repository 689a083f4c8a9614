-- The first fault of a token's text, its offset and its kind together.
use Rattle.std.proofs.Common.{◌≡◌, ◌⊎◌, ℕ, refl, subst, ⊎_elim, inl, inr}
use Rattle.jsonptr_grammar.specs.Text.{Text}
use Rattle.jsonptr_grammar.specs.Grammar.{IsToken}
use Rattle.jsonptr_grammar.specs.FirstFault.{IsTokenFault, IsSlashAt, EndsEscape}
use Rattle.jsonptr_grammar.proofs.FaultLemmas.{token_or_fault, no_token_fault, IsTokenFault_one}
use Rattle.jsonptr_base.specs.Token.{IsEncodingCause, IsEncodingErrorOf}
use Rattle.jsonptr_base.specs.declared.token.EncodingError.{EncodingError}
use Rattle.jsonptr_base.specs.declared.token.InvalidEncoding.{InvalidEncoding}
use Rattle.jsonptr_base.specs.declared.token.InvalidEncoding.TheVariants.{Tilde, Slash}

pub encoding_some : (t : Text) → IsToken t ⊎ ((e : EncodingError) × IsEncodingErrorOf t e)
encoding_some t =
    ⊎_elim
    (λ (token : IsToken t). inl token)
    (λ (fault : (o : ℕ) × IsTokenFault t o).
    ⊎_elim
    (λ (slash : IsSlashAt t fault.0). inr (record { offset = fault.0; source = Slash }, record { place = fault.1; cause = slash }))
    (λ (tilde : EndsEscape t fault.0). inr (record { offset = fault.0; source = Tilde }, record { place = fault.1; cause = tilde }))
    fault.1.here)
    (token_or_fault t)

pub encoding_not_both : (t : Text) (e : EncodingError) → IsToken t → IsEncodingErrorOf t e → ⊥
encoding_not_both t e token fault = no_token_fault token e.offset fault.place

-- what is wrong at an offset is unique
cause_one : (t : Text) (o : ℕ) (a b : InvalidEncoding) → IsEncodingCause t o a → IsEncodingCause t o b → a ≡ b
cause_one t o Tilde Tilde h k = refl
cause_one t o Tilde Slash h k = absurd (h.no_slash k)
cause_one t o Slash Tilde h k = absurd (k.no_slash h)
cause_one t o Slash Slash h k = refl

same_fault : (e f : EncodingError) → e.offset ≡ f.offset → e.source ≡ f.source → e ≡ f
same_fault e f o s = λ j. record { offset = o j; source = s j }

pub encoding_one : (t : Text) (e f : EncodingError) → IsEncodingErrorOf t e → IsEncodingErrorOf t f → e ≡ f
encoding_one t e f h k =
    let place : e.offset ≡ f.offset = IsTokenFault_one t e.offset f.offset h.place k.place in
    let here : IsEncodingCause t f.offset e.source = subst (λ (o : ℕ). IsEncodingCause t o e.source) place h.cause in
    same_fault e f place (cause_one t f.offset e.source f.source here k.cause)
