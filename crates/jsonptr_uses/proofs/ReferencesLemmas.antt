-- A text that begins with `#`, and one reference more.
use Rattle.std.proofs.Common.{◌≡◌, ◌≢◌, ℕ, ◌+◌, ◌<◌, Bool, true, false, ◌==◌, List, [], ◌∷◌, Option, Some, None, Err, refl, sym, ap, ◌∙◌, subst, arith, add-one}
use Rattle.std.proofs.lemmas.Bool.Decides.{nat_tests}
use Rattle.std.specs.Borrow.{Bor}
use Rattle.std.specs.Prelude.{MatchOption}
use Rattle.serde_json.specs.Data.{Data}
use Rattle.jsonptr.specs.Text.{Text}
use Rattle.jsonptr.specs.Fault.{IfRefused}
use Rattle.jsonptr.specs.Types.Fault.{Fault}
use Rattle.jsonptr.specs.Types.Fault.TheVariants.{Refused, Memory}
use Rattle.jsonptr_fragment.specs.Fragment.{IsFragmentOf}
use Rattle.jsonptr_fragment.specs.FragmentError.{IsFragmentErrorOf}
use Rattle.jsonptr_fragment.specs.declared.error.FragmentError.{FragmentError}
use Rattle.jsonptr_uses.specs.References.{if_hash, Refers, Follows, RefusesReference}
use Rattle.jsonptr_uses.specs.declared.references.ReferenceError.{ReferenceError}
use Rattle.jsonptr_uses.specs.declared.references.ReferenceError.TheVariants.{NotAPointer}

-- the result of `strip_prefix` with `#`
abbrev pub Strips : Text → Option (Bor Text) → Type 0
Strips s r = MatchOption r ((rest : Text) → s ≢ 35 ∷ rest) (λ x. s ≡ 35 ∷ x.now)

no_hash : (s : Text) → ((rest : Text) → s ≢ 35 ∷ rest) → None ≡ if_hash s
no_hash [] h = refl
no_hash (b ∷ bs) h = go (b == 35) refl
  where
    go : (t : Bool) → (b == 35) ≡ t → None ≡ if_hash (b ∷ bs)
    go true e = absurd (h bs (ap (λ n. n ∷ bs) (grind (arith, nat_tests))))
    go false e = rw e

pub if_hash-none : (s : Text) (r : Option (Bor Text)) → Strips s r → r ≡ None → None ≡ if_hash s
if_hash-none s None h e = no_hash s h
if_hash-none s (Some x) h e = let none : ⊥ = cc in absurd none

pub if_hash-some : (s : Text) (r : Option (Bor Text)) (x : Bor Text) → Strips s r → r ≡ Some x → Some s ≡ if_hash s
if_hash-some s None x h e = let none : ⊥ = cc in absurd none
if_hash-some s (Some y) x h e = ap (λ (t : Text). Some t) h ∙ sym (ap if_hash h)

-- one reference more
pub passes_more : (document : Data) (ts vs us : List Text) (s : Text) (n : ℕ) → Follows document ts n vs → Refers document vs s → IsFragmentOf s us → Follows document ts (n + 1) us
passes_more document ts vs us s n passes refers is = rw add-one (vs, s, passes, refers, is)

-- a reference that is not a fragment
abbrev pub IsNoPointer : Text → ReferenceError → Type 0
IsNoPointer s e = (cause : FragmentError) × (e ≡ NotAPointer cause) × IsFragmentErrorOf s cause

pub refuses_text : (document : Data) (ts us : List Text) (s : Text) (n steps : ℕ) (fault : Fault ReferenceError) → n < steps → Follows document ts n us → Refers document us s → IfRefused {T = ℕ} (Err fault) (IsNoPointer s) → IfRefused {T = ℕ} (Err fault) (RefusesReference document ts steps)
refuses_text document ts us s n steps (Refused e) less follows refers (cause, is, bad) =
    subst (λ (x : ReferenceError). RefusesReference document ts steps x) (sym is) (n, us, s, less, follows, refers, bad)
refuses_text document ts us s n steps (Memory e) less follows refers h = tt
