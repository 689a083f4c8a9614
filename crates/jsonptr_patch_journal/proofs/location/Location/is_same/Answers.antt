use Rattle.std.proofs.Common.{◌≡◌, ap, string_bytes, sym, true≢false}
use Rattle.std.specs.Bool.{Decides}
use Rattle.std.proofs.lemmas.Bool.Decides.{Decides-eqb}
use Rattle.std.proofs.lemmas.Slice.Eq.{bytes_eq-Decides}
use Rattle.jsonptr.specs.Node.{key, place}
use Rattle.jsonptr_patch_journal.specs.declared.location.LocationStep.{LocationStep}
use Rattle.jsonptr_patch_journal.specs.declared.location.LocationStep.TheVariants as step
use Rattle.jsonptr_patch_journal.specs.Location.{path_step}
use Rattle.jsonptr_patch_journal.proofs.LocationLemmas.{same_steps}
use Rattle.jsonptr_patch_journal.specs.contracts.location.LocationStepPartialEq.TheImpl as the_impl
use Rattle.jsonptr_patch_journal.proofs.location.Location.is_same.Goals as goal

decides : (p q : LocationStep) → Decides (the_impl.eq-value.it p q) (path_step p ≡ path_step q)
decides (step.Key k) (step.Key l) =
    (λ h. ap key ((bytes_eq-Decides (string_bytes k) (string_bytes l)).0 h), λ h. let same : string_bytes k ≡ string_bytes l = cc in (bytes_eq-Decides (string_bytes k) (string_bytes l)).1 same)
decides (step.Key k) (step.Index j) = (λ h. absurd (true≢false (sym h)), λ h. let no : ⊥ = cc in absurd no)
decides (step.Index i) (step.Key l) = (λ h. absurd (true≢false (sym h)), λ h. let no : ⊥ = cc in absurd no)
decides (step.Index i) (step.Index j) = (λ h. ap place ((Decides-eqb i j).0 h), λ h. let same : i ≡ j = cc in (Decides-eqb i j).1 same)

pub returns : goal.returns
returns c = same_steps _ decides _ _ _ c.eq.ensures
