-- The steps of a location.
use Rattle.std.proofs.Common.{◌≡◌, Bool, true, false, ◌&&◌, IsTrue, ◌↔◌, List, [], ◌∷◌, ◌++◌, refl, sym, ap, ap₂, ◌∙◌, true≢false}
use Rattle.std.specs.Bool.{Decides}
use Rattle.std.specs.Cmp.Lexicographic.{pointwise}
use Rattle.jsonptr.specs.Node.{Step, Path}
use Rattle.jsonptr_patch_journal.specs.declared.location.LocationStep.{LocationStep}
use Rattle.jsonptr_patch_journal.specs.Location.{path_step, steps_of}

-- one step more
pub steps_of-push : (ps : List LocationStep) (p : LocationStep) → steps_of (ps ++ p ∷ []) ≡ steps_of ps ++ path_step p ∷ []
steps_of-push [] p = refl
steps_of-push (q ∷ ps) p = ap (λ (w : Path). path_step q ∷ w) (steps_of-push ps p)

-- equality of the steps of locations, given by `E`, is that of the steps of paths
module _ (E : LocationStep → LocationStep → Bool) (same : (p q : LocationStep) → Decides (E p q) (path_step p ≡ path_step q)) where
  both : (ps qs : List LocationStep) → Decides (pointwise E ps qs) (steps_of ps ≡ steps_of qs)
  both [] [] = (λ h. refl, λ h. refl)
  both [] (q ∷ qs) = (λ h. absurd (true≢false (sym h)), λ h. let no : ⊥ = cc in absurd no)
  both (p ∷ ps) [] = (λ h. absurd (true≢false (sym h)), λ h. let no : ⊥ = cc in absurd no)
  both (p ∷ ps) (q ∷ qs) = (
    λ h. let r = split (E p q) (pointwise E ps qs) h in ap₂ (λ (s : Step) (w : Path). s ∷ w) ((same p q).0 r.0) ((both ps qs).0 r.1),
    λ h.
        let one : path_step p ≡ path_step q = cc in
        let more : steps_of ps ≡ steps_of qs = cc in
        ap₂ (λ (a b : Bool). a && b) ((same p q).1 one) ((both ps qs).1 more),
  )
    where
      split : (a b : Bool) → (a && b) ≡ true → (a ≡ true) × (b ≡ true)
      split true b h = (refl, h)
      split false b h = absurd (true≢false (sym h))

  pub same_steps : (ps qs : List LocationStep) (r : Bool) → r ≡ pointwise E ps qs → IsTrue r ↔ (steps_of ps ≡ steps_of qs)
  same_steps ps qs r is = (λ h. (both ps qs).0 (sym is ∙ h), λ h. is ∙ (both ps qs).1 h)
