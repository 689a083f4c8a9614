use Rattle.std.proofs.Common.{T, ◌↔◌, false, pos, Float, refl, sym, ◌∙◌, subst, arith, true≢false, eqb-true, eq-eqb}
use Rattle.std.specs.Float.{fin}
use Rattle.std.specs.Float.Ieee
use Rattle.jsonptr_patch.proofs.NumberLemmas.{small_integer, large_integer, above_all, top_is, tested_itself}
use Rattle.jsonptr_patch.proofs.number.is_unsigned.Goals as goal

pub returns-then-whole : goal.returns-then-whole
returns-then-whole c =
    let small = small_integer c.args.whole c.args.float (omega (arith, c.if-whole.true)) in
    let same = subst (λ (x : Float). T (Ieee.eq x c.args.float) ↔ T (Ieee.eq (fin false c.args.whole (pos 0)) c.args.float)) (sym c.nearest_u64_to_f64.ensures) small in
    let test = tested_itself _ _ refl in
    (λ h. same.0 (test.0 h), λ t. test.1 (same.1 t))

pub returns-then-float : goal.returns-then-float
returns-then-float c =
    let large = large_integer c.args.whole c.args.float (omega (arith, c.if-whole.false)) c.well_formed.1.0.1 (rw top_is at c.if-float.true) in
    (λ h. large.0 (sym c.saturating_f64_to_u64.ensures ∙ eqb-true _ _ h), λ t. eq-eqb _ _ (c.saturating_f64_to_u64.ensures ∙ large.1 t))

pub returns-else-float : goal.returns-else-float
returns-else-float c = (
  λ h. absurd (true≢false (sym h ∙ c.if-float.false)),
  λ t. absurd (above_all c.args.whole c.args.float c.ranges.whole.fits (omega (arith, c.if-whole.false)) (rw top_is at c.if-float.false) t),
)
