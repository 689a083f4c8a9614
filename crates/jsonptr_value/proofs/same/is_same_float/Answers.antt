use Rattle.std.proofs.Common.{ap, eqb-true, eq-eqb, to_bits}
use Rattle.std.specs.Float.{binary64}
use Rattle.jsonptr_value.proofs.SameLemmas.{same_bits}
use Rattle.jsonptr_value.proofs.same.is_same_float.Goals as goal

pub returns : goal.returns
returns c =
    rw (c.f64_to_bits_with_nan.ensures, c.f64_to_bits_with_nan-2.ensures) (
      λ same. same_bits c.args.left c.args.right c.well_formed.0.1 c.well_formed.1.0.1 (eqb-true _ _ same),
      λ same. eq-eqb _ _ (ap (to_bits binary64) same),
    )
