-- Floats of the same bits.
use Rattle.std.proofs.Common.{◌≡◌, true, Float, sym, ap, ◌∙◌, subst, T, to_bits}
use Rattle.std.specs.Float.{binary64}
use Rattle.std.specs.Float.Ieee
use lib.Ieee.Bits.{of_bits-to_bits}

-- a float that fits 64 bits is read from its own bits
from_bits : (x : Float) → Ieee.fits binary64 x ≡ true → Ieee.of_bits binary64 (to_bits binary64 x) ≡ x
from_bits x fits = of_bits-to_bits binary64 x (subst T (sym fits) tt)

pub same_bits : (x y : Float) → Ieee.fits binary64 x ≡ true → Ieee.fits binary64 y ≡ true → to_bits binary64 x ≡ to_bits binary64 y → x ≡ y
same_bits x y left right same = sym (from_bits x left) ∙ ap (Ieee.of_bits binary64) same ∙ from_bits y right
