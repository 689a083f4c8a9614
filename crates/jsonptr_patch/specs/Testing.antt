-- Which values a test calls equal (RFC 6902, section 4.6).
use Rattle.std.specs.Prelude.{◌≡◌, ◌⊎◌, suc, ℤ, pos, negsuc, T, Bool, true, false, Float, Option, Some, None, option_map, ⊤}
use Rattle.std.specs.Float.{fin}
use Rattle.std.specs.Float.Ieee
use Rattle.serde_json.specs.Data.{Num, unsigned, negative, null, boolean, number, string, array, object, float}
use Rattle.serde_json.specs.Find.{as_integer}
use Rattle.jsonptr.specs.Text.{Text}
use Rattle.jsonptr.specs.Node.{Path, Scalar, of_json, of_toml, Label, an_object, an_array, a_leaf, NodeMap}
use Rattle.jsonptr_patch.specs.declared.comparison.Comparison.{Comparison}
use Rattle.jsonptr_patch.specs.declared.comparison.Comparison.TheVariants.{Strict, Numeric}

-- What a test reads from a scalar: null, a boolean, a string, or an integer, however that is stored
pub data Reading : Type 0 where
  nothing : Reading
  truth : Bool → Reading
  words : Text → Reading
  whole : ℤ → Reading

-- `reading a`: what a test reads from the scalar `a`. A float has no reading
abbrev pub reading : Scalar → Option Reading
reading (of_json null) = Some nothing
reading (of_json (boolean b)) = Some (truth b)
reading (of_json (number n)) = option_map whole (as_integer n)
reading (of_json (string s)) = Some (words s)
reading (of_json (array ds)) = None
reading (of_json (object ms)) = None
reading (of_toml d) = None

-- `SameReading a b`: a test reads the same from the scalars `a` and `b`
abbrev pub SameReading : Scalar → Scalar → Type 0
SameReading a b = (r : Reading) × (reading a ≡ Some r) × (reading b ≡ Some r)

-- `exact a`: the value of the number `a`, without rounding. `fin s m e` is m * 2 ^ e, and negative where `s` is true
abbrev pub exact : Num → Float
exact (unsigned n) = fin false n (pos 0)
exact (negative (pos n)) = fin false n (pos 0)
exact (negative (negsuc n)) = fin true (suc n) (pos 0)
exact (float x) = x

-- `NumericallyEqual a b`: `a` and `b` are the same number, whether each is stored as an integer or as a float. IEEE 754's
-- comparison compares the values as they are, and `0` equals `-0`
abbrev pub NumericallyEqual : Num → Num → Type 0
NumericallyEqual a b = T (Ieee.eq (exact a) (exact b))

-- `SameNumbers a b`: the scalars `a` and `b` are numbers that are numerically equal
abbrev pub SameNumbers : Scalar → Scalar → Type 0
SameNumbers a b = (n m : Num) × (a ≡ of_json (number n)) × (b ≡ of_json (number m)) × NumericallyEqual n m

-- `SameScalarBy c a b`: the scalars `a` and `b` are equal for a test that compares as `c`. Strictly, a float equals nothing.
-- Numerically, it equals each number of the same value
abbrev pub SameScalarBy : Comparison → Scalar → Scalar → Type 0
SameScalarBy Strict a b = SameReading a b
SameScalarBy Numeric a b = SameReading a b ⊎ SameNumbers a b

-- `SameNodeBy c l k`: nodes with these labels are equal. Both are objects, or arrays of the same length, or equal scalars,
-- or neither exists
abbrev pub SameNodeBy : Comparison → Option Label → Option Label → Type 0
SameNodeBy c None None = ⊤
SameNodeBy c (Some an_object) (Some an_object) = ⊤
SameNodeBy c (Some (an_array len)) (Some (an_array k)) = len ≡ k
SameNodeBy c (Some (a_leaf a)) (Some (a_leaf b)) = SameScalarBy c a b
SameNodeBy c l k = ⊥

-- `IsEqualBy c n m`: the two maps are equal for a test that compares as `c`. They have the same paths, and equal nodes at
-- each
abbrev pub IsEqualBy : Comparison → NodeMap → NodeMap → Type 0
IsEqualBy c n m = (w : Path) → SameNodeBy c (n w) (m w)

-- `SameNode l k`: nodes with these labels are equal, where a float equals nothing
abbrev pub SameNode : Option Label → Option Label → Type 0
SameNode l k = SameNodeBy Strict l k

-- `IsEqual n m`: the two maps are equal for a test, where a float equals nothing
abbrev pub IsEqual : NodeMap → NodeMap → Type 0
IsEqual n m = IsEqualBy Strict n m

-- `HasFloat n`: a float is at some path of `n`
abbrev pub HasFloat : NodeMap → Type 0
HasFloat n = (w : Path) × (x : Float) × (n w ≡ Some (a_leaf (of_json (number (float x)))))
