-- What a test finds in the parts of a value. Used only by private contracts; no public contract depends on this file.
use Rattle.std.specs.Prelude.{◌≡◌, ℕ, ◌<◌, ◌⊎◌, ℤ, List, length, slice_index_or, String, Option, Some, None, IsSome, ⊤}
use Rattle.std.specs.BTreeMap.{BTreeMap, get_by_text}
use Rattle.std.specs.declared.alloc.Global.{Global}
use Rattle.serde_json.specs.Data.{Num}
use Rattle.serde_json.specs.Find.{as_integer}
use Rattle.serde_json.specs.View.{view}
use Rattle.serde_json.specs.declared.value.Value.{Value}
use Rattle.jsonptr.specs.Json.{nodes}
use Rattle.jsonptr.specs.Text.{Text}
use Rattle.jsonptr_patch.specs.Failing.{test_float, test_failed}
use Rattle.jsonptr_patch.specs.Testing.{NumericallyEqual, IsEqualBy, HasFloat}
use Rattle.jsonptr_patch.specs.declared.comparison.Comparison.{Comparison}
use Rattle.jsonptr_patch.specs.declared.comparison.Comparison.TheVariants.{Strict, Numeric}
use Rattle.jsonptr_patch.specs.declared.failed_operation.FailedOperation.{FailedOperation}

-- `SameValueBy c v w`: the two values are equal for a test that compares as `c`
abbrev pub SameValueBy : Comparison → Value → Value → Type 0
SameValueBy c v w = IsEqualBy c (nodes (view v)) (nodes (view w))

-- `SameValue v w`: the two values are equal for a strict test
abbrev pub SameValue : Value → Value → Type 0
SameValue v w = SameValueBy Strict v w

-- `FloatIn v`: value `v` contains a float
abbrev pub FloatIn : Value → Type 0
FloatIn v = HasFloat (nodes (view v))

-- `FloatAmong vs`: one of the elements `vs` contains a float
abbrev pub FloatAmong : List Value → Type 0
FloatAmong vs = (i : ℕ) × (x : Value) × (i < length vs) × FloatIn (slice_index_or vs i x)

abbrev pub Object : Type 0
Object = BTreeMap (String Global) Value

-- `FloatUnder m`: one of the members of `m` contains a float
abbrev pub FloatUnder : Object → Type 0
FloatUnder m = (k : Text) × (v : Value) × (get_by_text m k ≡ Some v) × FloatIn v

-- `SameNumber n m`: both numbers are the same integer
abbrev pub SameNumber : Num → Num → Type 0
SameNumber n m = (z : ℤ) × (as_integer n ≡ Some z) × (as_integer m ≡ Some z)

-- `SameNumberBy c n m`: both numbers are equal for a test that compares as `c`
abbrev pub SameNumberBy : Comparison → Num → Num → Type 0
SameNumberBy Strict n m = SameNumber n m
SameNumberBy Numeric n m = NumericallyEqual n m

-- `SameElements c vs ws`: there are as many elements in `vs` as in `ws`, and they are equal
abbrev pub SameElements : Comparison → List Value → List Value → Type 0
SameElements c vs ws =
    (length vs ≡ length ws)
    × ((i : ℕ) (x : Value) → i < length vs
    → SameValueBy c (slice_index_or vs i x) (slice_index_or ws i x))

-- `SameMember c o p`: neither value exists, or they are equal
abbrev pub SameMember : Comparison → Option Value → Option Value → Type 0
SameMember c None None = ⊤
SameMember c (Some v) (Some w) = SameValueBy c v w
SameMember c o p = ⊥

-- `SameMembers c m n`: the objects have equal members under each key
abbrev pub SameMembers : Comparison → Object → Object → Type 0
SameMembers c m n = (k : Text) → SameMember c (get_by_text m k) (get_by_text n k)

-- `HasKeys m n`: `m` has a member under each key of `n`
abbrev pub HasKeys : Object → Object → Type 0
HasKeys m n = (k : Text) → IsSome (get_by_text n k) → IsSome (get_by_text m k)

-- `IsPlain v`: value `v` contains no float
abbrev pub IsPlain : Value → Type 0
IsPlain v = FloatIn v → ⊥

-- `RefusesCompare k v w e`: comparing `v` with `w` fails with `e`, for operation number `k`
abbrev pub RefusesCompare : ℕ → Value → Value → FailedOperation → Type 0
RefusesCompare k v w e =
    ((e ≡ test_float k) × (FloatIn v ⊎ FloatIn w))
    ⊎ ((e ≡ test_failed k) × IsPlain v × IsPlain w × (SameValue v w → ⊥))

-- `DiffersNumerically k v w e`: `v` and `w` are not numerically equal, and `e` reports that, for operation number `k`
abbrev pub DiffersNumerically : ℕ → Value → Value → FailedOperation → Type 0
DiffersNumerically k v w e = (e ≡ test_failed k) × (SameValueBy Numeric v w → ⊥)
