-- Values that are assigned in a document in a handle, and why one is not.
use Rattle.std.specs.Prelude.{◌≡◌, ◌⊎◌, ℕ, Float, IsFalse, IsTrue, IsUtf8, List}
use Rattle.std.specs.Float.{float_is_finite}
use Rattle.serde_json.specs.Data.{Data}
use Rattle.serde_json.specs.View.{view}
use Rattle.jsonptr_c_calls.specs.Editing.{AssignsAtPointer, IsNotAssigned}
use Rattle.jsonptr_c_calls.specs.Failures.{FailsOnHandle, IsNotUtf8, IsOutOfMemory}
use Rattle.jsonptr_c_calls.specs.Values.{Changes}
use Rattle.jsonptr_c_calls.specs.declared.handle.Handle.{Handle}
use Rattle.jsonptr_c_calls.specs.declared.call_error.Argument.TheVariants as argument
use Rattle.jsonptr_c_calls.specs.declared.call_error.CallError.{CallError}
use Rattle.jsonptr_c_calls.specs.declared.call_error.CallError.TheVariants.{NotFinite}

-- `AssignsInHandle d bytes v n`: the handles `d` and `n` hold a document before and after the value `v` is assigned at the
-- pointer `bytes`
abbrev pub AssignsInHandle : Handle → List ℕ → Data → Handle → Type 0
AssignsInHandle d bytes v n = Changes d (λ old new. AssignsAtPointer old bytes v new) n

-- `IsValueNotAssigned d bytes e`: nothing is assigned at the pointer `bytes` in the document in the handle `d`, and `e` reports
-- why
abbrev pub IsValueNotAssigned : Handle → List ℕ → CallError → Type 0
IsValueNotAssigned d bytes e = FailsOnHandle d (λ v. IsNotAssigned (view v) bytes e) e

-- `IsStringNotAssigned s d bytes e`: the string `s` is not UTF-8, or it is not assigned at the pointer `bytes` in the document in
-- the handle `d`, or an allocation failed, and `e` reports that
abbrev pub IsStringNotAssigned : List ℕ → Handle → List ℕ → CallError → Type 0
IsStringNotAssigned s d bytes e =
    IsNotUtf8 argument.Text s e ⊎ (IsOutOfMemory e ⊎ (IsUtf8 s × IsValueNotAssigned d bytes e))

-- `IsNumberNotAssigned x d bytes e`: the number `x` is NaN or infinite, or it is not assigned at the pointer `bytes` in the
-- document in the handle `d`, and `e` reports that
abbrev pub IsNumberNotAssigned : Float → Handle → List ℕ → CallError → Type 0
IsNumberNotAssigned x d bytes e =
    (IsFalse (float_is_finite x) × (e ≡ NotFinite)) ⊎ (IsTrue (float_is_finite x) × IsValueNotAssigned d bytes e)
