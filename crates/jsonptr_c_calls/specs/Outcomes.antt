-- A call that fails, as C receives it.
use Rattle.std.specs.Prelude.{◌≡◌, ◌==◌, ℕ, List, if◌then◌else◌}
use Rattle.jsonptr_c_calls.specs.declared.error_numbers.TheConstants as number
use Rattle.jsonptr_c_calls.specs.ErrorNumbers.{record_of, status_number}
use Rattle.jsonptr_c_calls.specs.declared.call_error.CallError.{CallError}
use Rattle.jsonptr_c_calls.specs.declared.call_error.CallError.TheVariants.{NoRoom}
use Rattle.jsonptr_c_calls.specs.declared.error_numbers.ErrorRecord.{ErrorRecord}

-- `Reports e bytes status r`: the status and the record `r` report the error `e` of a call with the pointer `bytes`
abbrev pub Reports : CallError → List ℕ → ℕ → ErrorRecord → Type 0
Reports e bytes status r = (status ≡ status_number e) × (r ≡ record_of e bytes)

-- `ReportsLength e old new`: `new` is the length that a result needs if `e` reports a short buffer. Else it is `old`
abbrev pub ReportsLength : CallError → ℕ → ℕ → Type 0
ReportsLength (NoRoom needed) old new = new ≡ needed
ReportsLength e old new = new ≡ old

-- `IsLengthOf r old new`: `new` is the length that a result needs if the record `r` reports a short buffer. Else it is
-- `old`
abbrev pub IsLengthOf : ErrorRecord → ℕ → ℕ → Type 0
IsLengthOf r old new = new ≡ (if r.status == number.NO_ROOM then r.length else old)
