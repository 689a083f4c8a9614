-- Reports of errors, as contracts see them.
use Rattle.std.specs.Prelude.{◌≡◌, Result, Ok, Err}
use Rattle.jsonptr_diagnostic.specs.declared.diagnostic.Report.{Report}

-- `original_of r` is the error of the report `r`
abbrev pub original_of : {E S : Type 0} → Report E S → E
original_of r = r.source

-- `subject_of r` is the value that the error of the report `r` is about
abbrev pub subject_of : {E S : Type 0} → Report E S → S
subject_of r = r.subject

-- `IsDiagnosed result P r`: `r` is `result` with its error turned into a report whose subject meets
-- `P`
abbrev pub IsDiagnosed : {T E S : Type 0} → Result T E → (S → Type 0) → Result T (Report E S) → Type 0
IsDiagnosed (Ok v) P r = r ≡ Ok v
IsDiagnosed (Err e) P (Ok v) = ⊥
IsDiagnosed (Err e) P (Err report) = (original_of report ≡ e) × P (subject_of report)
