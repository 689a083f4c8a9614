-- An error, and what is known beside it.
use Rattle.std.proofs.Common.{Result, Ok, Err}
use Rattle.jsonptr.specs.Fault.{IfRefused}
use Rattle.jsonptr.specs.Types.Fault.{Fault}
use Rattle.jsonptr.specs.Types.Fault.TheVariants.{Refused, Memory}

-- an error reports both, if it reports the one, and the other is known
pub refused_in_both : {T E : Type 0} (r : Result T (Fault E)) (A : Type 0) (P : E → Type 0) → A → IfRefused r P → IfRefused r (λ e. A × P e)
refused_in_both (Ok t) A P a h = h
refused_in_both (Err (Refused e)) A P a h = (a, h)
refused_in_both (Err (Memory e)) A P a h = h
