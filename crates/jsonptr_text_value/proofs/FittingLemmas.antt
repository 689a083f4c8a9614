-- Texts that fit an operation.
use Rattle.std.proofs.Common.{None}
use Rattle.jsonptr_patch.specs.declared.operation.Operation.{Operation}
use Rattle.jsonptr_patch.specs.declared.operation.Operation.TheVariants.{Add, Remove, Replace, Move, Copy, Test}
use Rattle.jsonptr_text_value.specs.Fitting.{HasFittingText}

-- no text fits each operation
pub fits_none : (o : Operation) → HasFittingText o None
fits_none (Add path value) = tt
fits_none (Remove path) = tt
fits_none (Replace path value) = tt
fits_none (Move from path) = tt
fits_none (Copy from path) = tt
fits_none (Test path value) = tt
