use Rattle.std.proofs.Common.{refl}
use Rattle.jsonptr.proofs.Calling.{IsPointer-from_tokens}
use Rattle.jsonptr_conditions.proofs.len_of_constant.Goals as goal

pub from_static-pointer-requires : goal.from_static-pointer-requires
from_static-pointer-requires c = IsPointer-from_tokens _ refl
