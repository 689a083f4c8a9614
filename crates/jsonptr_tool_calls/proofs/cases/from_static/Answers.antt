use Rattle.std.proofs.Common.{refl}
use Rattle.jsonptr.proofs.Calling.{IsPointer-from_tokens}
use Rattle.jsonptr_tool_calls.proofs.cases.from_static.Goals as goal

pub from_static-pointer-requires : goal.from_static-pointer-requires
from_static-pointer-requires c = IsPointer-from_tokens _ refl
