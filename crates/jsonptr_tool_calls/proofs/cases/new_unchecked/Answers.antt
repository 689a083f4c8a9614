use Rattle.std.proofs.Common.{refl}
use Rattle.jsonptr.proofs.Calling.{IsPointer-from_tokens}
use Rattle.jsonptr_tool_calls.proofs.cases.new_unchecked.Goals as goal

pub new_unchecked-pointer-requires : goal.new_unchecked-pointer-requires
new_unchecked-pointer-requires c = IsPointer-from_tokens _ refl
