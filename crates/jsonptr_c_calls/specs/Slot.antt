-- What a slot owns.
use base.Fml.{Fml, ftrue, fex}
use denote.RawPtr.{Ptr}
use Rattle.std.specs.Prelude.{Option, Some, None}
use Rattle.std.specs.Box.Ownership.{box_owns}
use Rattle.std.specs.declared.alloc.Global.{Global}
use Rattle.std.specs.contracts.impls.GlobalAllocator.TheImpl.{ghosts}
use Rattle.serde_json.specs.declared.value.Value.{Value}
use Rattle.serde_json.specs.contracts.value.Value.{the_row}

-- `slot_owns p content`: at the address `p` is the value `content`, which may be freed; or nothing is owned
abbrev pub slot_owns : Ptr → Option Value → Fml
slot_owns p None = ftrue
slot_owns p (Some v) = fex Global (λ heap. box_owns (ghosts.dealloc_token heap) the_row p v)
