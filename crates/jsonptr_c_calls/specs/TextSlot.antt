-- What a slot of a text owns.
use base.Fml.{Fml, ftrue, fex}
use denote.RawPtr.{Ptr}
use Rattle.std.specs.Prelude.{Option, Some, None}
use Rattle.std.specs.Box.Ownership.{box_owns}
use Rattle.std.specs.declared.alloc.Global.{Global}
use Rattle.std.specs.contracts.impls.GlobalAllocator.TheImpl.{ghosts}
use Rattle.jsonptr_c_calls.specs.declared.open_text.OpenText.{OpenText}
use Rattle.jsonptr_c_calls.specs.contracts.open_text.OpenText.{the_row}

-- `text_slot_owns p content`: at the address `p` is the text `content`, which may be freed; or nothing is owned
abbrev pub text_slot_owns : Ptr → Option OpenText → Fml
text_slot_owns p None = ftrue
text_slot_owns p (Some v) = fex Global (λ heap. box_owns (ghosts.dealloc_token heap) the_row p v)
