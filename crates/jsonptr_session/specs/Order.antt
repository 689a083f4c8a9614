-- Properties of the values in the calls and the replies of a session, such as that their keys are sorted.
use Rattle.std.specs.Prelude.{⊤, IfSome}
use Rattle.jsonptr_session.specs.declared.session.Call.{Call}
use Rattle.jsonptr_session.specs.declared.session.Call.TheVariants as call
use Rattle.jsonptr_session.specs.declared.session.Reply.{Reply}
use Rattle.jsonptr_session.specs.declared.session.Reply.TheVariants as reply

-- `CallHas P c`: the value of call `c`, if it has one, has the property `P`
abbrev pub CallHas : {V : Type 0} → (V → Type 0) → Call V → Type 0
CallHas P (call.Write v) = P v
CallHas P (call.Assign v) = P v
CallHas P c = ⊤

-- `ReplyHas P r`: the value in reply `r`, if it has one, has the property `P`
abbrev pub ReplyHas : {V : Type 0} → (V → Type 0) → Reply V → Type 0
ReplyHas P (reply.Value v) = P v
ReplyHas P (reply.Assigned v) = IfSome v P
ReplyHas P (reply.Deleted v) = IfSome v P
ReplyHas P r = ⊤
