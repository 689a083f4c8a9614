-- The error of a call that can fail with an error of its own and can also run out of memory.
use Rattle.std.specs.Prelude.{◌≡◌, Result, Ok, Err, Option, Some, ⊤, codes}
use Rattle.std.specs.declared.alloc.AllocError.{AllocError}
use Rattle.jsonptr_grammar.specs.Text.{Text}
use Rattle.jsonptr_base.specs.declared.fault.Fault.{Fault}
use Rattle.jsonptr_base.specs.declared.fault.Fault.TheVariants.{Refused, Memory}

-- `IfRefused result P`: if the call failed with an error of its own, the error meets `P`
abbrev pub IfRefused : {T E : Type 0} → Result T (Fault E) → (E → Type 0) → Type 0
IfRefused (Ok v) P = ⊤
IfRefused (Err (Refused e)) P = P e
IfRefused (Err (Memory e)) P = ⊤

-- `HasMemory result`: no allocation failed
abbrev pub HasMemory : {T E : Type 0} → Result T (Fault E) → Type 0
HasMemory (Ok v) = ⊤
HasMemory (Err (Refused e)) = ⊤
HasMemory (Err (Memory e)) = ⊥

-- `IsRefused result`: the call failed with an error of its own
abbrev pub IsRefused : {T E : Type 0} → Result T (Fault E) → Type 0
IsRefused (Ok v) = ⊥
IsRefused (Err (Refused e)) = ⊤
IsRefused (Err (Memory e)) = ⊥

-- `refused_of fault` is the error of the call as `Ok`, or the failed allocation as `Err`
abbrev pub refused_of : {E : Type 0} → Fault E → Result E AllocError
refused_of (Refused e) = Ok e
refused_of (Memory e) = Err e

-- `ForRefused fault P`: if `fault` is an error of the call, that meets `P`
abbrev pub ForRefused : {E : Type 0} → Fault E → (E → Type 0) → Type 0
ForRefused (Refused e) P = P e
ForRefused (Memory e) P = ⊤

-- `IsRefusedAnd fault P`: `fault` is an error of the call, and that meets `P`
abbrev pub IsRefusedAnd : {E : Type 0} → Fault E → (E → Type 0) → Type 0
IsRefusedAnd (Refused e) P = P e
IsRefusedAnd (Memory e) P = ⊥

-- `Maps fault P other`: both are errors of a call, related by `P`, or both are the same failed
-- allocation
abbrev pub Maps : {E F : Type 0} → Fault E → (E → F → Type 0) → Fault F → Type 0
Maps (Refused e) P fault = IsRefusedAnd fault (P e)
Maps (Memory e) P fault = fault ≡ Memory e

-- `fault_text shows fault` is what `fault` displays: the error of the call by `shows`, or that an
-- allocation failed
abbrev pub fault_text : {E : Type 0} → (E → Option Text) → Fault E → Option Text
fault_text shows (Refused e) = shows e
fault_text shows (Memory e) = Some (codes "out of memory")
