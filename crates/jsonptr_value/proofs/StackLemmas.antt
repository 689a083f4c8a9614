-- What is on the stack, when a frame comes onto it.
use Rattle.std.proofs.Common.{◌≡◌, ◌+◌, List, [], ◌∷◌, ◌++◌, refl, sym, subst, arith}
use Rattle.json.specs.Token.{Token}
use Rattle.jsonptr_value.specs.declared.frame.Frame.{Frame}
use Rattle.jsonptr_value.specs.PrivateFrames.{WritesFrame, WritesStack, frame_length, stack_length}

-- the last frame is written first
pub last_first : (fs : List Frame) (f : Frame) (old new : List Token) → WritesStack (fs ++ f ∷ []) old new → (middle : List Token) × WritesFrame f old middle × WritesStack fs middle new
last_first [] f old new h = (new, subst (λ (m : List Token). WritesFrame f m new) h.1 h.2, refl)
last_first (g ∷ fs) f old new h =
    let s = last_first fs f old h.0 h.1 in
    (s.0, s.1, (h.0, s.2, h.2))

-- and a frame that is written first goes back last
pub back_last : (fs : List Frame) (f : Frame) (old middle new : List Token) → WritesFrame f old middle → WritesStack fs middle new → WritesStack (fs ++ f ∷ []) old new
back_last [] f old middle new w h = (old, refl, subst (λ (m : List Token). WritesFrame f old m) (sym h) w)
back_last (g ∷ fs) f old middle new w h = (h.0, back_last fs f old middle h.0 w h.1, h.2)

pub stack_length-push : (fs : List Frame) (f : Frame) → stack_length (fs ++ f ∷ []) ≡ stack_length fs + frame_length f
stack_length-push [] f = omega arith
stack_length-push (g ∷ fs) f = let rest = stack_length-push fs f in omega (arith, rest)
