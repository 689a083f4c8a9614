-- What is left of a search for a float. Used only by private contracts; no public contract depends on this file.
use Rattle.std.specs.Prelude.{ℕ, ◌+◌, List, [], ◌∷◌, ⊤}
use Rattle.serde_json.specs.declared.value.Value.{Value}
use Rattle.serde_json.proofs.Views.{Entry}
use Rattle.jsonptr_value.specs.Lengths.{elements_length, members_length}
use Rattle.jsonptr_patch.specs.PrivateTesting.{FloatIn}
use Rattle.jsonptr_patch.specs.declared.float_search.Left.{Left}
use Rattle.jsonptr_patch.specs.declared.float_search.Left.TheVariants.{Elements, Members}

-- `ElementsLeadTo v xs`, `MembersLeadTo v es`, `LeadsTo v left`, `AllLeadTo v ls`: a float in a child that is left is one
-- in `v`
abbrev pub ElementsLeadTo : Value → List Value → Type 0
ElementsLeadTo v [] = ⊤
ElementsLeadTo v (x ∷ xs) = (FloatIn x → FloatIn v) × ElementsLeadTo v xs

abbrev pub MembersLeadTo : Value → List Entry → Type 0
MembersLeadTo v [] = ⊤
MembersLeadTo v (e ∷ es) = (FloatIn e.1 → FloatIn v) × MembersLeadTo v es

abbrev pub LeadsTo : Value → Left → Type 0
LeadsTo v (Elements xs) = ElementsLeadTo v xs.now
LeadsTo v (Members es) = MembersLeadTo v es

abbrev pub AllLeadTo : Value → List Left → Type 0
AllLeadTo v [] = ⊤
AllLeadTo v (l ∷ ls) = LeadsTo v l × AllLeadTo v ls

-- `ElementsLack xs`: no element has a float
abbrev pub ElementsLack : List Value → Type 0
ElementsLack [] = ⊤
ElementsLack (x ∷ xs) = (FloatIn x → ⊥) × ElementsLack xs

abbrev pub MembersLack : List Entry → Type 0
MembersLack [] = ⊤
MembersLack (e ∷ es) = (FloatIn e.1 → ⊥) × MembersLack es

abbrev pub Lacks : Left → Type 0
Lacks (Elements xs) = ElementsLack xs.now
Lacks (Members es) = MembersLack es

abbrev pub AllLack : List Left → Type 0
AllLack [] = ⊤
AllLack (l ∷ ls) = Lacks l × AllLack ls

abbrev pub left_length : Left → ℕ
left_length (Elements xs) = elements_length xs.now
left_length (Members es) = members_length es

abbrev pub stack_length : List Left → ℕ
stack_length [] = 0
stack_length (l ∷ ls) = left_length l + stack_length ls
