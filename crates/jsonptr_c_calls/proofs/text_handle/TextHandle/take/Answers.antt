use Rattle.std.proofs.Common.{◌≡◌, Option, Some, None, IsTrue, is_some, refl, sym, subst}
use Rattle.std.proofs.lemmas.Bool.{false≢true}
use Rattle.jsonptr_c_calls.specs.declared.open_text.OpenText.{OpenText}
use Rattle.jsonptr_c_calls.specs.declared.text_slot.TextSlot.{TextSlot}
use Rattle.jsonptr_c_calls.proofs.text_handle.TextHandle.take.Goals as goal

-- what is there
held : (o : Option OpenText) → IsTrue (is_some o) → (t : OpenText) × (o ≡ Some t)
held (Some t) h = (t, refl)
held None h = absurd (false≢true h)

pub into_apart-requires : goal.into_apart-requires
into_apart-requires c =
    subst (λ (s : TextSlot). (t : OpenText) × (s.content ≡ Some t)) (sym c.replace-slot.ensures.value)
    (held c.args.self.now.slot.content (c.args.self.now.tied c.if-self.true))
