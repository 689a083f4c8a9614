-- Which text a handle holds.
use Rattle.std.specs.Prelude.{◌≡◌, ◌⊎◌, true, false, Some, option_map}
use Rattle.jsonptr_c_calls.specs.declared.call_error.CallError.{CallError}
use Rattle.jsonptr_c_calls.specs.declared.call_error.CallError.TheVariants.{NoDocument}
use Rattle.jsonptr_c_calls.specs.declared.open_text.OpenText.{OpenText}
use Rattle.jsonptr_c_calls.specs.declared.text_handle.TextHandle.{TextHandle}

-- `HoldsText d t`: the handle `d` holds the text `t`
abbrev pub HoldsText : TextHandle → OpenText → Type 0
HoldsText d t = (d.is_full ≡ true) × (d.slot.content ≡ Some t)

-- `IsVacant d`: the handle `d` holds no text
abbrev pub IsVacant : TextHandle → Type 0
IsVacant d = d.is_full ≡ false

-- `HoldsTextWith d P`: the handle `d` holds a text that meets `P`
abbrev pub HoldsTextWith : TextHandle → (OpenText → Type 0) → Type 0
HoldsTextWith d P = (t : OpenText) × HoldsText d t × P t

-- `ChangesText d P n`: the handles `d` and `n` hold texts that `P` relates
abbrev pub ChangesText : TextHandle → (OpenText → OpenText → Type 0) → TextHandle → Type 0
ChangesText d P n = (t u : OpenText) × HoldsText d t × HoldsText n u × P t u

-- `KeepsText d n`: the handle `n` holds the same text in the same format as `d`, or both hold no text
abbrev pub KeepsText : TextHandle → TextHandle → Type 0
KeepsText d n = (n.is_full ≡ d.is_full)
    × (d.is_full ≡ true → (option_map (λ t. t.text) n.slot.content ≡ option_map (λ t. t.text) d.slot.content)
    × (option_map (λ t. t.format) n.slot.content ≡ option_map (λ t. t.format) d.slot.content))

-- `FailsOnText d P e`: the handle `d` holds no text, and `e` reports that, or it holds one that meets `P`
abbrev pub FailsOnText : TextHandle → (OpenText → Type 0) → CallError → Type 0
FailsOnText d P e = ((e ≡ NoDocument) × IsVacant d) ⊎ ((t : OpenText) × HoldsText d t × P t)
