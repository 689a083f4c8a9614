use Rattle.std.proofs.Common.{take, string_bytes}
use Rattle.jsonptr_text_step.specs.OneLine.{StaysOneLine}
use Rattle.jsonptr_uses.specs.SettingsInPlace.{AreSet}
use Rattle.jsonptr_uses.proofs.settings_in_place.set_in_place.Given as goal

abbrev pub invariant-edits : goal.invariant-edits
invariant-edits l =
    AreSet (string_bytes l.fn.text) (take l.edit-index l.edits) l.settings.is_set.items (string_bytes l.settings.text)
    × StaysOneLine (string_bytes l.fn.text) (string_bytes l.settings.text)
