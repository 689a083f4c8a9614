-- Which document a handle holds.
use Rattle.std.specs.Prelude.{◌≡◌, true, false, Some, option_map}
use Rattle.serde_json.specs.View.{view}
use Rattle.serde_json.specs.declared.value.Value.{Value}
use Rattle.jsonptr_c_calls.specs.declared.handle.Handle.{Handle}

-- `Holds d v`: the handle `d` holds the document `v`
abbrev pub Holds : Handle → Value → Type 0
Holds d v = (d.is_full ≡ true) × (d.slot.content ≡ Some v)

-- `IsEmpty d`: the handle `d` holds no document
abbrev pub IsEmpty : Handle → Type 0
IsEmpty d = d.is_full ≡ false

-- `Keeps d n`: the handle `n` holds the same JSON value as `d`, or both hold no document
abbrev pub Keeps : Handle → Handle → Type 0
Keeps d n = (n.is_full ≡ d.is_full)
    × (d.is_full ≡ true → option_map view n.slot.content ≡ option_map view d.slot.content)
