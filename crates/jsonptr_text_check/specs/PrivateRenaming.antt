-- Words of private clauses: two objects that are read side by side, of which one member has another key in the second.
use Rattle.std.specs.Prelude.{◌≡◌, ℕ, List, Bool, true, false, None}
use Rattle.serde_json.specs.Data.{Data, Members}
use Rattle.serde_json.specs.Find.{get_member}
use Rattle.jsonptr_text_check.specs.Editing.{RenamesKey}

-- `MayPass done named taken`: a member does not have the new key, and the old one only if no earlier member had it
abbrev pub MayPass : Bool → Bool → Bool → Type 0
MayPass done named taken = (taken ≡ false) × (named ≡ true → done ≡ false)

-- `IsKeyAfter named name to key`: `key` is `to` if the member has the old key, and its name if not
abbrev pub IsKeyAfter : Bool → List ℕ → List ℕ → List ℕ → Type 0
IsKeyAfter true name to key = key ≡ to
IsKeyAfter false name to key = key ≡ name

-- `MembersRenamed done from to ms ms2`: of the members `ms` and `ms2`, which were read, one has the other key if done. If not,
-- they are the same, and none has one of the two keys
abbrev pub MembersRenamed : Bool → List ℕ → List ℕ → Members → Members → Type 0
MembersRenamed true from to ms ms2 = (e : Data) × RenamesKey from to e ms ms2
MembersRenamed false from to ms ms2 = (get_member from ms ≡ None) × (get_member to ms ≡ None) × (ms2 ≡ ms)
