-- What undoes an addition and a removal.
use Rattle.std.specs.Prelude.{◌≡◌, ⊤, option_map, string_bytes}
use Rattle.serde_json.specs.declared.value.Value.{Null}
use Rattle.jsonptr.specs.Text.{HasNoTilde, text}
use Rattle.jsonptr.specs.Content.{Content}
use Rattle.jsonptr_patch_journal.specs.Location.{path_of, contents_of}
use Rattle.jsonptr_patch_journal.specs.Children.{members_of}
use Rattle.jsonptr_patch_journal.specs.Writing.{At}
use Rattle.jsonptr_patch_journal.specs.Leading.{AtNamed}
use Rattle.jsonptr_patch_journal.specs.Changes.{HasAt, IsObjectContent, HasAtLeast, ReplacesContent, PutsMember, AddsMember, PutsElement}
use Rattle.jsonptr_patch_journal.specs.Rooms.{LeavesRoom, LeavesElementRoom}
use Rattle.jsonptr_patch_journal.specs.declared.addition.Target.{Target}
use Rattle.jsonptr_patch_journal.specs.declared.addition.Target.TheVariants as target
use Rattle.jsonptr_patch_journal.specs.declared.addition.Addition.{Addition}
use Rattle.jsonptr_patch_journal.specs.declared.addition.Addition.TheVariants as addition
use Rattle.jsonptr_patch_journal.specs.declared.removal.Removal.{Removal}
use Rattle.jsonptr_patch_journal.specs.declared.removal.Removal.TheVariants as removal

-- `CanAdd t c`: the content `c` has the object or the array of the target `t`, and the array is long enough
abbrev pub CanAdd : Target → Content → Type 0
CanAdd target.Root c = ⊤
CanAdd (target.Member l k) c = HasAt (path_of l) IsObjectContent c
CanAdd (target.Element l i) c = HasAt (path_of l) (HasAtLeast i) c

-- `AddsAt t v c d`: the content `c` with `v` added at the target `t` is `d`
abbrev pub AddsAt : Target → Content → Content → Content → Type 0
AddsAt target.Root v c d = d ≡ v
AddsAt (target.Member l k) v c d = At (path_of l) (PutsMember (string_bytes k) v) c d
AddsAt (target.Element l i) v c d = At (path_of l) (PutsElement i v) c d

-- `IsAddition a v c d`: adding `v` turned `c` into `d`, and `a` undoes it
abbrev pub IsAddition : Addition → Content → Content → Content → Type 0
IsAddition (addition.Replaced l w) v c d = At (path_of l) (ReplacesContent (contents_of w) v) c d
IsAddition (addition.Member l k old) v c d = At (path_of l) (AddsMember (string_bytes k) (option_map contents_of old) v) c d
IsAddition (addition.Element l i) v c d = At (path_of l) (PutsElement i v) c d

-- `IsRemoval r v c d`: removing `v` turned `c` into `d`, and `r` undoes it
abbrev pub IsRemoval : Removal → Content → Content → Content → Type 0
IsRemoval removal.Root v c d = c ≡ v
IsRemoval (removal.Blank l) v c d = At (path_of l) (ReplacesContent v (contents_of Null)) c d
IsRemoval (removal.BlankAt p) v c d = HasNoTilde (text p) × AtNamed p (ReplacesContent v (contents_of Null)) c d
IsRemoval (removal.Member l k room) v c d = At (path_of l) (LeavesRoom (string_bytes k) (members_of room) v) c d
IsRemoval (removal.Element l i room) v c d = At (path_of l) (LeavesElementRoom i room v) c d
