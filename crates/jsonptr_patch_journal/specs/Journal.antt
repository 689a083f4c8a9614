-- A journal: what undoes a list of changes, the last one first, in pages of a few entries.
use Rattle.std.specs.Prelude.{◌≡◌, ◌<◌, List, [], ◌∷◌, length, Vec}
use Rattle.std.specs.Vec.{vec_capacity}
use Rattle.std.specs.declared.alloc.Global.{Global}
use Rattle.jsonptr.specs.Text.{HasNoTilde, text}
use Rattle.jsonptr.specs.Content.{Content}
use Rattle.jsonptr_patch_journal.specs.Location.{path_of, contents_of}
use Rattle.jsonptr_patch_journal.specs.Children.{members_of}
use Rattle.jsonptr_patch_journal.specs.Writing.{At}
use Rattle.jsonptr_patch_journal.specs.Leading.{AtNamed}
use Rattle.jsonptr_patch_journal.specs.Changes.{ReplacesContent}
use Rattle.jsonptr_patch_journal.specs.Rooms.{LeavesMembers}
use Rattle.jsonptr_patch_journal.specs.Undoing.{IsAddition, IsRemoval}
use Rattle.jsonptr_patch_journal.specs.declared.journal.Entry.{Entry}
use Rattle.jsonptr_patch_journal.specs.declared.journal.Entry.TheVariants.{Added, Removed, Moved, RemovedMembers, Replaced}
use Rattle.jsonptr_patch_journal.specs.declared.journal.Journal.{Journal}

-- `IsEntryOf e c d`: a change turned `c` into `d`, and the entry `e` undoes it
abbrev pub IsEntryOf : Entry → Content → Content → Type 0
IsEntryOf (Added a) c d = (v : Content) × IsAddition a v c d
IsEntryOf (Removed r v) c d = IsRemoval r (contents_of v) c d
IsEntryOf (Moved r a) c d = (v b : Content) × IsRemoval r v c b × IsAddition a v b d
IsEntryOf (RemovedMembers l room) c d = At (path_of l) (LeavesMembers (members_of room)) c d
IsEntryOf (Replaced p v) c d = HasNoTilde (text p) × (w : Content) × AtNamed p (ReplacesContent (contents_of v) w) c d

-- `Chain es c d`: changes turned `c` into `d`, and the entries `es`, from the last to the first, undo them
abbrev pub Chain : List Entry → Content → Content → Type 0
Chain [] c d = d ≡ c
Chain (e ∷ es) c d = (b : Content) × IsEntryOf e c b × Chain es b d

-- `Pages ps c d`: changes turned `c` into `d`, and the entries of the pages `ps`, from the last to the first, undo them
abbrev pub Pages : List (Vec Entry Global) → Content → Content → Type 0
Pages [] c d = d ≡ c
Pages (p ∷ ps) c d = (b : Content) × Chain p.items c b × Pages ps b d

-- `Undone j c d`: undoing the journal `j` turns `d` back into `c`
pub record Undone (j : Journal) (c d : Content) : Type 0 where
  pub between : Content
  pub pages : Pages j.full.items c between
  pub page : Chain j.entries.items between d

-- `HasRoom j`: the journal `j` has room for one more entry
abbrev pub HasRoom : Journal → Type 0
HasRoom j = length j.entries.items < vec_capacity j.entries
