-- Replacing the text of a file on a system that can stop at any moment.
use Rattle.std.specs.Prelude.{◌≡◌, ◌⊎◌, ◌++◌, ◌↔◌, List, [], ◌∷◌, Bool, true, false, Result, Ok, Err, Contains, ⊤}
use Rattle.jsonptr.specs.Text.{Text}
use Rattle.jptr_tasks.specs.declared.replacement.Event.{Event}
use Rattle.jptr_tasks.specs.declared.replacement.Event.TheVariants.{Create, Write, TakeRights, Sync, Look, Rename, SyncFolder, Remove}

-- `Tries call before result after`: `after` are the calls `before` and then this one, if it was made
abbrev pub Tries : {E : Type 0} → (Bool → Event) → List Event → Result (Unit {0}) E → List Event → Type 0
Tries call before (Ok x) after = after ≡ call true ∷ before
Tries call before (Err e) after = (after ≡ call false ∷ before) ⊎ (after ≡ before)

-- `HasText new es t`: after the calls `es`, the latest first, of which each that writes appends the text `new`, the file that was
-- created has the text `t`, under whichever name. A write that failed appended any bytes, and a file that was removed is gone
abbrev pub HasText : Text → List Event → Text → Type 0
HasText new [] t = ⊥
HasText new (Create done ∷ es) t = t ≡ []
HasText new (Write true ∷ es) t = (s : Text) × HasText new es s × (t ≡ s ++ new)
HasText new (Write false ∷ es) t = (s part : Text) × HasText new es s × (t ≡ s ++ part)
HasText new (Remove true ∷ es) t = ⊥
HasText new (e ∷ es) t = HasText new es t

-- `is_renamed es`: the file that was created has the name of the other one
abbrev pub is_renamed : List Event → Bool
is_renamed [] = false
is_renamed (Rename true ∷ es) = true
is_renamed (Create done ∷ es) = false
is_renamed (e ∷ es) = is_renamed es

-- `Either renamed A B`: `A` of a file that was renamed, else `B`
abbrev pub Either : Bool → Type 0 → Type 0 → Type 0
Either true A B = A
Either false A B = B

-- `FileReads old new es t`: a program that opens the file reads the text `t`. A rename that failed did nothing, and a write after
-- one that succeeded goes to the file
abbrev pub FileReads : Text → Text → List Event → Text → Type 0
FileReads old new [] t = t ≡ old
FileReads old new (Rename true ∷ es) t = HasText new es t
FileReads old new (Write done ∷ es) t = Either (is_renamed es) (HasText new (Write done ∷ es) t) (FileReads old new es t)
FileReads old new (e ∷ es) t = FileReads old new es t

-- `KeepsText new es t`: after a crash the file that was created may have the text `t`. Until it was synced, that is any text
abbrev pub KeepsText : Text → List Event → Text → Type 0
KeepsText new [] t = ⊥
KeepsText new (Create done ∷ es) t = ⊤
KeepsText new (Write done ∷ es) t = ⊤
KeepsText new (Sync true ∷ es) t = HasText new es t
KeepsText new (Remove true ∷ es) t = ⊥
KeepsText new (e ∷ es) t = KeepsText new es t

-- `Settles old new es t`: after a crash the file may have the text `t`, if its folder is synced now
abbrev pub Settles : Text → Text → List Event → Text → Type 0
Settles old new [] t = t ≡ old
Settles old new (Rename true ∷ es) t = KeepsText new es t
Settles old new (Write done ∷ es) t = Either (is_renamed es) ⊤ (Settles old new es t)
Settles old new (e ∷ es) t = Settles old new es t

-- `Leaves old new es t`: after a crash the file may have the text `t`. A rename is on the device or not, until the folder
-- is synced
abbrev pub Leaves : Text → Text → List Event → Text → Type 0
Leaves old new [] t = t ≡ old
Leaves old new (Rename done ∷ es) t = Leaves old new es t ⊎ KeepsText new es t
Leaves old new (SyncFolder true ∷ es) t = Settles old new es t
Leaves old new (Write done ∷ es) t = Either (is_renamed es) ⊤ (Leaves old new es t)
Leaves old new (e ∷ es) t = Leaves old new es t

-- `LeavesEither es`: after the calls `es`, a program reads a text, which is the old one or the new one, and a crash leaves a text,
-- which is one of them too
abbrev pub LeavesEither : List Event → Type 0
LeavesEither es =
    (old new : Text)
    → ((t : Text) × FileReads old new es t) × ((t : Text) × Leaves old new es t)
    × ((t : Text) → Leaves old new es t ⊎ FileReads old new es t → (t ≡ old) ⊎ (t ≡ new))

-- `AtEachMoment es`: so it is after each of the calls `es`
abbrev pub AtEachMoment : List Event → Type 0
AtEachMoment [] = ⊤
AtEachMoment (e ∷ es) = LeavesEither (e ∷ es) × AtEachMoment es

-- `IsReplaced es`: what a program reads is the new text
abbrev pub IsReplaced : List Event → Type 0
IsReplaced es = (old new t : Text) → FileReads old new es t ↔ (t ≡ new)

-- `IsDurable es`: what a crash leaves is the new text
abbrev pub IsDurable : List Event → Type 0
IsDurable es = (old new t : Text) → Leaves old new es t ↔ (t ≡ new)

-- `IsUnchanged es`: what a program reads is the old text
abbrev pub IsUnchanged : List Event → Type 0
IsUnchanged es = (old new t : Text) → FileReads old new es t ↔ (t ≡ old)

-- `HasRights es`: the file that was created last was given the rights after that
abbrev pub HasRights : List Event → Type 0
HasRights [] = ⊥
HasRights (Create done ∷ es) = ⊥
HasRights (TakeRights true ∷ es) = Contains es (Create true)
HasRights (e ∷ es) = HasRights es

-- `LooksLast es`: the latest of the calls `es` looked at the file, and found it unchanged
abbrev pub LooksLast : List Event → Type 0
LooksLast (Look true ∷ es) = ⊤
LooksLast es = ⊥

-- `IsGuarded es`: before a rename the file that was created was given the rights, and the other one was looked at last
abbrev pub IsGuarded : List Event → Type 0
IsGuarded [] = ⊤
IsGuarded (Rename done ∷ es) = HasRights es × LooksLast es × IsGuarded es
IsGuarded (e ∷ es) = IsGuarded es
