-- What a replacement leaves, step by step.
use Rattle.std.proofs.Common.{◌≡◌, ◌⊎◌, ◌++◌, ◌↔◌, inl, inr, ⊎_elim, List, [], ◌∷◌, Bool, true, false, Result, Ok, Err, OnErr, refl, sym, subst, arith}
use Rattle.jsonptr.specs.Text.{Text}
use Rattle.jptr_tasks.specs.Replacement.{AtEachMoment, HasText, IsDurable, IsGuarded, IsReplaced, Leaves, LeavesEither, Tries}
use Rattle.jptr_tasks.specs.PrivateReplacement.{IsSafe, all_calls}
use Rattle.jptr_tasks.specs.declared.replacement.Event.{Event}
use Rattle.jptr_tasks.specs.declared.replacement.Event.TheVariants.{Create, Write, TakeRights, Sync, Look, Rename, SyncFolder, Remove}

-- the calls before the rename, one after the other
abbrev created : List Event
created = Create true ∷ []

abbrev written : List Event
written = Write true ∷ created

abbrev trusted : List Event
trusted = TakeRights true ∷ written

abbrev synced : List Event
synced = Sync true ∷ trusted

abbrev looked : List Event
looked = Look true ∷ synced

same : (old new t : Text) → (t ≡ old) ↔ (t ≡ old)
same old new t = ((λ (h : t ≡ old). h), (λ (h : t ≡ old). h))

old_one : (old new t : Text) → (t ≡ old) ⊎ (t ≡ old) → (t ≡ old) ⊎ (t ≡ new)
old_one old new t h = ⊎_elim (λ (p : t ≡ old). inl p) (λ (p : t ≡ old). inl p) h

either_old : (old new : Text)
    → ((t : Text) × (t ≡ old)) × ((t : Text) × (t ≡ old)) × ((t : Text) → (t ≡ old) ⊎ (t ≡ old) → (t ≡ old) ⊎ (t ≡ new))
either_old old new = ((old, refl), (old, refl), old_one old new)

safe_created : IsSafe created
safe_created = ((either_old, tt), same, tt)

safe_write : (done : Bool) → IsSafe (Write done ∷ created)
safe_write done = ((either_old, safe_created.0), same, tt)

safe_rights : (done : Bool) → IsSafe (TakeRights done ∷ written)
safe_rights done = ((either_old, (safe_write true).0), same, tt)

safe_sync : (done : Bool) → IsSafe (Sync done ∷ trusted)
safe_sync true = ((either_old, (safe_rights true).0), same, tt)
safe_sync false = ((either_old, (safe_rights true).0), same, tt)

safe_look : (done : Bool) → IsSafe (Look done ∷ synced)
safe_look done = ((either_old, (safe_sync true).0), same, tt)

whole : (new t : Text) → HasText new written t → t ≡ new
whole new t h = subst (λ (s : Text). t ≡ s ++ new) h.1 h.2

there : (new : Text) → HasText new written new
there new = ([], refl, refl)

new_one : (old new t : Text) → (t ≡ old) ⊎ HasText new written t → (t ≡ old) ⊎ (t ≡ new)
new_one old new t (inl h) = inl h
new_one old new t (inr h) = inr (whole new t h)

guarded : (done : Bool) → IsGuarded (Rename done ∷ looked)
guarded done = ((1, omega arith, refl), tt, tt)

-- a rename that failed leaves the old text, and the new one whole under another name
renaming : LeavesEither (Rename false ∷ looked)
renaming old new = ((old, refl), (old, inl refl), λ t h. ⊎_elim (λ (p : Leaves old new (Rename false ∷ looked) t). new_one old new t p) (λ (p : t ≡ old). inl p) h)

safe_rename : IsSafe (Rename false ∷ looked)
safe_rename = ((renaming, (safe_look true).0), same, guarded false)

renamed : LeavesEither all_calls
renamed old new = ((new, there new), (old, inl refl), λ t h. ⊎_elim (λ (p : Leaves old new all_calls t). new_one old new t p) (λ (p : HasText new written t). inr (whole new t p)) h)

replaced : IsReplaced all_calls
replaced old new t = (whole new t, λ (h : t ≡ new). subst (λ (s : Text). HasText new written s) (sym h) (there new))

each_moment : AtEachMoment all_calls
each_moment = (renamed, (safe_look true).0)

-- after the folder was synced, or not
folder_failed : AtEachMoment (SyncFolder false ∷ all_calls)
folder_failed = (renamed, each_moment)

durable : IsDurable (SyncFolder true ∷ all_calls)
durable old new t = (whole new t, λ (h : t ≡ new). subst (λ (s : Text). HasText new written s) (sym h) (there new))

settled : LeavesEither (SyncFolder true ∷ all_calls)
settled old new = ((new, there new), (new, there new), λ t h. ⊎_elim (λ (p : HasText new written t). inr (whole new t p)) (λ (p : HasText new written t). inr (whole new t p)) h)

folder_synced : AtEachMoment (SyncFolder true ∷ all_calls)
folder_synced = (settled, each_moment)

-- a call that fails was made, or not
pub failed : {A E : Type 0} (e : Event) (before es : List Event) (r : Result A E)
    → IsSafe before → IsSafe (e ∷ before) → (es ≡ e ∷ before) ⊎ (es ≡ before) → OnErr r (IsSafe es)
failed e before es (Ok x) safe called h = tt
failed e before es (Err x) safe called (inl h) = subst IsSafe (sym h) called
failed e before es (Err x) safe called (inr h) = subst IsSafe (sym h) safe

pub write_failed : {A E : Type 0} (es : List Event) (r : Result A E) → (es ≡ Write false ∷ created) ⊎ (es ≡ created) → OnErr r (IsSafe es)
write_failed es r h = failed (Write false) created es r safe_created (safe_write false) h

pub rights_failed : {A E : Type 0} (es : List Event) (r : Result A E) → (es ≡ TakeRights false ∷ written) ⊎ (es ≡ written) → OnErr r (IsSafe es)
rights_failed es r h = failed (TakeRights false) written es r (safe_write true) (safe_rights false) h

pub sync_failed : {A E : Type 0} (es : List Event) (r : Result A E) → (es ≡ Sync false ∷ trusted) ⊎ (es ≡ trusted) → OnErr r (IsSafe es)
sync_failed es r h = failed (Sync false) trusted es r (safe_rights true) (safe_sync false) h

pub look_failed : {A E : Type 0} (es : List Event) (r : Result A E) → (es ≡ Look false ∷ synced) ⊎ (es ≡ synced) → OnErr r (IsSafe es)
look_failed es r h = failed (Look false) synced es r (safe_sync true) (safe_look false) h

pub rename_failed : {E : Type 0} (es : List Event) (r : Result (Unit {0}) E) → Tries Rename looked r es → OnErr r (IsSafe es)
rename_failed es (Ok x) h = tt
rename_failed es (Err x) h = failed {A = Unit {0}} (Rename false) looked es (Err x) (safe_look true) safe_rename h

-- what holds once the folder was synced, or its sync failed
pub record IsDone (es : List Event) : Type 0 where
  pub moments : AtEachMoment es
  pub replaced : IsReplaced es
  pub guarded : IsGuarded es

done : IsDone all_calls
done = record { moments = each_moment; replaced = replaced; guarded = guarded true }

done_synced : IsDone (SyncFolder true ∷ all_calls)
done_synced = record { moments = folder_synced; replaced = replaced; guarded = guarded true }

done_failed : IsDone (SyncFolder false ∷ all_calls)
done_failed = record { moments = folder_failed; replaced = replaced; guarded = guarded true }

pub folder_tried : {E : Type 0} (r : Result (Unit {0}) E) (before es : List Event)
    → before ≡ all_calls → Tries SyncFolder before r es → IsDone es
folder_tried (Ok x) before es e h = subst IsDone (sym h) (subst (λ (l : List Event). IsDone (SyncFolder true ∷ l)) (sym e) done_synced)
folder_tried (Err x) before es e (inl h) = subst IsDone (sym h) (subst (λ (l : List Event). IsDone (SyncFolder false ∷ l)) (sym e) done_failed)
folder_tried (Err x) before es e (inr h) = subst IsDone (sym h) (subst IsDone (sym e) done)

pub folder_durable : (before es : List Event) → before ≡ all_calls → es ≡ SyncFolder true ∷ before → IsDurable es
folder_durable before es e h = subst IsDurable (sym h) (subst (λ (l : List Event). IsDurable (SyncFolder true ∷ l)) (sym e) durable)

last_moment : (es : List Event) → AtEachMoment es → LeavesEither es
last_moment [] h = either_old
last_moment (e ∷ es) h = h.0

-- a creation that failed leaves the old text
pub create_failed : (es : List Event) → (es ≡ Create false ∷ []) ⊎ (es ≡ []) → AtEachMoment es
create_failed es (inl h) = subst AtEachMoment (sym h) (either_old, tt)
create_failed es (inr h) = subst AtEachMoment (sym h) tt

-- the removal of the file that was created changes nothing
pub removed : {E : Type 0} (r : Result (Unit {0}) E) (before es : List Event) → AtEachMoment before → Tries Remove before r es → AtEachMoment es
removed (Ok x) before es h k = subst AtEachMoment (sym k) (last_moment before h, h)
removed (Err x) before es h (inl k) = subst AtEachMoment (sym k) (last_moment before h, h)
removed (Err x) before es h (inr k) = subst AtEachMoment (sym k) h
