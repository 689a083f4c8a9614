-- What an assignment in a stream writes.
use Rattle.std.proofs.Common.{◌≡◌, ℕ, List, [], ◌∷◌, ◌++◌, Option, Some, None, ◌⊎◌, inl, inr, Result, Ok, Err, IfOk, refl, sym, subst}
use Rattle.std.specs.Io.KnownBytes.{Appends}
use Rattle.jsonptr.specs.Json.{nodes}
use Rattle.jsonptr.specs.Pointer.{tokens}
use Rattle.jsonptr.specs.Text.{Text}
use Rattle.jsonptr.specs.declared.pointer.Pointer.{Pointer}
use Rattle.jsonptr_text_step.specs.Bytes.{AssignsBytes}
use Rattle.jsonptr_text_value.specs.Raw.{value_of_raw}
use Rattle.jsonptr_text_step.specs.Giving.{AssignsGiven}
use Rattle.jsonptr_text_step.specs.EditInText.{AssignsInText}
use Rattle.jsonptr_text_value.specs.declared.raw_value.RawValue.{RawValue}
use Rattle.jsonptr_io.specs.Streams.{ForInput}
use Rattle.jptr_tasks.specs.Documents.{Prints, PutsDocument, EndsInBreak}
use Rattle.jptr_tasks.specs.Results.{Yields}
use Rattle.jptr_tasks.specs.declared.task_error.TaskError.{TaskError}
use Rattle.jptr_tasks.specs.declared.layout.Layout.TheVariants.{Kept}
use Rattle.jptr_tasks.specs.declared.task.Task.{Task}
use Rattle.jptr_tasks.specs.declared.task.Task.TheVariants as tasks
use Rattle.jsonptr_text_edit.specs.declared.edit.Edit.TheVariants as edits

for_input : (known : Option (List ℕ)) (P Q : List ℕ → Type 0) → ((bytes : List ℕ) → P bytes → Q bytes) → ForInput known P → ForInput known Q
for_input None P Q f h = (h.0, f h.0 h.1)
for_input (Some bytes) P Q f h = f bytes h

-- the task of assigning the value
abbrev pub set : Pointer → RawValue → Task
set p raw = tasks.Edit (edits.Assign p raw)

-- `Assigned p raw bytes out`: `out` is the text `bytes` with the raw value assigned
abbrev Assigned : Pointer → RawValue → List ℕ → Text → Type 0
Assigned p raw bytes out =
    AssignsInText bytes (tokens p) (nodes (value_of_raw raw)) out × AssignsBytes bytes (tokens p) (value_of_raw raw) out × AssignsGiven bytes (tokens p) raw out

assigned : (p : Pointer) (raw : RawValue) (bytes out : List ℕ) → Prints (set p raw) Kept bytes out → Assigned p raw bytes out
assigned p raw bytes out h = at h.1
  where
    at : (EndsInBreak (set p raw) Kept × ((new : Text) × Yields (set p raw) Kept bytes new × (out ≡ new ++ 10 ∷ []))) ⊎ ((EndsInBreak (set p raw) Kept → ⊥) × Yields (set p raw) Kept bytes out) → Assigned p raw bytes out
    at (inl broken) = absurd (broken.0 refl)
    at (inr whole) =
        let y = whole.1 in
        let more = y.3 refl in
        subst (Assigned p raw bytes) (sym y.2) (y.1, more.0.0, more.0)

pub set_puts : (r : Result (Unit {0}) TaskError) (p : Pointer) (raw : RawValue) (known w0 w1 : Option (List ℕ)) → IfOk r (λ x. PutsDocument (set p raw) Kept known w0 w1)
    → IfOk r (λ x. ForInput known (λ bytes. (out : Text) × AssignsInText bytes (tokens p) (nodes (value_of_raw raw)) out × AssignsBytes bytes (tokens p) (value_of_raw raw) out × AssignsGiven bytes (tokens p) raw out × Appends w0 w1 out))
set_puts (Err e) p raw known w0 w1 h = h
set_puts (Ok u) p raw known w0 w1 h =
    for_input known (λ bytes. (out : Text) × Prints (set p raw) Kept bytes out × Appends w0 w1 out) _
    (λ bytes g. let a = assigned p raw bytes g.0 g.1 in (g.0, a.0, a.1, a.2, g.2)) h
