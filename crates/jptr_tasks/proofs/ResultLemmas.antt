-- From edits of a text to what is printed, and from what is printed to what a line writes.
use Rattle.std.proofs.Common.{◌≡◌, ◌≢◌, ◌+◌, ◌<◌, ◌≤◌, inl, inr, ℕ, List, [], ◌∷◌, ◌++◌, length, length-append, get_or, false, Option, Some, None, Result, Ok, Err, IfOk, MatchOption, All, String, string_bytes, refl, sym, ap, ◌∙◌, subst, arith}
use Rattle.std.specs.declared.alloc.Global.{Global}
use Rattle.std.proofs.lemmas.List.{get_or-append-add, get_or_append_left}
use Rattle.std.specs.Io.KnownBytes.{Appends}
use Rattle.std.proofs.KnownBytes.{Appends-nil}
use Rattle.serde_json.specs.Data.{Data}
use Rattle.serde_json.specs.Read.{read}
use Rattle.jsonptr.specs.Text.{Text}
use Rattle.jsonptr_text_step.specs.OneLine.{StaysOneLine}
use Rattle.jsonptr_text_step.specs.Locating.{IsLocated}
use Rattle.jsonptr_text_resolve.specs.Format.{IsFormatted}
use Rattle.jsonptr_text_resolve.specs.declared.format.Format.TheVariants as format
use Rattle.json.specs.Print.{print}
use Rattle.serde_json.specs.View.{view}
use Rattle.serde_json.specs.declared.value.Value.{Value}
use Rattle.jsonptr.specs.Pointer.{tokens}
use Rattle.jsonptr_text_edit.specs.Edited.{text_of, is_in_place, IfInPlace}
use Rattle.jsonptr_text_edit.specs.Edits.{EditsText, EditBytes}
use Rattle.jsonptr_text_edit.specs.Errors.{IsEditError}
use Rattle.jsonptr_text_edit.specs.declared.edit.Edit.{Edit}
use Rattle.jsonptr_text_edit.specs.declared.edit.Edit.TheVariants as edits
use Rattle.jsonptr_text_edit.specs.declared.edited.Edited.{Edited}
use Rattle.jsonptr_text_edit.specs.declared.edited.Edited.TheVariants.{InPlace}
use Rattle.jsonptr_text_edit.specs.declared.edit_error.EditError.{EditError}
use Rattle.jsonptr_text_edit.specs.declared.edit_error.EditError.TheVariants as error
use Rattle.jsonptr_io.specs.Lines.{IsOneLine}
use Rattle.jsonptr_text_piece.specs.Spacing.{IsBlank}
use Rattle.jsonptr_io.specs.Streams.{AppendsPrefix}
use Rattle.jsonptr_text_paths.proofs.PlainLemmas.{plain_printed}
use Rattle.jsonptr_patch.specs.declared.operation.Operation.{Operation}
use Rattle.jsonptr_patch_document.specs.Document.{IsPatch}
use Rattle.jsonptr_text_value.specs.Operations.{operations_in}
use Rattle.jsonptr_text_step.proofs.RawLemmas.{patch_bytes}
use Rattle.jsonptr_value.specs.JsonText.{IsCompact}
use Rattle.jptr_tasks.specs.Layouts.{Lays, CanBreak}
use Rattle.jptr_tasks.specs.Failures.{of_edit_error}
use Rattle.jptr_tasks.specs.Results.{Gets, EditsInLayout, PatchesBytesInLayout, Yields, FailsToGet, FailsToEdit, FailsToPatch}
use Rattle.jptr_tasks.specs.PrivateResults.{Remakes, FailsToApply, IsLayoutError}
use Rattle.jptr_tasks.specs.LineResults.{YieldsLine, IsLineFault, IsReport, StopsRun, fallback_line}
use Rattle.jptr_tasks.specs.PrivateLineResults.{Known, OrMemory, IsNoMemory, IsPut, StopsPut}
use Rattle.jptr_tasks.specs.declared.task_error.TaskError.{TaskError}
use Rattle.jptr_tasks.specs.declared.task_error.TaskError.TheVariants.{PatchFailed, TooDeep, NotInPlace, NotJson, Memory, Write}
use Rattle.jptr_tasks.specs.declared.layout.Layout.{Layout}
use Rattle.jptr_tasks.specs.declared.layout.Layout.TheVariants.{Kept, Compact, Pretty, Sorted, SortedPretty, Raw}
use Rattle.jptr_tasks.specs.declared.line.LineTask.{LineTask}
use Rattle.jsonptr_text_value.specs.declared.patch_text.PatchText.{PatchText}
use Rattle.jptr_tasks.specs.declared.task.Task.{Task}
use Rattle.jptr_tasks.specs.declared.task.Task.TheVariants as task

-- a text that is read is JSON
no_text : (text : Text) (d : Data) → read text ≡ Some d → read text ≡ None → ⊥
no_text text d h k =
    let whole : Some d ≡ None = sym h ∙ k in
    let wrong : ⊥ = cc in
    wrong

-- ---- edits

-- in place
pub kept : (text : Text) (edit : Edit) (s : String Global) → EditsText text edit (string_bytes s) → EditBytes text edit (string_bytes s) → StaysOneLine text (string_bytes s) → EditsInLayout text edit Kept (string_bytes s)
kept text edit s meaning bytes line = (string_bytes s, meaning, refl, λ e. (bytes, line))

pub in_place : (text : Text) (edit : Edit) (e : Edited) (o : Option (String Global))
    → EditsText text edit (text_of e) → IfInPlace (EditBytes text edit) e → IfInPlace (StaysOneLine text) e
    → MatchOption o (is_in_place e ≡ false) (λ s. e ≡ InPlace s)
    → MatchOption o ((new : Text) × EditsText text edit new) (λ s. EditsInLayout text edit Kept (string_bytes s))
in_place text edit e (Some s) meaning bytes line is =
    let moved = subst (λ (x : Edited). EditsText text edit (text_of x) × IfInPlace (EditBytes text edit) x × IfInPlace (StaysOneLine text) x) is (meaning, bytes, line) in
    kept text edit s moved.0 moved.1 moved.2
in_place text edit e None meaning bytes line is = (text_of e, meaning)

-- a document that is printed anew
pub remade : (P : Text → Type 0) (layout : Layout) (t new : Text) (r : Result (String Global) TaskError)
    → P t → new ≡ t → IfOk r (λ s. Lays layout new (string_bytes s)) → IfOk r (λ s. Remakes P layout (string_bytes s))
remade P layout t new (Ok s) p same h = (new, subst P (sym same) p, h)
remade P layout t new (Err f) p same h = tt

-- in another layout
pub laid_out : (text : Text) (edit : Edit) (layout : Layout) (new : Text) (r : Result (String Global) TaskError)
    → (layout ≡ Kept → ⊥) → EditsText text edit new → IfOk r (λ s. Lays layout new (string_bytes s)) → IfOk r (λ s. EditsInLayout text edit layout (string_bytes s))
laid_out text edit layout new (Ok s) other meaning h = (new, meaning, h, λ e. absurd (other e))
laid_out text edit layout new (Err f) other meaning h = tt

edited_reads : (text : Text) (edit : Edit) (new : Text) → EditsText text edit new → read new ≡ None → ⊥
edited_reads text (edits.Assign pointer raw) new h none = no_text new h.1 h.3 none
edited_reads text (edits.Delete pointer) new h none = no_text new h.1 h.3 none
edited_reads text (edits.Rename pointer key) new h none = no_text new h.1 h.3 none
edited_reads text (edits.Patch patch) new h none = no_text new h.1 h.3 none

-- a document after an edit is read, so only memory can lack
pub not_laid_out : (text : Text) (edit : Edit) (layout : Layout) (new : Text) (e : TaskError) → EditsText text edit new → IsLayoutError new e → FailsToEdit text edit layout e
not_laid_out text edit layout new NotJson meaning h = absurd (edited_reads text edit new meaning h)
not_laid_out text edit layout new (Memory f) meaning h = tt
not_laid_out text edit layout new other meaning h = absurd h

-- an edit that is not possible
pub edit_fails : (text : Text) (edit : Edit) (layout : Layout) (e : EditError) → IsEditError text edit e → FailsToEdit text edit layout (of_edit_error e)
edit_fails text edit layout error.NotJson h = h
edit_fails text edit layout (error.Assign f) h = h
edit_fails text edit layout error.NotThere h = h
edit_fails text edit layout (error.Rename f) h = h
edit_fails text edit layout (error.Patch f) h = h
edit_fails text edit layout error.TooDeep h = h
edit_fails text edit layout (error.Memory f) h = tt

-- ---- a patch and its document

pub patch_printed : (text out : Text) (p : PatchText) (layout : Layout) → EditsInLayout text (edits.Patch p) layout out → PatchesBytesInLayout text (view p.document) layout out
patch_printed text out p layout h =
    (operations_in p.operations.items, h.0, p.is_patch, h.1, h.2, λ e. (patch_bytes text h.0 p.operations.items (h.3 e).0, (h.3 e).1))

pub patch_refused : (text : Text) (p : PatchText) (layout : Layout) (e : TaskError) → FailsToEdit text (edits.Patch p) layout e → FailsToPatch text (view p.document) layout e
patch_refused text p layout NotJson h = ((operations_in p.operations.items, p.is_patch), h)
patch_refused text p layout (PatchFailed f) h = (operations_in p.operations.items, h.0, p.is_patch, h.1, h.2)
patch_refused text p layout TooDeep h = (operations_in p.operations.items, p.is_patch, h)
patch_refused text p layout NotInPlace h = (h.0, (operations_in p.operations.items, h.1.0, p.is_patch, h.1.1))
patch_refused text p layout (Memory f) h = tt
patch_refused text p layout e h = absurd h

-- ---- errors of a document and of its operations

pub patch_fails : (text : Text) (patch : Data) (os : List Operation) (layout : Layout) (e : TaskError) → IsPatch patch os → FailsToApply text os layout e → FailsToPatch text patch layout e
patch_fails text patch os layout (PatchFailed f) is h = (os, h.0, is, h.1, h.2)
patch_fails text patch os layout TooDeep is h = (os, is, h)
patch_fails text patch os layout NotInPlace is h = (h.0, (os, h.1.0, is, h.1.1))
patch_fails text patch os layout NotJson is h = ((os, is), h)
patch_fails text patch os layout (Memory f) is h = tt
patch_fails text patch os layout other is h = absurd h

-- ---- results that are one line

plain_line : (text : Text) → All (λ b. 32 ≤ b) text → IsOneLine text
plain_line text h = λ k d low is. omega (arith, h k d low, is)

compact_line : (v : Data) (out : Text) → IsCompact v out → IsOneLine out
compact_line v out h = plain_line out (plain_printed out h.compact)

formatted_line : (text out : Text) → IsFormatted format.Compact text out → IsOneLine out
formatted_line text out h = plain_line out (plain_printed out (h.layout ∙ ap print (sym h.same)))

-- a part of one line is one line
part_line : (before piece after : Text) → IsOneLine (before ++ (piece ++ after)) → IsOneLine piece
part_line before piece after one = λ k d low.
    let inside : get_or (before ++ (piece ++ after)) (length before + k) d ≡ get_or piece k d = get_or-append-add before (piece ++ after) k d ∙ get_or_append_left piece after d k low in
    let within : length before + k < length (before ++ (piece ++ after)) = omega (arith, low, length-append before (piece ++ after), length-append piece after) in
    subst (λ (b : ℕ). b ≢ 10) inside (one (length before + k) d within)

get_kept : (l out : Text) (ts : List Text) (fallback : Option Value) → IsOneLine l → Gets l ts fallback Kept out → IsOneLine out
get_kept l out ts fallback one h = elim h [
  | inl p ↦ subst IsOneLine (sym p.4) (part_line p.0 p.1 p.2 (subst IsOneLine p.3.parts one))
  | inr p ↦ compact_line (view p.0) out p.4
]

get_compact : (l out : Text) (ts : List Text) (fallback : Option Value) → Gets l ts fallback Compact out → IsOneLine out
get_compact l out ts fallback h = elim h [
  | inl p ↦ formatted_line p.1 out p.4
  | inr p ↦ compact_line (view p.0) out p.4
]

get_sorted : (l out : Text) (ts : List Text) (fallback : Option Value) → Gets l ts fallback Sorted out → IsOneLine out
get_sorted l out ts fallback h = elim h [
  | inl p ↦ compact_line p.4.0 out p.4.2
  | inr p ↦ compact_line (view p.0) out p.4
]

kept_result : (task : Task) (l out : Text) → IsOneLine l → Yields task Kept l out → IsOneLine out
kept_result (task.Get p fallback) l out one h = get_kept l out (tokens p) fallback one h
kept_result (task.Edit edit) l out one h = subst IsOneLine (sym h.2) ((h.3 refl).1 one)

compact_result : (task : Task) (l out : Text) → Yields task Compact l out → IsOneLine out
compact_result (task.Get p fallback) l out h = get_compact l out (tokens p) fallback h
compact_result (task.Edit edit) l out h = formatted_line h.0 out h.2

sorted_result : (task : Task) (l out : Text) → Yields task Sorted l out → IsOneLine out
sorted_result (task.Get p fallback) l out h = get_sorted l out (tokens p) fallback h
sorted_result (task.Edit edit) l out h = compact_line h.2.0 out h.2.2

-- only a layout that can break makes several lines of one
pub can_break : (task : Task) (layout : Layout) (l out : Text) → Yields task layout l out → (IsOneLine out → ⊥) → IsOneLine l → CanBreak layout
can_break task Kept l out h several one = several (kept_result task l out one h)
can_break task Compact l out h several one = several (compact_result task l out h)
can_break task Pretty l out h several one = tt
can_break task Sorted l out h several one = several (sorted_result task l out h)
can_break task SortedPretty l out h several one = tt
can_break task Raw l out h several one = tt

-- ---- the text of a value

-- a value that is located has a text that is read, so only memory can lack
pub located_fails : (text : Text) (ts : List Text) (fallback : Option Value) (before piece after : Text) (e : TaskError) → IsLocated text ts before piece after → IsLayoutError piece e → FailsToGet text ts fallback e
located_fails text ts fallback before piece after NotJson h r =
    let whole : Some h.value ≡ None = sym h.whole.reads ∙ r in
    let never : ⊥ = cc in
    absurd never
located_fails text ts fallback before piece after (Memory f) h r = tt
located_fails text ts fallback before piece after other h r = absurd r

-- the write of a result failed
pub result_stops : (run : LineTask) (n : ℕ) (l : Text) (w0 w1 e0 : Known) (s text : Text) (e : TaskError)
    → YieldsLine run.task run.layout l s → text ≡ s ++ 10 ∷ [] → e ≡ Write → AppendsPrefix w0 w1 text → StopsPut run n l w0 w1 e0 e0 e
result_stops run n l w0 w1 e0 s text e yields same is prefix =
    (subst StopsRun (sym is) tt, inr (text, [], inl (s, yields, same, refl), prefix, (0, Appends-nil e0)))

or_memory : (f : TaskError) (P : Type 0) → OrMemory f P → IsNoMemory f → P
or_memory (Memory e) P h bad = absurd bad
or_memory f P h other = h

-- a failure that is no failed allocation is a fault of the line
pub line_fault : (run : LineTask) (l : Text) (f e : TaskError) → OrMemory f (IsLineFault run.task run.layout l f) → (e ≡ f) × IsNoMemory e → IsLineFault run.task run.layout l e
line_fault run l f e h same =
    subst (IsLineFault run.task run.layout l) (sym same.0) (or_memory f (IsLineFault run.task run.layout l f) h (subst IsNoMemory same.0 same.1))

-- a fault is written
pub fault_put : (run : LineTask) (n : ℕ) (l : Text) (w0 w1 e0 e1 : Known) (f : TaskError) (report : Text)
    → IsLineFault run.task run.layout l f → (IsBlank l → ⊥) → IsReport (string_bytes run.name) n report
    → Appends w0 w1 (fallback_line run.fallback) → Appends e0 e1 report → IsPut run n l w0 w1 e0 e1 false
fault_put run n l w0 w1 e0 e1 f report fault filled is_report wrote reported =
    (fallback_line run.fallback, report, inr (inl (f, fault, filled, refl, is_report)), wrote, reported, is_report)

-- the write of a fault failed
pub fault_stops : (run : LineTask) (n : ℕ) (l : Text) (w0 w1 e0 e1 : Known) (f : TaskError) (report : Text) (e : TaskError)
    → IsLineFault run.task run.layout l f → (IsBlank l → ⊥) → IsReport (string_bytes run.name) n report → e ≡ Write
    → AppendsPrefix w0 w1 (fallback_line run.fallback) → AppendsPrefix e0 e1 report → StopsPut run n l w0 w1 e0 e1 e
fault_stops run n l w0 w1 e0 e1 f report e fault filled is_report is wrote reported =
    (subst StopsRun (sym is) tt, inr (fallback_line run.fallback, report, inr (inl (f, fault, filled, refl, is_report)), wrote, reported))
