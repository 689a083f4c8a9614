-- A task has at most one error on a text, besides a failed allocation.
use Rattle.std.proofs.Common.{◌≡◌, ◌⊎◌, inl, inr, ℕ, List, Option, Some, None, refl, sym, ap, ◌∙◌, subst}
use Rattle.std.specs.Str.{IsUtf8}
use Rattle.serde_json.specs.Data.{Data}
use Rattle.serde_json.specs.Read.{read}
use Rattle.serde_json.specs.declared.value.Value.{Value}
use Rattle.jsonptr.specs.Text.{Text}
use Rattle.jsonptr_io.specs.Lines.{IsOneLine}
use Rattle.jsonptr.specs.Following.{Finds}
use Rattle.jsonptr.specs.Json.{nodes, FindsValue}
use Rattle.jsonptr.specs.Node.{NodeMap}
use Rattle.jsonptr_tree.proofs.JsonLemmas.{FindsValue-Finds}
use Rattle.jsonptr.specs.Pointer.{tokens}
use Rattle.jsonptr.specs.Resolve.{Refuses}
use Rattle.jsonptr.specs.declared.resolve.Error as resolve
use Rattle.jsonptr_text_resolve.specs.InText.{FindsInText, RefusesInText}
use Rattle.jsonptr_text_edit.specs.Edits.{EditsText}
use Rattle.jsonptr_text_edit.specs.Errors.{IsEditError}
use Rattle.jsonptr_text_edit.specs.Outcomes.{EditHasSortedKeys, IsMemory}
use Rattle.jsonptr_text_edit.specs.declared.edit.Edit.{Edit}
use Rattle.jsonptr_text_edit.specs.declared.edit_error.EditError.{EditError}
use Rattle.jsonptr_text_edit.specs.declared.edit_error.EditError.TheVariants as error
use Rattle.jptr_tasks.specs.Documents.{TaskFailsOn}
use Rattle.jptr_tasks.specs.Failures.{of_edit_error}
use Rattle.jptr_tasks.specs.Layouts.{CanBreak}
use Rattle.jptr_tasks.specs.LineResults.{IsLineFault, StopsRun}
use Rattle.jptr_tasks.specs.OneError.{TaskHasSortedKeys, IsOfPlace}
use Rattle.jptr_tasks.specs.Results.{Gets, FailsToGet, FailsToEdit, Yields, Fails}
use Rattle.jptr_tasks.specs.declared.task_error.TaskError.{TaskError}
use Rattle.jptr_tasks.specs.declared.task_error.TaskError.TheVariants.{Resolve, Assign, NotThere, NotRenamed, PatchFailed, TooDeep, NotInPlace, NotLocated, LineBreak, NotJson, Memory, Read, Write}
use Rattle.jptr_tasks.specs.declared.layout.Layout.{Layout}
use Rattle.jptr_tasks.specs.declared.layout.Layout.TheVariants.{Kept}
use Rattle.jptr_tasks.specs.declared.task.Task.{Task}
use Rattle.jptr_tasks.specs.declared.task.Task.TheVariants as tasks
use Rattle.jptr_tasks.proofs.DifferenceLemmas.{one_read}

is_json : (text : Text) (d : Data) → read text ≡ Some d → read text ≡ None → ⊥
is_json text d h k =
    let whole : Some d ≡ None = sym h ∙ k in
    let wrong : ⊥ = cc in
    wrong

-- ---- get

module _
    (not_both : (n : NodeMap) (ts : List Text) (m : NodeMap) (e : resolve.Error) → Finds n ts m → Refuses n ts e → ⊥)
    (one : (n : NodeMap) (ts : List Text) (e f : resolve.Error) → Refuses n ts e → Refuses n ts f → e ≡ f)
    (text : Text) (ts : List Text) (fallback : Option Value) where
  found_refused : (v : Data) (e : resolve.Error) → FindsInText text ts v → RefusesInText text ts e → ⊥
  found_refused v e h k =
      not_both (nodes k.0) ts (nodes v) e (FindsValue-Finds k.0 ts v (subst (λ (d : Data). FindsValue d ts v) (one_read text h.0 k.0 h.1 k.1) h.2)) k.2

  get_json : (f : TaskError) → (StopsRun f → ⊥) → read text ≡ None → FailsToGet text ts fallback f → NotJson ≡ f
  get_json NotJson going none h = refl
  get_json (Resolve e) going none h = absurd (is_json text h.1.0 h.1.1 none)
  get_json NotLocated going none h = absurd (is_json text h.1.0 h.1.1 none)
  get_json (Memory e) going none h = absurd (going tt)
  get_json f going none h = absurd h

  get_value : (e : resolve.Error) (f : TaskError) → (StopsRun f → ⊥) → RefusesInText text ts e → FailsToGet text ts fallback f → Resolve e ≡ f
  get_value e NotJson going refused h = absurd (is_json text refused.0 refused.1 h)
  get_value e (Resolve g) going refused h =
      ap Resolve (one (nodes h.1.0) ts e g (subst (λ (d : Data). Refuses (nodes d) ts e) (one_read text refused.0 h.1.0 refused.1 h.1.1) refused.2) h.1.2)
  get_value e NotLocated going refused h = absurd (found_refused h.0 e h.1 refused)
  get_value e (Memory g) going refused h = absurd (going tt)
  get_value e f going refused h = absurd h

  get_located : (v : Data) (f : TaskError) → (StopsRun f → ⊥) → FindsInText text ts v → FailsToGet text ts fallback f → NotLocated ≡ f
  get_located v NotJson going found h = absurd (is_json text found.0 found.1 h)
  get_located v (Resolve g) going found h = absurd (found_refused v g found h.1)
  get_located v NotLocated going found h = refl
  get_located v (Memory g) going found h = absurd (going tt)
  get_located v f going found h = absurd h

  get_one : (e f : TaskError) → (StopsRun e → ⊥) → (StopsRun f → ⊥) → FailsToGet text ts fallback e → FailsToGet text ts fallback f → e ≡ f
  get_one NotJson f going on h k = get_json f on h k
  get_one (Resolve e) f going on h k = get_value e f on h.1 k
  get_one NotLocated f going on h k = get_located h.0 f on h.1 k
  get_one (Memory e) f going on h k = absurd (going tt)
  get_one e f going on h k = absurd h

  got_read : (layout : Layout) (out : Text) → Gets text ts fallback layout out → read text ≡ None → ⊥
  got_read layout out (inl x) none = is_json text x.3.found.0 x.3.found.1 none
  got_read layout out (inr x) none = is_json text x.3.0 x.3.1 none

  got_value : (layout : Layout) (out : Text) (e : resolve.Error) → Gets text ts fallback layout out → fallback ≡ None → RefusesInText text ts e → ⊥
  got_value layout out e (inl x) none refused = found_refused x.3.value e x.3.found refused
  got_value layout out e (inr x) none refused =
      let whole : Some x.0 ≡ None = sym x.2 ∙ none in
      let wrong : ⊥ = cc in
      wrong

  get_not_both : (layout : Layout) (out : Text) (e : TaskError) → Gets text ts fallback layout out → FailsToGet text ts fallback e → StopsRun e ⊎ (e ≡ NotLocated)
  get_not_both layout out NotJson got h = absurd (got_read layout out got h)
  get_not_both layout out (Resolve e) got h = absurd (got_value layout out e got h.0 h.1)
  get_not_both layout out NotLocated got h = inr refl
  get_not_both layout out (Memory e) got h = inl tt
  get_not_both layout out e got h = absurd h

-- ---- an edit

module _
    (one : (text : Text) (edit : Edit) (e f : EditError) → (IsMemory e → ⊥) → (IsMemory f → ⊥) → IsEditError text edit e → IsEditError text edit f → e ≡ f)
    (not_both : (text new : Text) (edit : Edit) (e : EditError) → EditHasSortedKeys edit → EditsText text edit new → IsEditError text edit e → IsMemory e)
    (text : Text) (edit : Edit) (layout : Layout) (sorted : EditHasSortedKeys edit) where
  -- an error of the edit, or one of its place
  abbrev IsOfEdit : TaskError → Type 0
  IsOfEdit e = (f : EditError) × (e ≡ of_edit_error f) × (IsMemory f → ⊥) × IsEditError text edit f

  of_edit : (e : TaskError) → (StopsRun e → ⊥) → FailsToEdit text edit layout e → IsOfEdit e ⊎ ((e ≡ NotInPlace) × (layout ≡ Kept) × ((new : Text) × EditsText text edit new))
  of_edit NotJson going h = inl (error.NotJson, refl, (λ m. m), h)
  of_edit (Assign f) going h = inl (error.Assign f, refl, (λ m. m), h)
  of_edit NotThere going h = inl (error.NotThere, refl, (λ m. m), h)
  of_edit (NotRenamed f) going h = inl (error.Rename f, refl, (λ m. m), h)
  of_edit (PatchFailed f) going h = inl (error.Patch f, refl, (λ m. m), h)
  of_edit TooDeep going h = inl (error.TooDeep, refl, (λ m. m), h)
  of_edit NotInPlace going h = inr (refl, h.0, h.1)
  of_edit (Memory f) going h = absurd (going tt)
  of_edit e going h = absurd h

  edit_one : (e f : TaskError) → (StopsRun e → ⊥) → (StopsRun f → ⊥) → FailsToEdit text edit layout e → FailsToEdit text edit layout f → e ≡ f
  edit_one e f going on h k =
      elim (of_edit e going h) [
        | inl x ↦ elim (of_edit f on k) [
          | inl y ↦ x.1 ∙ ap of_edit_error (one text edit x.0 y.0 x.2 y.2 x.3 y.3) ∙ sym y.1
          | inr y ↦ absurd (x.2 (not_both text y.2.0 edit x.0 sorted y.2.1 x.3))
        ]
        | inr x ↦ elim (of_edit f on k) [
          | inl y ↦ absurd (y.2 (not_both text x.2.0 edit y.0 sorted x.2.1 y.3))
          | inr y ↦ x.0 ∙ sym y.0
        ]
      ]

  edit_done : (new : Text) (e : TaskError) → EditsText text edit new → FailsToEdit text edit layout e → StopsRun e ⊎ ((layout ≡ Kept) × (e ≡ NotInPlace))
  edit_done new NotJson done h = absurd (not_both text new edit error.NotJson sorted done h)
  edit_done new (Assign f) done h = absurd (not_both text new edit (error.Assign f) sorted done h)
  edit_done new NotThere done h = absurd (not_both text new edit error.NotThere sorted done h)
  edit_done new (NotRenamed f) done h = absurd (not_both text new edit (error.Rename f) sorted done h)
  edit_done new (PatchFailed f) done h = absurd (not_both text new edit (error.Patch f) sorted done h)
  edit_done new TooDeep done h = absurd (not_both text new edit error.TooDeep sorted done h)
  edit_done new NotInPlace done h = inr (h.0, refl)
  edit_done new (Memory f) done h = inl tt
  edit_done new e done h = absurd h

-- ---- each task

module _
    (found_both : (n : NodeMap) (ts : List Text) (m : NodeMap) (e : resolve.Error) → Finds n ts m → Refuses n ts e → ⊥)
    (found_one : (n : NodeMap) (ts : List Text) (e f : resolve.Error) → Refuses n ts e → Refuses n ts f → e ≡ f)
    (edited_one : (text : Text) (edit : Edit) (e f : EditError) → (IsMemory e → ⊥) → (IsMemory f → ⊥) → IsEditError text edit e → IsEditError text edit f → e ≡ f)
    (edited_both : (text new : Text) (edit : Edit) (e : EditError) → EditHasSortedKeys edit → EditsText text edit new → IsEditError text edit e → IsMemory e) where
  pub one_error : (task : Task) (layout : Layout) (text : Text) (e f : TaskError) → TaskHasSortedKeys task → (StopsRun e → ⊥) → (StopsRun f → ⊥) → Fails task layout text e → Fails task layout text f → e ≡ f
  one_error (tasks.Get p fallback) layout text e f sorted = get_one found_both found_one text (tokens p) fallback e f
  one_error (tasks.Edit edit) layout text e f sorted = edit_one edited_one edited_both text edit layout sorted e f

  pub no_error : (task : Task) (layout : Layout) (text out : Text) (e : TaskError) → TaskHasSortedKeys task → Yields task layout text out → Fails task layout text e → StopsRun e ⊎ IsOfPlace task layout e
  no_error (tasks.Get p fallback) layout text out e sorted h = get_not_both found_both found_one text (tokens p) fallback layout out e h
  no_error (tasks.Edit edit) layout text out e sorted h = edit_done edited_one edited_both text edit layout sorted h.0 e h.1

  -- of bytes
  on_bytes : (task : Task) (layout : Layout) (bytes : List ℕ) (e : TaskError) → (StopsRun e → ⊥) → TaskFailsOn task layout bytes e → (IsUtf8 bytes → Fails task layout bytes e) × ((e ≡ NotJson) ⊎ IsUtf8 bytes)
  on_bytes task layout bytes NotJson going h = (h, inl refl)
  on_bytes task layout bytes (Memory e) going h = absurd (going tt)
  on_bytes task layout bytes e going h = ((λ utf8. h.1), inr h.0)

  bytes_one : (task : Task) (layout : Layout) (bytes : List ℕ) (e f : TaskError) → TaskHasSortedKeys task → (StopsRun e → ⊥) → (StopsRun f → ⊥) → (IsUtf8 bytes → Fails task layout bytes e) × ((e ≡ NotJson) ⊎ IsUtf8 bytes) → (IsUtf8 bytes → Fails task layout bytes f) × ((f ≡ NotJson) ⊎ IsUtf8 bytes) → e ≡ f
  bytes_one task layout bytes e f sorted going on h k =
      elim h.1 [
        | inl x ↦ elim k.1 [
          | inl y ↦ x ∙ sym y
          | inr y ↦ one_error task layout bytes e f sorted going on (h.0 y) (k.0 y)
        ]
        | inr x ↦ one_error task layout bytes e f sorted going on (h.0 x) (k.0 x)
      ]

  pub one_error_on : (task : Task) (layout : Layout) (bytes : List ℕ) (e f : TaskError) → TaskHasSortedKeys task → (StopsRun e → ⊥) → (StopsRun f → ⊥) → TaskFailsOn task layout bytes e → TaskFailsOn task layout bytes f → e ≡ f
  one_error_on task layout bytes e f sorted going on h k = bytes_one task layout bytes e f sorted going on (on_bytes task layout bytes e going h) (on_bytes task layout bytes f on k)

  -- of a line: no error of a stream is one of a text
  no_read : (task : Task) (layout : Layout) (text : Text) → Fails task layout text Read → ⊥
  no_read (tasks.Get p fallback) layout text h = h
  no_read (tasks.Edit edit) layout text h = h

  no_write : (task : Task) (layout : Layout) (text : Text) → Fails task layout text Write → ⊥
  no_write (tasks.Get p fallback) layout text h = h
  no_write (tasks.Edit edit) layout text h = h

  abbrev BreaksLine : Task → Layout → Text → Type 0
  BreaksLine task layout l = IsLineFault task layout l LineBreak

  on_line : (task : Task) (layout : Layout) (l : Text) (e : TaskError) → IsLineFault task layout l e → ((e ≡ LineBreak) × BreaksLine task layout l) ⊎ ((StopsRun e → ⊥) × TaskFailsOn task layout l e)
  on_line task layout l NotJson h = inr ((λ s. s), h)
  on_line task layout l LineBreak h = inl (refl, h)
  on_line task layout l (Memory e) h = absurd h
  on_line task layout l Read h = absurd (no_read task layout l h.1)
  on_line task layout l Write h = absurd (no_write task layout l h.1)
  on_line task layout l e h = inr ((λ s. s), h)

  -- an edit whose result has a line break has a layout that can break
  not_kept : (task : Task) (layout : Layout) (f : TaskError) → CanBreak layout → IsOfPlace task layout f → f ≡ NotLocated
  not_kept (tasks.Get p fallback) layout f breaks h = h
  not_kept (tasks.Edit edit) layout f breaks h = absurd (subst CanBreak h.0 breaks)

  broken : (task : Task) (layout : Layout) (l : Text) (f : TaskError) → TaskHasSortedKeys task → IsOneLine l → BreaksLine task layout l → (StopsRun f → ⊥) → TaskFailsOn task layout l f → f ≡ NotLocated
  broken task layout l f sorted one h going k =
      let fails : Fails task layout l f = (on_bytes task layout l f going k).0 h.0 in
      elim (no_error task layout l h.2.0 f sorted h.2.1 fails) [
        | inl x ↦ absurd (going x)
        | inr x ↦ not_kept task layout f (h.1 one) x
      ]

  pub one_line_error : (task : Task) (layout : Layout) (l : Text) (e f : TaskError) → TaskHasSortedKeys task → IsOneLine l → IsLineFault task layout l e → IsLineFault task layout l f → (e ≡ f) ⊎ ((e ≡ NotLocated) ⊎ (f ≡ NotLocated))
  one_line_error task layout l e f sorted one h k =
      elim (on_line task layout l e h) [
        | inl x ↦ elim (on_line task layout l f k) [
          | inl y ↦ inl (x.0 ∙ sym y.0)
          | inr y ↦ inr (inr (broken task layout l f sorted one x.1 y.0 y.1))
        ]
        | inr x ↦ elim (on_line task layout l f k) [
          | inl y ↦ inr (inl (broken task layout l e sorted one y.1 x.0 x.1))
          | inr y ↦ inl (one_error_on task layout l e f sorted x.0 y.0 x.1 y.1)
        ]
      ]
