-- What a run over lines gives, if it reports none.
use Rattle.std.proofs.Common.{◌≡◌, ◌⊎◌, inl, inr, ℕ, ◌+◌, List, [], ◌∷◌, ◌++◌, Option, Some, None, Result, Ok, Err, IfOk, IfErr, refl, sym, ap, ◌∙◌, subst, append_assoc, codes, decimal, string_bytes}
use Rattle.std.specs.Io.KnownBytes.{Appends}
use Rattle.serde_json.specs.Data.{Data}
use Rattle.serde_json.specs.Read.{read}
use Rattle.jsonptr.specs.Pointer.{tokens}
use Rattle.jsonptr.specs.Text.{Text}
use Rattle.jsonptr.specs.declared.pointer.Pointer.{Pointer}
use Rattle.jsonptr_text_value.specs.Raw.{value_of_raw}
use Rattle.jsonptr_text_value.specs.declared.raw_value.RawValue.{RawValue}
use Rattle.jsonptr_text_piece.specs.Spacing.{IsBlank}
use Rattle.jsonptr_io.specs.Lines.{AreLines}
use Rattle.jsonptr_io.specs.Streams.{ForInput}
use Rattle.jsonptr_text_paths.specs.declared.listing.Listed.TheVariants.{AllNodes}
use Rattle.jsonptr_text_paths.specs.declared.build.LineError.{LineError}
use Rattle.jptr_tasks.specs.Layouts.{ShowsInLayout, ReadsBack}
use Rattle.jptr_tasks.specs.LineResults.{LineGives, LinesGive, IsReport}
use Rattle.jptr_tasks.specs.Paths.{ListsText, BuildsText, FailsToBuild, PutsText, StopsText}
use Rattle.jptr_tasks.specs.Results.{EditsInLayout, Yields}
use Rattle.jptr_tasks.specs.Runs.{IsRun}
use Rattle.jptr_tasks.specs.declared.task_error.TaskError.{TaskError}
use Rattle.jptr_tasks.specs.declared.task_error.TaskError.TheVariants.{BadLine}
use Rattle.jptr_tasks.specs.declared.layout.Layout.{Layout}
use Rattle.jptr_tasks.specs.declared.layout.Layout.TheVariants.{Kept, Compact}
use Rattle.jptr_tasks.specs.declared.line.LineTask.{LineTask}
use Rattle.jptr_tasks.specs.declared.lines.Ended.{Ended}
use Rattle.jptr_tasks.specs.declared.lines.Ended.TheVariants.{Fine}
use Rattle.jptr_tasks.specs.declared.task.Task.{Task}
use Rattle.jptr_tasks.specs.declared.task.Task.TheVariants as tasks
use Rattle.jsonptr_text_edit.specs.declared.edit.Edit.TheVariants as edits
use Rattle.jsonptr_uses.specs.JsonLines.{TagsEach}

not_nil : (x : Text) (b : ℕ) (y : Text) → x ++ b ∷ y ≡ [] → ⊥
not_nil [] b y e = cc
not_nil (a ∷ x) b y e = cc

nil_left : (x y : Text) → x ++ y ≡ [] → x ≡ []
nil_left [] y e = refl
nil_left (a ∷ x) y e = cc

nil_right : (x y : Text) → x ++ y ≡ [] → y ≡ []
nil_right [] y e = e
nil_right (a ∷ x) y e = cc

pub report_some : (name : Text) (n : ℕ) (r : Text) → IsReport name n r → r ≡ [] → ⊥
report_some name n r h e = not_nil name 58 (decimal n ++ (codes ": " ++ (h.0 ++ 10 ∷ []))) (sym h.1 ∙ e)

module _ (run : LineTask) (p : Pointer) (v : RawValue) (task : run.task ≡ tasks.Edit (edits.Assign p v)) (layout : run.layout ≡ Kept) where
  set_line : (n : ℕ) (l out err : Text) → LineGives run n l out err → err ≡ [] → ((new : Text) × EditsInLayout l (edits.Assign p v) Kept new × (out ≡ new ++ 10 ∷ [])) ⊎ (IsBlank l × (out ≡ []))
  set_line n l out err h none = elim h [
    | inl x ↦
        let one : Yields (tasks.Edit (edits.Assign p v)) run.layout l x.0 = subst (λ (t : Task). Yields t run.layout l x.0) task x.1.1 in
        let two : Yields (tasks.Edit (edits.Assign p v)) Kept l x.0 = subst (λ (y : Layout). Yields (tasks.Edit (edits.Assign p v)) y l x.0) layout one in
        inl (x.0, two, x.2)
    | inr x ↦ elim x [
      | inl y ↦ absurd (report_some (string_bytes run.name) n err y.4 none)
      | inr y ↦ inr (y.0, y.1)
    ]
  ]

  pub tags_each : (ls : List Text) (n : ℕ) (out err : Text) → LinesGive run n ls out err → err ≡ [] → TagsEach (tokens p) (value_of_raw v) ls out
  tags_each [] n out err h none = h.0
  tags_each (l ∷ ls) n out err h none =
      let parts : h.1 ++ h.3 ≡ [] = sym h.7 ∙ none in
      let rest = tags_each ls (n + 1) h.2 h.3 h.5 (nil_right h.1 h.3 parts) in
      elim (set_line n l h.0 h.1 h.4 (nil_left h.1 h.3 parts)) [
        | inl here ↦
            let made = here.1 in
            let is : here.0 ≡ made.0 = made.2 in
            let bytes = made.3 refl in
            inl (
              made.0,
              h.2,
              made.1,
              bytes.0.0,
              rest,
              h.6 ∙ ap (λ (t : Text). t ++ h.2) (here.2 ∙ ap (λ (t : Text). t ++ 10 ∷ []) is) ∙ append_assoc made.0 (10 ∷ []) h.2,
            )
        | inr here ↦
            let same : out ≡ h.2 = h.6 ∙ ap (λ (t : Text). t ++ h.2) here.1 in
            inr (here.0, subst (λ (t : Text). TagsEach (tokens p) (value_of_raw v) ls t) (sym same) rest)
      ]

-- ---- streams

abbrev Known : Type 0
Known = Option (List ℕ)

for_map : (known : Known) (P Q : List ℕ → Type 0) → ((bytes : List ℕ) → P bytes → Q bytes) → ForInput known P → ForInput known Q
for_map None P Q f h = (h.0, f h.0 h.1)
for_map (Some bytes) P Q f h = f bytes h

pub all_tagged : (run : LineTask) (p : Pointer) (v : RawValue) (known w0 w1 e0 e1 : Known) (ended : Ended) → run.task ≡ tasks.Edit (edits.Assign p v) → run.layout ≡ Kept → ended ≡ Fine → IsRun run known w0 w1 e0 e1 ended
    → ForInput known (λ bytes. (ls : List Text) × (out : Text) × AreLines bytes ls × TagsEach (tokens p) (value_of_raw v) ls out × Appends w0 w1 out)
all_tagged run p v known w0 w1 e0 e1 ended task layout is h = for_map known _ _
    (λ bytes x. (x.0, x.1, x.3.0, tags_each run p v task layout x.0 1 x.1 x.2 x.4 x.3.1, x.5))
    (subst (IsRun run known w0 w1 e0 e1) is h)

-- ---- a document through its lines

abbrev Printed : Type 0
Printed = (layout : Layout) (bytes : List ℕ) (lines out : Text) → ListsText AllNodes bytes lines → BuildsText layout lines out
    → (d : Data) × (shown : Text) × (read bytes ≡ Some d) × ShowsInLayout layout d shown × ReadsBack layout d shown × (out ≡ shown ++ 10 ∷ [])

-- `IsCopied bytes w0 w1`: a line is appended that is read as the document of the bytes
abbrev IsCopied : Known → Known → List ℕ → Type 0
IsCopied w0 w1 bytes = (d : Data) × (shown : Text) × (read bytes ≡ Some d) × ReadsBack Compact d shown × Appends w0 w1 (shown ++ 10 ∷ [])

listed : (bytes first lines out : List ℕ) → first ≡ [] → lines ≡ first ++ out → ListsText AllNodes bytes out → ListsText AllNodes bytes lines
listed bytes first lines out none is h = subst (ListsText AllNodes bytes) (sym (is ∙ ap (λ (t : List ℕ). t ++ out) none)) h

copied_line : (law : Printed) (known w0 w1 : Known) (first lines stored : List ℕ) → first ≡ [] → stored ≡ lines → PutsText (ListsText AllNodes) known (Some first) (Some lines) → PutsText (BuildsText Compact) (Some stored) w0 w1 → ForInput known (IsCopied w0 w1)
copied_line law known w0 w1 first lines stored none same lists builds = for_map known _ _
    (λ bytes x.
    let made = law Compact bytes stored builds.0 (subst (ListsText AllNodes bytes) (sym same) (listed bytes first lines x.0 none x.2 x.1)) builds.1 in
    (made.0, made.1, made.2, made.4, subst (Appends w0 w1) made.5 builds.2))
    lists

pub copied : (law : Printed) (r : Result (Unit {0}) TaskError) (known w0 w1 : Known) (first lines stored : List ℕ) → first ≡ [] → stored ≡ lines → PutsText (ListsText AllNodes) known (Some first) (Some lines) → IfOk r (λ x. PutsText (BuildsText Compact) (Some stored) w0 w1) → IfOk r (λ x. ForInput known (IsCopied w0 w1))
copied law (Ok x) known w0 w1 first lines stored none same lists builds = copied_line law known w0 w1 first lines stored none same lists builds
copied law (Err e) known w0 w1 first lines stored none same lists builds = tt

some_listed : (known : Known) (first lines : List ℕ) → first ≡ [] → PutsText (ListsText AllNodes) known (Some first) (Some lines) → (bytes : List ℕ) × ListsText AllNodes bytes lines
some_listed None first lines none h = (h.0, listed h.0 first lines h.1.0 none h.1.2 h.1.1)
some_listed (Some bytes) first lines none h = (bytes, listed bytes first lines h.0 none h.2 h.1)

pub no_bad_line : (law : (bytes : List ℕ) (lines : Text) (number : ℕ) (e : LineError) → ListsText AllNodes bytes lines → FailsToBuild lines (BadLine number e) → ⊥) (r : Result (Unit {0}) TaskError) (known w0 w1 : Known) (first lines stored : List ℕ) → first ≡ [] → stored ≡ lines → PutsText (ListsText AllNodes) known (Some first) (Some lines) → IfErr r (StopsText (BuildsText Compact) FailsToBuild (Some stored) w0 w1) → (number : ℕ) (e : LineError) → r ≡ Err (BadLine number e) → ⊥
no_bad_line law r known w0 w1 first lines stored none same lists stops number e is =
    let some = some_listed known first lines none lists in
    let why = subst (λ (q : Result (Unit {0}) TaskError). IfErr q (StopsText (BuildsText Compact) FailsToBuild (Some stored) w0 w1)) is stops in
    law some.0 stored number e (subst (ListsText AllNodes some.0) (sym same) some.1) why.1
