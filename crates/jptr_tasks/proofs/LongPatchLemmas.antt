-- From the document after operations to a text in the layout of the old one.
use Rattle.std.proofs.Common.{◌≡◌, ◌≤◌, Some, None, Result, Ok, Err, IfOk, IfErr, List, String, string_bytes, refl, sym, ◌∙◌, subst, arith}
use Rattle.std.specs.declared.alloc.Global.{Global}
use Rattle.serde_json.specs.Data.{Data, depth}
use Rattle.serde_json.specs.Read.{max_depth}
use Rattle.jsonptr.specs.Text.{Text}
use Rattle.jsonptr.specs.Json.{nodes}
use Rattle.jsonptr.specs.Node.{NodeMap}
use Rattle.jsonptr_patch.specs.Patching.{PatchesBy}
use Rattle.jsonptr_patch.specs.declared.comparison.Comparison.TheVariants.{Numeric}
use Rattle.jsonptr_patch.specs.declared.operation.Operation.{Operation}
use Rattle.jsonptr_patch_document.specs.Document.{IsPatch}
use Rattle.jsonptr_value.proofs.LevelLemmas.{depth-within}
use Rattle.jsonptr_text_step.specs.OneLine.{StaysOneLine}
use Rattle.jsonptr_text_step.specs.PatchInText.{PatchesInText}
use Rattle.jsonptr_text_relayout.specs.Relaying.{text_of_relaid, ReadsAs, IsRelayoutError}
use Rattle.jsonptr_text_relayout.specs.declared.relaid.Relaid.{Relaid}
use Rattle.jsonptr_text_relayout.specs.declared.relaid.RelayoutError.{RelayoutError}
use Rattle.jsonptr_text_relayout.specs.declared.relaid.RelayoutError.TheVariants as relayout
use Rattle.jptr_tasks.specs.Failures.{of_relayout_error}
use Rattle.jptr_tasks.specs.Results.{PatchesInLayout}
use Rattle.jptr_tasks.specs.PrivateResults.{Remakes, FailsToApply, AppliesInLayout, IsAppliedTo, IsRelayoutFault, IsLayoutError}
use Rattle.jptr_tasks.specs.declared.task_error.TaskError.{TaskError}
use Rattle.jptr_tasks.specs.declared.task_error.TaskError.TheVariants.{PatchFailed, TooDeep, NotInPlace, NotJson, Memory}
use Rattle.jptr_tasks.specs.declared.layout.Layout.{Layout}
use Rattle.jptr_tasks.specs.declared.layout.Layout.TheVariants.{Kept, Compact}

-- ---- the new document

-- a text that is read as the document after the operations is one of it
pub reads_after : (text : Text) (os : List Operation) (e : Data) (r : Result Relaid TaskError)
    → IsAppliedTo text os e → IfOk r (λ new. ReadsAs (text_of_relaid new) (nodes e)) → IfOk r (λ new. PatchesInText text os (text_of_relaid new))
reads_after text os e (Ok new) a h = (a.0, h.0, a.1, h.1, subst (λ (m : NodeMap). PatchesBy Numeric (nodes a.0) os m) (sym h.2) a.2)
reads_after text os e (Err f) a h = tt

-- the document is not laid out
relayout_fails : (text : Text) (os : List Operation) (d : Data) (e : TaskError) → IsAppliedTo text os d → IsRelayoutFault text d e → FailsToApply text os Compact e
relayout_fails text os d NotJson a h = h
relayout_fails text os d TooDeep a h =
    (a.0, nodes d, a.1, a.2, λ s within. let le : depth d ≤ max_depth = depth-within d max_depth (a.3 s) within in omega (arith, le, h))
relayout_fails text os d (Memory f) a h = tt
relayout_fails text os d other a h = absurd h

pub not_laid_out : (text : Text) (os : List Operation) (d : Data) (r : Result Relaid TaskError) → IsAppliedTo text os d → IfErr r (IsRelayoutFault text d) → IfErr r (FailsToApply text os Compact)
not_laid_out text os d (Ok new) a h = tt
not_laid_out text os d (Err e) a h = relayout_fails text os d e a h

pub relayout_fault : (text : Text) (d : Data) (e : RelayoutError) → IsRelayoutError text d e → IsRelayoutFault text d (of_relayout_error e)
relayout_fault text d relayout.NotJson h = h
relayout_fault text d relayout.TooDeep h = h
relayout_fault text d (relayout.Memory f) h = tt

-- ---- its text

pub long_kept : (text : Text) (os : List Operation) (r : Result (String Global) TaskError)
    → IfOk r (λ s. PatchesInText text os (string_bytes s)) → IfOk r (λ s. StaysOneLine text (string_bytes s)) → IfOk r (λ s. AppliesInLayout text os Kept (string_bytes s))
long_kept text os (Ok s) h line = (string_bytes s, h, refl, λ e. line)
long_kept text os (Err f) h line = tt

pub long_laid_out : (text : Text) (os : List Operation) (layout : Layout) (r : Result (String Global) TaskError)
    → (layout ≡ Kept → ⊥) → IfOk r (λ s. Remakes (PatchesInText text os) layout (string_bytes s)) → IfOk r (λ s. AppliesInLayout text os layout (string_bytes s))
long_laid_out text os layout (Ok s) other h = (h.0, h.1, h.2, λ e. absurd (other e))
long_laid_out text os layout (Err f) other h = tt

pub long_patched : (text : Text) (patch : Data) (os : List Operation) (layout : Layout) (out : Text) → IsPatch patch os → AppliesInLayout text os layout out → PatchesInLayout text patch layout out
long_patched text patch os layout out is h = (os, h.0, is, h.1, h.2, h.3)

-- ---- errors

-- the text is not JSON
pub not_read : (text : Text) (os : List Operation) (layout : Layout) (e : TaskError) → IsLayoutError text e → FailsToApply text os layout e
not_read text os layout NotJson h = h
not_read text os layout (Memory f) h = tt
not_read text os layout other h = absurd h

-- the document after the operations is read, so only memory can lack
pub after_fails : (text : Text) (os : List Operation) (layout : Layout) (new : Text) (e : TaskError) → PatchesInText text os new → IsLayoutError new e → FailsToApply text os layout e
after_fails text os layout new NotJson h r =
    let whole : Some h.1 ≡ None = sym h.3 ∙ r in
    let never : ⊥ = cc in
    absurd never
after_fails text os layout new (Memory f) h r = tt
after_fails text os layout new other h r = absurd r

-- what fails in another layout than the one that is kept fails in each
pub applies_in_none : (text : Text) (os : List Operation) (layout : Layout) (e : TaskError) → FailsToApply text os Compact e → FailsToApply text os layout e
applies_in_none text os layout (PatchFailed f) h = h
applies_in_none text os layout TooDeep h = h
applies_in_none text os layout NotInPlace h =
    let other : Compact ≡ Kept = h.0 in
    let never : ⊥ = cc in
    absurd never
applies_in_none text os layout NotJson h = h
applies_in_none text os layout (Memory f) h = tt
applies_in_none text os layout other h = absurd h
