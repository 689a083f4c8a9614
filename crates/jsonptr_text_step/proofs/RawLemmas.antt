-- The operations of a patch with the texts of their values.
use Rattle.std.proofs.Common.{◌≡◌, List, [], ◌∷◌, ◌++◌, Option, Some, None, Result, IfOk, IfSome, string_bytes, refl, sym, subst}
use Rattle.std.specs.declared.alloc.AllocError.{AllocError}
use Rattle.serde_json.specs.Data.{Data}
use Rattle.serde_json.specs.View.{view}
use Rattle.serde_json.specs.declared.value.Value.{Value}
use Rattle.jsonptr.specs.Text.{Text}
use Rattle.jsonptr_patch.specs.declared.operation.Operation.{Operation}
use Rattle.jsonptr_patch.specs.declared.operation.Operation.TheVariants.{Add, Remove, Replace, Move, Copy, Test}
use Rattle.jsonptr_text_step.specs.declared.plan.Made.{Made}
use Rattle.jsonptr_text_step.specs.Bytes.{ReplacesBytes}
use Rattle.jsonptr_text_value.specs.Raw.{value_of_raw}
use Rattle.jsonptr_text_value.specs.Fitting.{IsRawTextOf}
use Rattle.jsonptr_text_step.specs.PatchInText.{AddsAtBytes, OperationBytes, PatchBytes}
use Rattle.jsonptr_text_value.specs.Operations.{operations_in}
use Rattle.jsonptr_text_step.specs.RawPatching.{AddsGiven, ReplacesGiven, GivenBytes, RawPatchBytes}
use Rattle.jsonptr_text_value.specs.declared.raw_operation.RawOperation.{RawOperation}
use Rattle.jsonptr_text_value.specs.declared.raw_value.RawValue.{RawValue}
use Rattle.jsonptr_text_step.proofs.EditLemmas.{if_new}

-- ---- bytes

pub raw_bytes_push : (old mid new : Text) (rs : List RawOperation) (r : RawOperation) → RawPatchBytes old rs mid → GivenBytes mid r.operation r.raw new → RawPatchBytes old (rs ++ r ∷ []) new
raw_bytes_push old mid new [] r h last = (new, subst (λ (t : Text). GivenBytes t r.operation r.raw new) h last, refl)
raw_bytes_push old mid new (q ∷ rs) r h last = (h.0, h.1, raw_bytes_push h.0 mid new rs r h.2 last)

-- the texts of values left aside, the bytes are those of the operations
bytes_of : (old : Text) (o : Operation) (text : Option RawValue) (new : Text) → GivenBytes old o text new → OperationBytes old o new
bytes_of old (Add path value) text new h = h.0
bytes_of old (Remove path) text new h = h
bytes_of old (Replace path value) text new h = h.0
bytes_of old (Move from path) text new h = h
bytes_of old (Copy from path) text new h = h
bytes_of old (Test path value) text new h = h

pub patch_bytes : (old new : Text) (rs : List RawOperation) → RawPatchBytes old rs new → PatchBytes old (operations_in rs) new
patch_bytes old new [] h = h
patch_bytes old new (r ∷ rs) h = (h.0, bytes_of old r.operation r.raw h.0 h.1, patch_bytes h.0 new rs h.2)

-- ---- one operation

-- a text that comes with a value is one of it
pub text_is : (value : Value) (text : Option RawValue) (raw : RawValue) → text ≡ Some raw → IsRawTextOf value text → value_of_raw raw ≡ view value
text_is value text raw is h = subst (λ (o : Option RawValue). IsRawTextOf value o) is h

pub adds_some : (r : Result (Option Made) AllocError) (old : Text) (ts : List Text) (value : Value) (text : Option RawValue) (raw : RawValue) → text ≡ Some raw → IsRawTextOf value text
    → IfOk r (λ n. IfSome n (λ s. AddsGiven old ts (value_of_raw raw) (Some raw) (string_bytes s.text))) → IfOk r (λ n. IfSome n (λ s. AddsGiven old ts (view value) text (string_bytes s.text)))
adds_some r old ts value text raw is of h =
    subst (λ (o : Option RawValue). IfOk r (λ n. IfSome n (λ s. AddsGiven old ts (view value) o (string_bytes s.text)))) (sym is)
    (subst (λ (d : Data). IfOk r (λ n. IfSome n (λ s. AddsGiven old ts d (Some raw) (string_bytes s.text)))) (text_is value text raw is of) h)

pub adds_none : (r : Result (Option Made) AllocError) (old : Text) (ts : List Text) (value : Value) (text : Option RawValue) → text ≡ None
    → IfOk r (λ n. IfSome n (λ s. AddsAtBytes old ts (view value) (string_bytes s.text))) → IfOk r (λ n. IfSome n (λ s. AddsGiven old ts (view value) text (string_bytes s.text)))
adds_none r old ts value text is h =
    subst (λ (o : Option RawValue). IfOk r (λ n. IfSome n (λ s. AddsGiven old ts (view value) o (string_bytes s.text)))) (sym is)
    (if_new r (λ s. AddsAtBytes old ts (view value) (string_bytes s.text)) (λ s. AddsGiven old ts (view value) None (string_bytes s.text)) (λ s b. (b, tt)) h)

pub replaces_some : (r : Result (Option Made) AllocError) (old : Text) (ts : List Text) (value : Value) (text : Option RawValue) (raw : RawValue) → text ≡ Some raw → IsRawTextOf value text
    → IfOk r (λ n. IfSome n (λ s. ReplacesGiven old ts (value_of_raw raw) (Some raw) (string_bytes s.text))) → IfOk r (λ n. IfSome n (λ s. ReplacesGiven old ts (view value) text (string_bytes s.text)))
replaces_some r old ts value text raw is of h =
    subst (λ (o : Option RawValue). IfOk r (λ n. IfSome n (λ s. ReplacesGiven old ts (view value) o (string_bytes s.text)))) (sym is)
    (subst (λ (d : Data). IfOk r (λ n. IfSome n (λ s. ReplacesGiven old ts d (Some raw) (string_bytes s.text)))) (text_is value text raw is of) h)

pub replaces_none : (r : Result (Option Made) AllocError) (old : Text) (ts : List Text) (value : Value) (text : Option RawValue) → text ≡ None
    → IfOk r (λ n. IfSome n (λ s. ReplacesBytes old (string_bytes s.text) ts (view value))) → IfOk r (λ n. IfSome n (λ s. ReplacesGiven old ts (view value) text (string_bytes s.text)))
replaces_none r old ts value text is h =
    subst (λ (o : Option RawValue). IfOk r (λ n. IfSome n (λ s. ReplacesGiven old ts (view value) o (string_bytes s.text)))) (sym is)
    (if_new r (λ s. ReplacesBytes old (string_bytes s.text) ts (view value)) (λ s. ReplacesGiven old ts (view value) None (string_bytes s.text)) (λ s b. (b, tt)) h)
