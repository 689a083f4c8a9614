-- What is printed can be read again, and a patch that is printed applies.
use Rattle.std.proofs.Common.{◌≡◌, ◌≢◌, ◌≤◌, ◌⊎◌, inl, inr, ℕ, suc, List, [], ◌∷◌, map, All, Option, Some, None, MatchOption, refl, sym, ap, ◌∙◌, subst, arith}
use Rattle.std.proofs.lemmas.List.Elements.{All-head, All-tail}
use Rattle.std.specs.declared.alloc.AllocError.{AllocError}
use Rattle.serde_json.specs.Data.{Data, depth, items_depth}
use Rattle.serde_json.specs.Find.{as_str}
use Rattle.serde_json.specs.View.{items_of}
use Rattle.serde_json.specs.Read.{read, max_depth}
use Rattle.serde_json.proofs.Nesting.{depth-read}
use Rattle.jsonptr.specs.Text.{Text}
use Rattle.jsonptr.specs.Documents.{IsDocument}
use Rattle.jsonptr.proofs.Calling.{map_of-IsTree, map_of-finite}
use Rattle.jsonptr.specs.Node.{NodeMap}
use Rattle.jsonptr.specs.Json.{nodes, content}
use Rattle.jsonptr_patch.specs.Patching.{PatchesBy, FailsBy}
use Rattle.jsonptr_patch.specs.declared.comparison.Comparison.TheVariants.{Numeric}
use Rattle.jsonptr_patch.specs.declared.failed_operation.FailedOperation.{FailedOperation}
use Rattle.jsonptr_patch.specs.declared.operation.Operation.{Operation}
use Rattle.jsonptr_patch_document.specs.Document.{IsPatch, IsNoPatch}
use Rattle.jsonptr_patch_diff.specs.Diff.{HasValueWithin}
use Rattle.jsonptr_patch.specs.declared.operation.Operation.TheVariants.{Add, Remove, Replace, Move, Copy, Test}
use Rattle.jsonptr_patch_document.specs.Writing.{document_of, written_object}
use Rattle.jsonptr_patch_document.specs.declared.error.PatchDocumentError.{PatchDocumentError}
use Rattle.jsonptr_text_step.specs.PatchInText.{IsPatchError}
use Rattle.jsonptr_text_step.specs.declared.stepped.StepError.TheVariants as edit
use Rattle.jptr_tasks.specs.Differences.{IsDifference, FailsToDiffer}
use Rattle.jptr_tasks.specs.Inverting.{IsInverse}
use Rattle.jptr_tasks.specs.PrivateResults.{IsPatchTextFault}
use Rattle.jsonptr_text_resolve.specs.Format.{IsFormatted}
use Rattle.jsonptr_text_resolve.specs.declared.format.Format.{Format}
use Rattle.jsonptr_text_resolve.specs.declared.format.Format.TheVariants as format
use Rattle.jsonptr_value.specs.JsonText.{IsCompact}
use Rattle.jptr_tasks.specs.Layouts.{ShowsInLayout, Lays, ReadsBack}
use Rattle.jptr_tasks.specs.Results.{FailsToPatch}
use Rattle.jptr_tasks.specs.declared.difference.PrintedPatch.{PrintedPatch}
use Rattle.jptr_tasks.specs.declared.task_error.TaskError.{TaskError}
use Rattle.jptr_tasks.specs.declared.task_error.TaskError.TheVariants.{NotPatch, PatchFailed, TooDeep, NotInPlace, PatchTooDeep, NotJson, Memory}
use Rattle.jptr_tasks.specs.declared.layout.Layout.{Layout}
use Rattle.jptr_tasks.specs.declared.layout.Layout.TheVariants.{Kept, Compact, Pretty, Sorted, SortedPretty, Raw}

raw_reads : (value : Data) (text : Text) (o : Option Text) → depth value ≤ max_depth → MatchOption o (IsCompact value text) (λ s. text ≡ s) → MatchOption o (read text ≡ Some value) (λ s. text ≡ s)
raw_reads value text None le h = h.reads_back le
raw_reads value text (Some s) le h = h

pub reads_back : (layout : Layout) (value : Data) (text : Text) → depth value ≤ max_depth → ShowsInLayout layout value text → ReadsBack layout value text
reads_back Kept value text le h = h.reads_back le
reads_back Compact value text le h = h.reads_back le
reads_back Pretty value text le h = h.reads_back le
reads_back Sorted value text le h = h.reads_back le
reads_back SortedPretty value text le h = h.reads_back le
reads_back Raw value text le h = raw_reads value text (as_str value) le h

pub patch_reads : (layout : Layout) (os : List Operation) (text : Text) → depth (document_of os) ≤ max_depth → ShowsInLayout layout (document_of os) text → read text ≡ Some (document_of os)
patch_reads Kept os text le h = h.reads_back le
patch_reads Compact os text le h = h.reads_back le
patch_reads Pretty os text le h = h.reads_back le
patch_reads Sorted os text le h = h.reads_back le
patch_reads SortedPretty os text le h = h.reads_back le
patch_reads Raw os text le h = h.reads_back le

-- the object of an operation is one level deeper than its value, and the patch document two
object_within : (k : ℕ) (o : Operation) → HasValueWithin k o → depth (written_object o) ≤ suc k
object_within k (Add path value) h = omega (arith, h)
object_within k (Remove path) h = omega arith
object_within k (Replace path value) h = omega (arith, h)
object_within k (Move from path) h = omega arith
object_within k (Copy from path) h = omega arith
object_within k (Test path value) h = omega (arith, h)

objects_within : (k : ℕ) (os : List Operation) → All (HasValueWithin k) os → items_depth (items_of (map written_object os)) ≤ suc k
objects_within k [] all = omega arith
objects_within k (o ∷ os) all =
    omega (arith, object_within k o (All-head (HasValueWithin k) o os all), objects_within k os (All-tail (HasValueWithin k) o os all))

pub patch_fault : (new : Data) (os : List Operation) (e : TaskError) → All (HasValueWithin (depth new)) os → IsPatchTextFault os e → FailsToDiffer new e
patch_fault new os PatchTooDeep shallow h = omega (arith, objects_within (depth new) os shallow, h)
patch_fault new os (Memory f) shallow h = tt
patch_fault new os other shallow h = absurd h

shown_reads : (layout : Layout) (text out : Text) (d e : Data) → read text ≡ Some d → read text ≡ Some e → ShowsInLayout layout e out → ReadsBack layout d out
shown_reads layout text out d e reads again h =
    let whole : Some e ≡ Some d = sym again ∙ reads in
    let same : e ≡ d = cc in
    subst (λ (v : Data). ReadsBack layout v out) same (reads_back layout e out (depth-read text e again) h)

-- a text whose tokens are laid out anew is read as the same document
formatted_reads : (format : Format) (text out : Text) (d : Data) → read text ≡ Some d → IsFormatted format text out → read out ≡ Some d
formatted_reads format text out d reads h = h.reads ∙ sym h.from ∙ reads

unquoted : (text out : Text) (d : Data) (o : Option Text) → read text ≡ Some d → MatchOption o (out ≡ text) (λ s. out ≡ s) → MatchOption o (read out ≡ Some d) (λ s. out ≡ s)
unquoted text out d None reads h = ap read h ∙ reads
unquoted text out d (Some s) reads h = h

-- the text of a document that is printed in another layout is read as that document
pub restyled : (layout : Layout) (text out : Text) (d : Data) → read text ≡ Some d → Lays layout text out → ReadsBack layout d out
restyled Kept text out d reads h = subst (λ (t : Text). read t ≡ Some d) (sym h) reads
restyled Compact text out d reads h = formatted_reads format.Compact text out d reads h
restyled Pretty text out d reads h = formatted_reads format.Pretty text out d reads h
restyled Sorted text out d reads h = shown_reads Sorted text out d h.0 reads h.1 h.2
restyled SortedPretty text out d reads h = shown_reads SortedPretty text out d h.0 reads h.1 h.2
restyled Raw text out d reads h =
    let whole : Some h.0 ≡ Some d = sym h.1 ∙ reads in
    let same : h.0 ≡ d = cc in
    unquoted text out d (as_str d) reads (subst (λ (v : Data). MatchOption (as_str v) (out ≡ text) (λ s. out ≡ s)) same h.2)

-- without these four reasons, only a failed allocation is left, and that the edit is not made in place
pub no_fault : (a : Text) (p : Data) (layout : Layout) (e : TaskError) → ((f : PatchDocumentError) → IsNoPatch p f → ⊥) → (read a ≡ None → ⊥) → ((os : List Operation) (d : Data) (f : FailedOperation) → IsPatch p os → read a ≡ Some d → FailsBy Numeric (nodes d) os f → ⊥) → ((os : List Operation) → IsPatch p os → IsPatchError a os edit.TooDeep → ⊥) → FailsToPatch a p layout e → ((f : AllocError) × (e ≡ Memory f)) ⊎ ((layout ≡ Kept) × (e ≡ NotInPlace))
no_fault a p layout (NotPatch f) patch json refused deep h = absurd (patch f h)
no_fault a p layout (PatchFailed f) patch json refused deep h = absurd (refused h.0 h.1 f h.2 h.3 h.4)
no_fault a p layout TooDeep patch json refused deep h = absurd (deep h.0 h.1 h.2)
no_fault a p layout NotInPlace patch json refused deep h = inr (h.0, refl)
no_fault a p layout NotJson patch json refused deep h = absurd (json h.1)
no_fault a p layout (Memory f) patch json refused deep h = inl (f, refl)
no_fault a p layout other patch json refused deep h = absurd h

-- a text is read as one document
pub one_read : (text : Text) (d e : Data) → read text ≡ Some d → read text ≡ Some e → d ≡ e
one_read text d e h k =
    let whole : Some d ≡ Some e = sym h ∙ k in
    let same : d ≡ e = cc in
    same

-- the map of a value is that of a document
pub is_document : (d : Data) → IsDocument (nodes d)
is_document d = (map_of-IsTree (content d), map_of-finite (content d))

-- what is printed is read as that document, in each layout except that of a string without quotes
pub printed : (layout : Layout) (text out : Text) (d : Data) → read text ≡ Some d → layout ≢ Raw → Lays layout text out → read out ≡ Some d
printed Kept text out d reads other h = restyled Kept text out d reads h
printed Compact text out d reads other h = restyled Compact text out d reads h
printed Pretty text out d reads other h = restyled Pretty text out d reads h
printed Sorted text out d reads other h = restyled Sorted text out d reads h
printed SortedPretty text out d reads other h = restyled SortedPretty text out d reads h
printed Raw text out d reads other h = absurd (other refl)

-- the inverse of a patch turns the one document that the patch makes into the one before
pub inverse_undoes : (a : Text) (d m patch : Data) (style : Layout) (u : PrintedPatch) → ((ps : List Operation) (l : NodeMap) → IsPatch patch ps → PatchesBy Numeric (nodes d) ps l → l ≡ nodes m) → read a ≡ Some d → IsInverse a patch style u → IsDifference (nodes m) (nodes d) style u
inverse_undoes a d m patch style u one reads inverse =
    let same : inverse.0 ≡ d = one_read a inverse.0 d inverse.3 reads in
    let again : PatchesBy Numeric (nodes d) inverse.1 inverse.2 = subst (λ (q : Data). PatchesBy Numeric (nodes q) inverse.1 inverse.2) same inverse.5 in
    let turned : IsDifference inverse.2 (nodes d) style u = subst (λ (q : Data). IsDifference inverse.2 (nodes q) style u) same inverse.6 in
    subst (λ (n : NodeMap). IsDifference n (nodes d) style u) (one inverse.1 inverse.2 inverse.4 again) turned
