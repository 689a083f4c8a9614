-- The errors of the calls that make the patch that takes a patch back.
use Rattle.std.proofs.Common.{◌≡◌, ℕ, ◌+◌, ◌≤◌, List, All, Some, subst, arith}
use Rattle.std.specs.Prelude.{string_bytes}
use Rattle.serde_json.specs.Data.{Data, depth}
use Rattle.serde_json.specs.Read.{read, max_depth}
use Rattle.serde_json.proofs.Nesting.{depth-read}
use Rattle.jsonptr.specs.Documents.{IsDocument}
use Rattle.jsonptr.specs.Text.{Text}
use Rattle.jsonptr.specs.Json.{nodes, HasSortedKeys}
use Rattle.jsonptr.specs.Node.{NodeMap}
use Rattle.jsonptr_value.proofs.JsonLemmas.{ascends_read}
use Rattle.jsonptr_patch.specs.Inverse.{TakesAllBackBy}
use Rattle.jsonptr_patch.specs.Order.{OperationHasSortedKeys}
use Rattle.jsonptr_patch.specs.declared.comparison.Comparison.{Comparison}
use Rattle.jsonptr_patch.specs.declared.comparison.Comparison.TheVariants.{Numeric}
use Rattle.jsonptr_patch.specs.declared.operation.Operation.{Operation}
use Rattle.jsonptr_patch_document.specs.Document.{IsPatch}
use Rattle.jsonptr_patch_document.specs.Same.{AreSameOperations}
use Rattle.jsonptr_patch_document.specs.Writing.{document_of}
use Rattle.jptr_tasks.proofs.DifferenceLemmas.{one_read, is_document}
use Rattle.jptr_tasks.specs.Inverting.{TakesPatchBack, HasDeepInverse, FailsToInvert}
use Rattle.jptr_tasks.specs.declared.difference.PrintedPatch.{PrintedPatch}
use Rattle.jptr_tasks.specs.PrivateResults.{IsLayoutError, IsNotPatch, IsPatchTextFault, IsApplyFault}
use Rattle.jptr_tasks.specs.declared.task_error.TaskError.{TaskError}
use Rattle.jptr_tasks.specs.declared.task_error.TaskError.TheVariants.{NotPatch, PatchFailed, PatchTooDeep, NotJson, Memory}

-- the document is not a patch
pub not_patch : (text : Text) (p : Data) (e : TaskError) → IsNotPatch p e → FailsToInvert text p e
not_patch text p (NotPatch f) h = h
not_patch text p (Memory f) h = tt
not_patch text p other h = absurd h

-- the text is not JSON
pub not_json : (text : Text) (p : Data) (os : List Operation) (e : TaskError) → IsPatch p os → IsLayoutError text e → FailsToInvert text p e
not_json text p os NotJson is h = ((os, is), h)
not_json text p os (Memory f) is h = tt
not_json text p os other is h = absurd h

-- an operation fails
pub not_applied : (text : Text) (p d : Data) (os : List Operation) (e : TaskError) → IsPatch p os → read text ≡ Some d → IsApplyFault (nodes d) os e → FailsToInvert text p e
not_applied text p d os (PatchFailed f) is reads h = (os, d, is, reads, h)
not_applied text p d os (Memory f) is reads h = tt
not_applied text p d os other is reads h = absurd h

-- what takes the patch back is not printed
pub not_printed : (text : Text) (p d : Data) (os back : List Operation) (e : TaskError) → IsPatch p os → read text ≡ Some d → TakesAllBackBy Numeric (nodes d) os back → (HasSortedKeys d → All OperationHasSortedKeys os → All OperationHasSortedKeys back) → (HasSortedKeys p → All OperationHasSortedKeys os) → IsPatchTextFault back e → FailsToInvert text p e
not_printed text p d os back PatchTooDeep is reads undone sorted values h = (d, os, back, reads, is, undone, (λ s. sorted (ascends_read text d reads) (values s)), h)
not_printed text p d os back (Memory f) is reads undone sorted values h = tt
not_printed text p d os back other is reads undone sorted values h = absurd h

-- and it is not both printed and too deep
pub not_too_deep : ((by : Comparison) (n : NodeMap) (os back others : List Operation) (k : ℕ) → IsDocument n → TakesAllBackBy by n os back → TakesAllBackBy by n os others → All OperationHasSortedKeys others → depth (document_of back) ≤ k + 2 → depth (document_of others) ≤ k + 2) → ((d : Data) (os ps : List Operation) → IsPatch d os → IsPatch d ps → AreSameOperations os ps) → ((by : Comparison) (n : NodeMap) (os ps back : List Operation) → AreSameOperations os ps → TakesAllBackBy by n os back → TakesAllBackBy by n ps back) → (text : Text) (p : Data) (u : PrintedPatch) → HasSortedKeys p → TakesPatchBack text p u → HasDeepInverse text p → ⊥
not_too_deep same one again text p u sorted h k =
    let document : h.0 ≡ k.0 = one_read text h.0 k.0 h.3 k.3 in
    let first : TakesAllBackBy Numeric (nodes k.0) h.1 h.2 = subst (λ (x : Data). TakesAllBackBy Numeric (nodes x) h.1 h.2) document h.5 in
    let second : TakesAllBackBy Numeric (nodes k.0) k.1 h.2 = again Numeric (nodes k.0) h.1 k.1 h.2 (one p h.1 k.1 h.4 k.4) first in
    let low : depth (document_of h.2) ≤ max_depth = depth-read (string_bytes u.text) (document_of h.2) h.6 in
    omega (arith, k.7, same Numeric (nodes k.0) k.1 h.2 k.2 125 (is_document k.0) second k.5 (k.6 sorted) (omega (arith, low)))
