-- A patch document has one list of operations, up to where their values are kept, and these make one document.
use Rattle.std.proofs.Common.{◌≡◌, List}
use Rattle.serde_json.specs.Data.{Data}
use Rattle.jsonptr.specs.Documents.{IsDocument}
use Rattle.jsonptr.specs.Json.{nodes, HasSortedKeys}
use Rattle.jsonptr.specs.Node.{NodeMap}
use Rattle.jsonptr.proofs.Calling.{nodes_one}
use Rattle.jsonptr_patch.specs.Patching.{Patches}
use Rattle.jsonptr_patch.specs.declared.operation.Operation.{Operation}
use Rattle.jsonptr_patch_document.specs.Document.{IsPatch}
use Rattle.jsonptr_patch_document.specs.Same.{AreSameOperations}
use Rattle.jsonptr_uses.proofs.PatchesLemmas.{is_document}

module _
    (one_patch : (d : Data) (os ps : List Operation) → IsPatch d os → IsPatch d ps → AreSameOperations os ps)
    (same_effect : (n m : NodeMap) (os ps : List Operation) → AreSameOperations os ps → Patches n os m → Patches n ps m) where
  -- what is read does what any reading does
  pub patches_as : (p : Data) (n m : NodeMap) (read os : List Operation) → IsPatch p read → Patches n read m → IsPatch p os → Patches n os m
  patches_as p n m read os is done given = same_effect n m read os (one_patch p read os is given) done

  module _
      (one_map : (n m l : NodeMap) (os : List Operation) → IsDocument n → Patches n os m → Patches n os l → m ≡ l) where
    -- and makes the one document with sorted keys
    pub one_document : (p old new d : Data) (read os : List Operation) → IsPatch p read → Patches (nodes old) read (nodes new) → HasSortedKeys new → HasSortedKeys d → IsPatch p os → Patches (nodes old) os (nodes d) → new ≡ d
    one_document p old new d read os is done sorted ordered given makes =
        nodes_one new d sorted ordered (one_map (nodes old) (nodes new) (nodes d) os (is_document old) (patches_as p (nodes old) (nodes new) read os is done given) makes)
