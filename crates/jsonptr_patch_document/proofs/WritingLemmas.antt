-- What is written for operations is read as these operations.
use Rattle.std.proofs.Common.{List, [], ◌∷◌, map, refl}
use Rattle.serde_json.specs.View.{items_of}
use Rattle.jsonptr_patch.specs.declared.operation.Operation.{Operation}
use Rattle.jsonptr_patch.specs.declared.operation.Operation.TheVariants.{Add, Remove, Replace, Move, Copy, Test}
use Rattle.jsonptr_patch_document.specs.Object.{IsOperationObject}
use Rattle.jsonptr_patch_document.specs.Document.{AreOperations, IsPatch}
use Rattle.jsonptr_patch_document.specs.Writing.{written_object, document_of}

-- the object of an operation is that operation
object_read : (o : Operation) → IsOperationObject (written_object o) o
object_read (Add path value) = (refl, refl, refl)
object_read (Remove path) = (refl, refl)
object_read (Replace path value) = (refl, refl, refl)
object_read (Move from path) = (refl, refl, refl)
object_read (Copy from path) = (refl, refl, refl)
object_read (Test path value) = (refl, refl, refl)

objects_read : (os : List Operation) → AreOperations (items_of (map written_object os)) os
objects_read [] = tt
objects_read (o ∷ os) = (object_read o, objects_read os)

-- the document of operations is their patch
pub document_read : (os : List Operation) → IsPatch (document_of os) os
document_read os = (items_of (map written_object os), refl, objects_read os)
