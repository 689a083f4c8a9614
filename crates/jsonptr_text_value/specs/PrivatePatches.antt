-- Words of private clauses: a document is a patch in one way.
use Rattle.std.specs.Prelude.{◌≡◌, List, [], ◌∷◌}
use mathlib.Core.Path.{ap, sym, ◌∙◌}
use mathlib.Core.HLevel.{⊥_prop, Unit-prop, ×_prop, ×₃_prop, Σ_prop_path}
use Rattle.serde_json.specs.Data.{Data, null, boolean, number, string, array, object, Items, no_items, item}
use Rattle.jsonptr_patch.specs.declared.operation.Operation.{Operation}
use Rattle.jsonptr_patch.specs.declared.operation.Operation.TheVariants.{Add, Remove, Replace, Move, Copy, Test}
use Rattle.jsonptr_patch_document.specs.Object.{IsOperationObject}
use Rattle.jsonptr_patch_document.specs.Document.{AreOperations, IsPatch}
use Rattle.jsonptr_text_value.specs.DataSet.{data_set, data_prop}

abbrev elements : Data → Items
elements null = no_items
elements (boolean b) = no_items
elements (number n) = no_items
elements (string s) = no_items
elements (array ds) = ds
elements (object ms) = no_items

object_prop : (d : Data) (o : Operation) → IsProp (IsOperationObject d o)
object_prop d (Add path value) = ×₃_prop (data_prop _ _) (data_prop _ _) (data_prop _ _)
object_prop d (Remove path) = ×_prop (data_prop _ _) (data_prop _ _)
object_prop d (Replace path value) = ×₃_prop (data_prop _ _) (data_prop _ _) (data_prop _ _)
object_prop d (Move from path) = ×₃_prop (data_prop _ _) (data_prop _ _) (data_prop _ _)
object_prop d (Copy from path) = ×₃_prop (data_prop _ _) (data_prop _ _) (data_prop _ _)
object_prop d (Test path value) = ×₃_prop (data_prop _ _) (data_prop _ _) (data_prop _ _)

operations_prop : (ds : Items) (os : List Operation) → IsProp (AreOperations ds os)
operations_prop no_items [] = Unit-prop
operations_prop no_items (o ∷ os) = ⊥_prop
operations_prop (item d ds) [] = ⊥_prop
operations_prop (item d ds) (o ∷ os) = ×_prop (object_prop d o) (operations_prop ds os)

abbrev IsPatchPair : Data → List Operation → Type 0
IsPatchPair d os = (ds : Items) × ((d ≡ array ds) × AreOperations ds os)

pairs_same : (d : Data) (os : List Operation) (x y : IsPatchPair d os) → x.0 ≡ y.0 → x ≡ y
pairs_same d os x y same = Σ_prop_path (λ ds. ×_prop (data_set d (array ds)) (operations_prop ds os)) same

-- two proofs that a document is a patch are the same
pub IsPatch-prop : (d : Data) (os : List Operation) → IsProp (IsPatch d os)
IsPatch-prop d os = λ x y. ap {A = IsPatchPair d os} {B = IsPatch d os} (λ p. (p.0, p.1.0, p.1.1)) (pairs_same d os (x.0, (x.1, x.2)) (y.0, (y.1, y.2)) (ap elements (sym x.1 ∙ y.1)))
