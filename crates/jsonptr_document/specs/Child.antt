-- One step into a document (RFC 6901, section 4): the child that a token names, or why there is
-- none.
use Rattle.std.specs.Prelude.{◌≡◌, ℕ, [], ◌∷◌, Some, Ok, Err}
use Rattle.jsonptr_grammar.specs.Text.{Text}
use Rattle.jsonptr_tree.specs.Node.{Step, Path, Scalar, Label, an_object, an_array, a_leaf, NodeMap, NamesStep}
use Rattle.jsonptr_tree.specs.Following.{LacksStep}
use Rattle.jsonptr_base.specs.declared.index.Index.{Index}
use Rattle.jsonptr_base.specs.Index.{Reads, IsWithin}
use Rattle.jsonptr_document.specs.declared.child.ChildError.{ChildError}
use Rattle.jsonptr_document.specs.declared.child.ChildError.TheVariants.{BadIndex, OutOfBounds, NotFound, Unreachable}

-- `FindsChild n stands x e`: the token `x` selects a child of the root of the map `n`, and `e` is
-- the document there, by `stands`
pub record FindsChild {D : Type 0} (n : NodeMap) (stands : Path → D → Type 0)
    (x : Text) (e : D) : Type 0 where
  pub step : Step
  pub named : NamesStep (n []) x step
  pub there : stands (step ∷ []) e

-- `IsChildError label x e`: `e` is why the token `x` names no child of a node with this label, if
-- it names none. The node is a scalar, an object, an array for which `x` is not an index, or one
-- that is too short
abbrev pub IsChildError : Label → Text → ChildError → Type 0
IsChildError label x Unreachable = (v : Scalar) × (label ≡ a_leaf v)
IsChildError label x NotFound = label ≡ an_object
IsChildError label x (BadIndex source) = (len : ℕ) × (label ≡ an_array len) × Reads x (Err source)
IsChildError label x (OutOfBounds source) =
    (len : ℕ) × (index : Index) × (label ≡ an_array len)
    × Reads x (Ok index) × IsWithin index len (Err source)

-- `RefusesChild n x e`: the token `x` names no child of the root of the map `n`, and `e` is why
pub record RefusesChild (n : NodeMap) (x : Text) (e : ChildError) : Type 0 where
  pub label : Label
  pub root : n [] ≡ Some label
  pub lacks : LacksStep n [] x
  pub why : IsChildError label x e
