-- Which child of a document a token names, for a step down to it (RFC 6901, section 4).
use Rattle.std.specs.Prelude.{◌≡◌, ℕ, ◌<◌, [], Some}
use Rattle.std.specs.Cow.{cow_str_bytes}
use Rattle.jsonptr_grammar.specs.Text.{Text, dec}
use Rattle.jsonptr_tree.specs.Node.{an_object, an_array, NodeMap}
use Rattle.jsonptr_document.specs.Child.{RefusesChild}
use Rattle.jsonptr_document.specs.declared.child_ref.ChildRef.{ChildRef}
use Rattle.jsonptr_document.specs.declared.child_ref.ChildRef.TheVariants.{Element, Member, Missing}

-- `IsIndexIn len x i`: the index `i` is less than `len`, and the token `x` is its decimal text
abbrev pub IsIndexIn : ℕ → Text → ℕ → Type 0
IsIndexIn len x i = (i < len) × (x ≡ dec i)

-- `IsChildRef n x r`: `r` is which child of the root of the map `n` the token `x` names. A `Member`
-- need not exist; an `Element` does
abbrev pub IsChildRef : NodeMap → Text → ChildRef → Type 0
IsChildRef n x (Element i) = (len : ℕ) × (n [] ≡ Some (an_array len)) × IsIndexIn len x i
IsChildRef n x (Member k) = (n [] ≡ Some an_object) × (cow_str_bytes k ≡ x)
IsChildRef n x (Missing e) = RefusesChild n x e
