-- Tokens that are not the index of an element, and the document whose child is written.
--
-- Used only by private contracts; no public contract depends on this file.
use Rattle.std.specs.Prelude.{◌≡◌, ℕ, [], ◌∷◌}
use Rattle.jsonptr_grammar.specs.Text.{Text}
use Rattle.jsonptr_tree.specs.Node.{Step, Path, an_array, NodeMap, NamesStep}
use Rattle.jsonptr_tree.specs.Put.{put}
use Rattle.jsonptr_document.specs.declared.child.ChildError.{ChildError}
use Rattle.jsonptr_document.specs.Child.{IsChildError}
use Rattle.jsonptr_document.specs.ChildRef.{IsIndexIn}

-- `LacksElement len x e`: the token `x` is not the decimal text of an index less than `len`, and
-- `e` is why
pub record LacksElement (len : ℕ) (x : Text) (e : ChildError) : Type 0 where
  pub none : (i : ℕ) → IsIndexIn len x i → ⊥
  pub why : IsChildError (an_array len) x e

module _ {D : Type 0} (nodes : D → NodeMap) (stands : D → Path → D → Type 0) (has_sorted_keys : D → Type 0) where
  -- `StepsBack d x e w m`: the document `d` becomes `m` when its child `e`, which the token `x`
  -- names, becomes `w`. If `w` is still the document `e`, then `m` is still `d`; and sorted keys
  -- stay sorted
  abbrev pub StepsBack : D → Text → D → D → D → Type 0
  StepsBack d x e w m =
      ((s : Step) → NamesStep (nodes d []) x s → nodes m ≡ put (nodes d) (s ∷ []) (nodes w))
      × (stands e [] w → stands d [] m)
      × ((has_sorted_keys e → has_sorted_keys w) → has_sorted_keys d → has_sorted_keys m)
