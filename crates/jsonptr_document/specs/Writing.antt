-- A child that is added to the root of a document, or removed from it.
use Rattle.std.specs.Prelude.{◌≡◌, ℕ, [], ◌∷◌, Option, Some, None, MatchOption}
use Rattle.std.specs.Cow.{cow_str_bytes}
use Rattle.jsonptr_tree.specs.Node.{Step, key, place, Path, an_object, an_array, NodeMap}
use Rattle.jsonptr_tree.specs.Put.{put}
use Rattle.jsonptr_tree.specs.Assigning.{with_room}
use Rattle.jsonptr_tree.specs.Removing.{without_step}
use Rattle.jsonptr_document.specs.declared.child_ref.ChildRef.{ChildRef}
use Rattle.jsonptr_document.specs.declared.child_ref.ChildRef.TheVariants.{Element, Member, Missing}

-- `IsArray n`: the root of the map `n` is an array
abbrev pub IsArray : NodeMap → Type 0
IsArray n = (len : ℕ) × (n [] ≡ Some (an_array len))

-- `IsObject n`: the root of the map `n` is an object
abbrev pub IsObject : NodeMap → Type 0
IsObject n = n [] ≡ Some an_object

-- `Pushes n v m`: `m` is the map `n` of an array, with `v` appended
abbrev pub Pushes : NodeMap → NodeMap → NodeMap → Type 0
Pushes n v m = (len : ℕ) → n [] ≡ Some (an_array len)
    → m ≡ put (with_room n (place len ∷ [])) (place len ∷ []) v

-- `step_of r` is the step to the child `r`, if it is one
abbrev pub step_of : ChildRef → Option Step
step_of (Element i) = Some (place i)
step_of (Member k) = Some (key (cow_str_bytes k))
step_of (Missing e) = None

module _ {D : Type 0} (nodes : D → NodeMap) (stands : D → Path → D → Type 0) where
  -- `Removes d child m answer`: removing the child `child` from the document `d` leaves `m` and returns
  -- `answer`, that child. If there is none, `answer` is `None` and `m` is `d`
  abbrev pub Removes : D → ChildRef → D → Option D → Type 0
  Removes d child m answer = MatchOption answer
      (((s : Step) → step_of child ≡ Some s → nodes d (s ∷ []) ≡ None) × stands d [] m)
      (λ e. (s : Step) × (step_of child ≡ Some s) × stands d (s ∷ []) e
      × (nodes m ≡ without_step s (nodes d)))
