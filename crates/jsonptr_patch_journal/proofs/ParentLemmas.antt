-- A node is a child of the node at its parent's location.
use Rattle.std.proofs.Common.{◌≡◌, ℕ, zero, suc, ◌<◌, [], ◌∷◌, ◌++◌, Option, Some, None, IsSome, option_and_then, Result, Ok, Err, IfOk, inl, inr, refl, ap, ◌∙◌, subst, arith}
use Rattle.jsonptr.specs.Text.{Text}
use Rattle.jsonptr.specs.Node.{Step, key, place, Path}
use Rattle.jsonptr.specs.Content.{Content, scalar, array, object, Items, no_items, item, items_len, get_item, child, content_at}
use Rattle.jsonptr_tree.proofs.ContentLemmas.{content_at-append}
use Rattle.serde_json.specs.declared.value.Value.{Null}
use Rattle.jsonptr_patch_journal.specs.Location.{contents_of}
use Rattle.jsonptr_patch_journal.specs.Writing.{At}
use Rattle.jsonptr_patch_journal.specs.Changes.{IsThere, HasAt, HasMember, HasElement, TakesChild, TakesAt}

item_within : (ds : Items) (i : ℕ) → IsSome (get_item i ds) → i < items_len ds
item_within no_items i h = let no : ⊥ = cc in absurd no
item_within (item d ds) zero h = omega arith
item_within (item d ds) (suc i) h = let r = item_within ds i h in omega (arith, r)

has_member : (k : Text) (e : Content) → IsSome (child (key k) e) → HasMember k e
has_member k (scalar v) h = let no : ⊥ = cc in absurd no
has_member k (array ds) h = let no : ⊥ = cc in absurd no
has_member k (object ms) h = (ms, refl, h)

has_element : (i : ℕ) (e : Content) → IsSome (child (place i) e) → HasElement i e
has_element i (scalar v) h = let no : ⊥ = cc in absurd no
has_element i (array ds) h = (ds, refl, item_within ds i h)
has_element i (object ms) h = let no : ⊥ = cc in absurd no

one_step : (s : Step) (e : Content) → IsSome (content_at (s ∷ []) e) → IsSome (child s e)
one_step s e h = by_child (child s e) h
  where
    by_child : (o : Option Content) → IsSome (option_and_then (content_at []) o) → IsSome o
    by_child None g = let no : ⊥ = cc in absurd no
    by_child (Some x) g = refl

parent_has : (P : Content → Type 0) (s : Step) (w u : Path) (c : Content) → ((e : Content) → IsSome (child s e) → P e) → w ≡ u ++ s ∷ [] → IsThere w c → HasAt u P c
parent_has P s w u c f split there = by_parent (content_at u c) refl (subst (λ (o : Option Content). IsSome o) (ap (λ (p : Path). content_at p c) split ∙ content_at-append u (s ∷ []) c) there)
  where
    by_parent : (o : Option Content) → content_at u c ≡ o → IsSome (option_and_then (content_at (s ∷ [])) o) → HasAt u P c
    by_parent None is g = let no : ⊥ = cc in absurd no
    by_parent (Some e) is g = (e, is, f e (one_step s e g))

pub parent_has_member : (k : Text) (w u : Path) (c : Content) → w ≡ u ++ key k ∷ [] → IsThere w c → HasAt u (HasMember k) c
parent_has_member k w u c split there = parent_has (HasMember k) (key k) w u c (has_member k) split there

pub parent_has_element : (i : ℕ) (w u : Path) (c : Content) → w ≡ u ++ place i ∷ [] → IsThere w c → HasAt u (HasElement i) c
parent_has_element i w u c split there = parent_has (HasElement i) (place i) w u c (has_element i) split there

-- a removal at a path is one at the root, or of a child of the parent

pub root_taken : {T E : Type 0} (r : Result T E) (w : Path) (c d : Content) → w ≡ [] → IfOk r (λ _. d ≡ contents_of Null) → IfOk r (λ _. (v : Content) × TakesAt w v c d)
root_taken (Ok t) w c d root h = (c, inl (root, refl, h))
root_taken (Err e) w c d root h = tt

pub child_taken : {T E : Type 0} (r : Result T E) (s : Step) (w u : Path) (c d : Content) → w ≡ u ++ s ∷ [] → IfOk r (λ _. (v : Content) × At u (TakesChild s v) c d) → IfOk r (λ _. (v : Content) × TakesAt w v c d)
child_taken (Ok t) s w u c d split h = (h.0, inr (u, s, split, h.1))
child_taken (Err e) s w u c d split h = tt
