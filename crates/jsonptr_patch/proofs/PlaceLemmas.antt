-- Where a value is added, and what adding it there makes of the document.
use Rattle.std.proofs.Common.{◌≡◌, ℕ, ◌≤◌, List, Option, Some, None, IsSome, option_map, inl, inr, refl, sym, ap, subst}
use Rattle.jsonptr.specs.Text.{Text}
use Rattle.jsonptr.specs.Node.{Path, Label, an_object, an_array, Names}
use Rattle.jsonptr.specs.Content.{Content, scalar, array, object, items_len, label_of, map_of, SortedContent}
use Rattle.jsonptr_tree.proofs.ContentLemmas.{content_at-there}
use Rattle.jsonptr_tree.proofs.NodeLemmas.{Names-here}
use Rattle.jsonptr_patch_journal.specs.Changes.{IsThere, IsObjectContent, HasAtLeast}
use Rattle.jsonptr_patch_journal.specs.Undoing.{CanAdd, AddsAt}
use Rattle.jsonptr_patch_journal.specs.declared.addition.Target.{Target}
use Rattle.jsonptr_patch_journal.specs.declared.addition.Target.TheVariants as target
use Rattle.jsonptr_patch.specs.Adding.{Adds, AddsBelow}
use Rattle.jsonptr_patch.specs.PrivateAdding.{IsPlace}
use Rattle.jsonptr_patch.proofs.ChangeMapLemmas.{adds_member, adds_element}
use Rattle.jsonptr_patch.proofs.ChangeOrderLemmas.{sorted_with_member, sorted_with_element}

-- the node at a path that tokens name
pub named_there : (c : Content) (tokens : List Text) (w : Path) → Names (map_of c) tokens w → IsThere w c
named_there c tokens w h =
    let r = content_at-there w c (Names-here (map_of c) tokens w h) in
    subst (λ (o : Option Content). IsSome o) (sym r.1) refl

is_object : (e : Content) → label_of e ≡ an_object → IsObjectContent e
is_object (scalar v) h = let no : ⊥ = cc in absurd no
is_object (array ds) h = let no : ⊥ = cc in absurd no
is_object (object ms) h = (ms, refl)

is_array : (e : Content) (len i : ℕ) → label_of e ≡ an_array len → i ≤ len → HasAtLeast i e
is_array (scalar v) len i h low = let no : ⊥ = cc in absurd no
is_array (array ds) len i h low =
    let same : items_len ds ≡ len = cc in
    (ds, refl, subst (λ (n : ℕ). i ≤ n) (sym same) low)
is_array (object ms) len i h low = let no : ⊥ = cc in absurd no

labelled : (o : Option Content) (l : Label) → option_map label_of o ≡ Some l → (e : Content) × (o ≡ Some e) × (label_of e ≡ l)
labelled None l h = let no : ⊥ = cc in absurd no
labelled (Some e) l h = let same : label_of e ≡ l = cc in (e, refl, same)

pub place_allows : (c : Content) (tokens : List Text) (t : Target) → IsPlace (map_of c) tokens t → CanAdd t c
place_allows c tokens target.Root h = tt
place_allows c tokens (target.Member l k) h = let r = labelled _ an_object h.label in (r.0, r.1, is_object r.0 r.2)
place_allows c tokens (target.Element l i) h = let r = labelled _ (an_array h.0) h.2.label in (r.0, r.1, is_array r.0 h.0 i r.2 h.3.0)

pub place_adds : (c v d : Content) (tokens : List Text) (t : Target) → IsPlace (map_of c) tokens t → AddsAt t v c d → Adds (map_of c) tokens (map_of v) (map_of d)
place_adds c v d tokens target.Root h a = inl (h, ap map_of a)
place_adds c v d tokens (target.Member l k) h a = inr (adds_member _ _ v c d a tokens h.front h.split h.named)
place_adds c v d tokens (target.Element l i) h a =
    inr (subst (λ (ts : List Text). AddsBelow (map_of c) ts (map_of v) (map_of d)) (sym h.2.split) (adds_element _ i v c d a h.2.front h.1 h.0 h.2.named h.2.label h.3))

pub place_sorted : (c v d : Content) (t : Target) → AddsAt t v c d → SortedContent v → SortedContent c → SortedContent d
place_sorted c v d target.Root a h s = subst SortedContent (sym a) h
place_sorted c v d (target.Member l k) a h s = sorted_with_member _ _ v c d a h s
place_sorted c v d (target.Element l i) a h s = sorted_with_element _ i v c d a h s
