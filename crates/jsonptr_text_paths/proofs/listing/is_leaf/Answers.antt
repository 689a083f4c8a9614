use Rattle.std.proofs.Common.{ℕ, ◌==◌, ap, ◌∙◌}
use Rattle.jsonptr_text_paths.proofs.ListingLemmas.{leaf_array, leaf_object}
use Rattle.jsonptr_text_paths.proofs.listing.is_leaf.Goals as goal

pub returns-in-Array : goal.returns-in-Array
returns-in-Array c = leaf_array c.args.value.now c.in-Array.elements c.is_empty.result c.in-Array.is (c.is_empty.ensures ∙ ap (λ (n : ℕ). n == 0) c.in-Array.elements.ok.0)

pub returns-in-Object : goal.returns-in-Object
returns-in-Object c = leaf_object c.args.value.now c.in-Object.members c.is_empty-in-Object.result c.in-Object.is c.is_empty-in-Object.ensures
