use Rattle.std.proofs.Common.{ℕ, ◌==◌, ap, ◌∙◌}
use Rattle.jsonptr_text_paths.proofs.TomlListingLemmas.{leaf_array, leaf_table}
use Rattle.jsonptr_text_paths.proofs.toml_listing.is_leaf.Goals as goal

pub returns-in-Array : goal.returns-in-Array
returns-in-Array c = leaf_array c.args.value.now c.in-Array.elements c.is_empty.result c.in-Array.is (c.is_empty.ensures ∙ ap (λ (n : ℕ). n == 0) c.in-Array.elements.ok.0)

pub returns-in-Table : goal.returns-in-Table
returns-in-Table c = leaf_table c.args.value.now c.in-Table.members c.is_empty-in-Table.result c.in-Table.is c.is_empty-in-Table.ensures
