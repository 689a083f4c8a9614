use Rattle.toml.specs.View.{view}
use Rattle.jsonptr.specs.Pointer.{tokens}
use Rattle.jsonptr_toml_edit.proofs.PieceLemmas.{empties_then}
use Rattle.jsonptr_toml_edit.proofs.delete.is_left.Goals as goal

pub returns : goal.returns
returns c = empties_then (tokens c.args.pointer) (tokens c.in-Some.front) _ (view c.empty_value-empty.result) _ _ c.is_alone.result c.in-Some.ensures c.empty_value-empty.ensures c.as_str.ensures.value c.is_alone.ensures
