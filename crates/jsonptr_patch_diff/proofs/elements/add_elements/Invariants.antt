use Rattle.std.proofs.Common.{◌≡◌, ℕ, List}
use Rattle.serde_json.specs.View.{view}
use Rattle.serde_json.specs.declared.value.Value.{Array}
use Rattle.jsonptr.specs.Node.{NodeMap}
use Rattle.jsonptr_patch.specs.declared.operation.Operation.{Operation}
use Rattle.jsonptr_patch_diff.specs.PrivateDiff.{tokens_of, AppendsParts, Splices, array_map}
use Rattle.jsonptr_patch_diff.proofs.elements.add_elements.Given as goal

abbrev pub invariant-loop-index : goal.invariant-loop-index
invariant-loop-index l = record {
  splices : (first : List Operation) (c : NodeMap) (k left : ℕ)
      → Splices (view (Array l.new)) first l.fn.patch.items (tokens_of l.at) c (array_map l.new) l.fn.range.from k left
      → Splices (view (Array l.new)) first l.patch.items (tokens_of l.at) c (array_map l.new) l.index k left;
  parts : AppendsParts (tokens_of l.at) l.fn.patch.items l.patch.items;
  kept : l.fn.range.from ≡ l.index → l.patch.items ≡ l.fn.patch.items;
}
