use Rattle.std.proofs.Common.{◌≡◌, ℕ, ◌+◌, ◌≤◌, List}
use Rattle.serde_json.specs.Data.{Data}
use Rattle.jsonptr.specs.Node.{NodeMap}
use Rattle.jsonptr_patch.specs.declared.operation.Operation.{Operation}
use Rattle.jsonptr_patch_diff.specs.PrivateDiff.{tokens_of, AppendsParts, IsArray, Splices}
use Rattle.jsonptr_patch_diff.proofs.elements.remove_elements.Given as goal

abbrev pub invariant-loop-done : goal.invariant-loop-done
invariant-loop-done l = record {
  splices : (whole : Data) (first : List Operation) (c d : NodeMap) (len k left togo : ℕ)
      → IsArray c len → k + (l.count + left) ≤ len → l._done + togo ≡ l.count
      → Splices whole first l.fn.patch.items (tokens_of l.at) c d l.index k (l.count + left)
      → Splices whole first l.patch.items (tokens_of l.at) c d l.index (k + l._done) (togo + left);
  parts : AppendsParts (tokens_of l.at) l.fn.patch.items l.patch.items;
  kept : l._done ≡ 0 → l.patch.items ≡ l.fn.patch.items;
}
