use Rattle.std.proofs.Common.{◌≡◌, ℕ, ◌+◌, ◌<◌, length, get_or}
use Rattle.serde_json.specs.declared.value.Value.{Value}
use Rattle.jsonptr_patch_diff.specs.PrivateSame.{IsSame}
use Rattle.jsonptr_patch_diff.proofs.same.same_suffix.Given as goal

abbrev pub invariant-loop-done : goal.invariant-loop-done
invariant-loop-done l = (j a b : ℕ) (x : Value) → j < l.done → a + j + 1 ≡ length l.left.items → b + j + 1 ≡ length l.right.items → IsSame (get_or l.left.items a x) (get_or l.right.items b x)
