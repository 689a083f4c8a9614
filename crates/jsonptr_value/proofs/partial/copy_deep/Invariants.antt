use Rattle.std.proofs.Common.{◌≡◌, ◌+◌}
use Rattle.serde_json.specs.View.{view}
use Rattle.jsonptr_value.specs.PrivatePartial.{ArePartial, data_of, completed, step_length, copies_length}
use Rattle.jsonptr_value.proofs.partial.copy_deep.Given as goal

-- the partial make the value of the one at hand
abbrev pub invariant-loop-step : goal.invariant-loop-step
invariant-loop-step l = (completed l.stack.items (data_of l.step) ≡ view l.fn.value) × ArePartial l.stack.items

abbrev pub decreases-loop-step : goal.decreases-loop-step
decreases-loop-step l = step_length l.step + copies_length l.stack.items
