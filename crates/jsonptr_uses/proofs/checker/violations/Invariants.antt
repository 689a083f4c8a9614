use Rattle.std.proofs.Common.{take}
use Rattle.serde_json.specs.View.{view}
use Rattle.jsonptr_uses.specs.Checking.{IsMet, AreFailing}
use Rattle.jsonptr_uses.proofs.checker.violations.Given as goal

abbrev pub invariant-loop-requirement : goal.invariant-loop-requirement
invariant-loop-requirement l = AreFailing (IsMet (view l.document)) (take l.requirement-index l.required) l.failing.items
