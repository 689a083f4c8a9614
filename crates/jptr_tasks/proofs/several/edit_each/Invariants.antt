-- The edits so far are made.
use Rattle.std.proofs.Common.{take, string_bytes}
use Rattle.jptr_tasks.specs.Several.{MakesEach}
use Rattle.jptr_tasks.proofs.several.edit_each.Given as goal

abbrev pub invariant-edits : goal.invariant-edits
invariant-edits l = MakesEach l.rules (string_bytes l.fn.text) (take l.index l.edits) (string_bytes l.new)
