-- The keys of the members that were read.
use Rattle.std.proofs.Common.{length, map, string_bytes}
use Rattle.jptr_tasks.specs.Nodes.{AreMembers}
use Rattle.jptr_tasks.proofs.node.read_keys.Given as goal

abbrev pub invariant-members : goal.invariant-members
invariant-members l = AreMembers l.initial.reader (map string_bytes l.keys.items) l.reader

abbrev pub decreases-members : goal.decreases-members
decreases-members l = length l.reader
