use Rattle.jsonptr_patch_journal.proofs.MembersLemmas.{moved_has, moved_there, moved_all}
use Rattle.std.proofs.Common.{◌∙◌}
use Rattle.jsonptr_patch_journal.proofs.members.fill.Goals as goal

pub set-requires : goal.set-requires
set-requires c = moved_there c.loop-key.members c.pop_first.new.self c.loop-key.room c.in-Some.key c.in-Some.value c.in-Some.ensures.removal c.loop-key.invariant.0

pub loop-key-preserved : goal.loop-key-preserved
loop-key-preserved c = (
  moved_has c.loop-key.members c.pop_first.new.self c.loop-key.room c.set.new.room c.in-Some.key c.in-Some.value c.in-Some.ensures.removal c.set.ensures.put c.loop-key.invariant.0,
  moved_all c.loop-key.members c.pop_first.new.self c.loop-key.room c.set.new.room c.in-Some.key c.in-Some.value c.in-Some.ensures.removal c.set.ensures.put ∙ c.loop-key.invariant.1,
)
